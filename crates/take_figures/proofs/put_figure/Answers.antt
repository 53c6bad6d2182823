-- `take_figures::put_figure` puts `-` for nothing, and else the value.
use Rattle.take_figures.specs.Figures.{figure_text}
use Rattle.take_figures.proofs.put_figure.Goals as goal

pub returns-in-Some : goal.returns-in-Some
unfolding figure_text
returns-in-Some c = rw c.in-Some.is c.put_value.ensures

pub returns-in-None : goal.returns-in-None
unfolding figure_text
returns-in-None c = rw c.in-None.is c.put_byte.ensures
