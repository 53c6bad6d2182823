-- `takes_text::put_difference` puts the lines of each kind.
use Rattle.takes_text.specs.Lines.{kind_lines}
use Rattle.takes_text.proofs.put_difference.Goals as goal

pub returns-in-Fields : goal.returns-in-Fields
unfolding kind_lines
returns-in-Fields c = rw c.in-Fields.is c.put_fields.ensures

pub returns-in-Values : goal.returns-in-Values
unfolding kind_lines
returns-in-Values c = rw c.in-Values.is c.put_sided.ensures

pub returns-in-Overlong : goal.returns-in-Overlong
unfolding kind_lines
returns-in-Overlong c = rw c.in-Overlong.is c.put_sided-in-Overlong.ensures

pub returns-in-Only : goal.returns-in-Only
unfolding kind_lines
returns-in-Only c = rw c.in-Only.is c.put_sided-in-Only.ensures
