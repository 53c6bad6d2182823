-- `take_figures::put_value` puts each kind of value.
use mathlib.Core.Path.{sym}
use Rattle.take_figures.specs.Figures.{value_text}
use Rattle.take_figures.proofs.put_value.Goals as goal

pub returns-in-Single : goal.returns-in-Single
unfolding value_text
returns-in-Single c = rw (c.in-Single.is, sym c.from.ensures) c.put_bits.ensures

pub returns-in-Double : goal.returns-in-Double
unfolding value_text
returns-in-Double c = rw c.in-Double.is c.put_bits-in-Double.ensures

pub returns-in-Whole : goal.returns-in-Whole
unfolding value_text
returns-in-Whole c = rw c.in-Whole.is c.put_decimal.ensures

pub returns-in-Infinity : goal.returns-in-Infinity
unfolding value_text
returns-in-Infinity c = rw c.in-Infinity.is c.put_all.ensures

pub returns-in-Linear : goal.returns-in-Linear
unfolding value_text
returns-in-Linear c = rw (c.in-Linear.is, sym c.from-in-Linear.ensures) c.put_decimal-in-Linear.ensures

pub returns-in-Angles : goal.returns-in-Angles
unfolding value_text
returns-in-Angles c = rw c.in-Angles.is c.put_pair.ensures

pub returns-in-Factors : goal.returns-in-Factors
unfolding value_text
returns-in-Factors c = rw c.in-Factors.is c.put_three.ensures
