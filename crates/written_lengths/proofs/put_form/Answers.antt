-- `written_lengths::put_form` meets its contract: one byte, or the first and then the number's.
use native.Mathlib.Omega.{arith}
use lib.ListN.{length, length-set}
use mathlib.Core.Path.{◌∙◌}
use Rattle.written_numbers.proofs.Written.{placed-there}
use Rattle.written_lengths.proofs.Sizes.{bound_least, bound_small}
use Rattle.written_lengths.proofs.Forms.{form_length, form_one, form_more, sets_all}
use Rattle.written_lengths.proofs.put_form.Goals as goal

pub overflow_cast-form : goal.overflow_cast-form
overflow_cast-form c = omega (arith, bound_small (length c.args.form.now) c.args.n (omega arith) c.requires.1)

pub bounds-form-0 : goal.bounds-form-0
bounds-form-0 c = omega (arith, bound_least (length c.args.form.now) c.args.n c.requires.1)

pub returns-then-size-lt2 : goal.returns-then-size-lt2
returns-then-size-lt2 c = form_one (length c.args.form.now) c.args.n _ _ (omega arith) c.requires.1 ∙ sets_all _ _ (form_length _ _)

pub returns : goal.returns
returns c =
    c.put_number.ensures ∙ placed-there _ _ _ _ (simp length-set (omega arith)) ∙ form_more (length c.args.form.now) _ _ _ (omega arith)
    ∙ sets_all _ _ (form_length _ _)
