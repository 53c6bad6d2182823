-- `written_klvs::put_parts` meets its contract: the three are stored one behind the other, and the length is never refused.
use mathlib.Core.Path.{◌∙◌}
use native.Mathlib.Omega.{arith}
use Rattle.text.proofs.Putting.{length-put}
use Rattle.written_lengths.proofs.Answers.{into-done, done-ok}
use Rattle.written_lengths.proofs.Forms.{form_length, sets_all}
use Rattle.written_klvs.proofs.Going.{klv-put}
use Rattle.written_klvs.proofs.Runs.{klv-sixteen}
use Rattle.written_klvs.proofs.put_parts.Goals as goal

pub unwrap-requires : goal.unwrap-requires
unwrap-requires c = done-ok _ _ _ _ _ c.requires.1 (form_length _ _) (omega (arith, length-put c.put_all.ensures)) c.put_length.ensures

pub returns : goal.returns
returns c =
    let done = c.put_length.ensures.output
    ∙ into-done _ _ _ _ _ c.requires.1 (form_length _ _) (omega (arith, length-put c.put_all.ensures)) in
    rw (done, c.put_all.ensures.wrote) at c.put_all-2.ensures.wrote
    ∙ klv-put _ _ _ _ 0 c.requires.0 ∙ sets_all _ _ (klv-sixteen _ _ _ c.requires.0 ∙ omega (arith, c.requires))
