-- How long the text of a file's outline is. Assumes nothing.
use Prim.Native.Nat.{ℕ, ◌+◌, ◌-◌, ◌*◌, ◌≤◌}
use mathlib.Core.Path.{refl}
use mathlib.Core.List.{List}
use native.Mathlib.Omega.{arith}
use lib.ListN.{length}
use Rattle.walk.specs.Walk.{finished_by, stepped}
use Rattle.walk.proofs.Answers.{finished_never}
use Rattle.text.proofs.Sizes.{length-decimal}
use Rattle.outline_lines.specs.Lines.{rest_of}
use Rattle.outline_text.specs.Outline.{run_opens, file_outline}
use Rattle.outline_text.specs.Text.{text_of}
use Rattle.outline_text.proofs.Going.{walk_moves}
use Rattle.spans.proofs.Step.{next}
use Rattle.outline_sizes.specs.Sizes.{SixForEach, CountedWhole}
use Rattle.outline_sizes.proofs.Lines.{digits_below}
use Rattle.outline_sizes.proofs.Values.{Pays, paid, line_paid, label_paid, head_paid, values_paid}

module _ (limit digits more : ℕ) (w : ℕ → ℕ) (k : Pays limit digits more w) where
  -- at file level nothing is left behind the records, so their bytes pay for all
  file_paid : (left : ℕ) (s : List ℕ) (e : ℕ) → 1 + left ≤ 8 → e ≤ length s → length s ≤ limit → length (text_of 1 (file_outline left s e)) ≤ w (length s)
  unfolding rest_of
  file_paid left s e h l m =
      omega (
        arith,
        k.start,
        paid w 0 (length s) 1 (run_opens left s) (λ q. 0) (finished_by stepped s e) e (walk_moves s e) (finished_never stepped s e)
            (λ p q n x. omega (arith, k.start, k.steep p 0 (length s) (omega arith)))
            (λ p i q x. let f = next s e p i q x in
            let t = f.within l in (
              omega (
                arith,
                line_paid limit digits more w k 16 1 i (omega arith) (omega arith) f.short,
                label_paid limit digits more w k 1 s m i left h (λ n z. (values_paid limit digits more w k n).1),
                k.for_label,
                head_paid limit digits more w k p 17 i.klv.len q (omega arith),
              ),
              t,
            )),
      )

six : Pays 99999 5 7 (λ n. 6 * n)
six =
    record {
      few = λ n h. digits_below 4 n (omega arith);
      start = refl;
      steep = λ p n q h. omega arith;
      for_rest = omega arith;
      for_tag = omega arith;
      for_run = omega arith;
      for_label = omega arith;
    }

pub six_for_each : SixForEach
six_for_each s e depth l d h = file_paid 99999 5 7 (λ n. 6 * n) six (depth - 1) s e (omega arith) l (omega arith)

-- numbers of any size have 20 digits at most
fourteen : (limit : ℕ) → Pays limit 20 14 (λ n. 14 * n)
fourteen limit =
    record {
      few = λ n h. length-decimal n;
      start = refl;
      steep = λ p n q h. omega arith;
      for_rest = omega arith;
      for_tag = omega arith;
      for_run = omega arith;
      for_label = omega arith;
    }

pub counted-whole : CountedWhole
counted-whole s e depth l d h =
    omega (arith, file_paid (length s) 20 14 (λ n. 14 * n) (fourteen (length s)) (depth - 1) s e (omega arith) l (omega arith))
