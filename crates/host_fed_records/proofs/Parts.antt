-- Bytes that are written as one part stand one behind the other. Assumes nothing.
use Prim.Native.Nat.{ℕ, ◌+◌, ◌≤◌}
use mathlib.Core.Path.{◌≡◌, sym, ◌∙◌}
use mathlib.Core.List.{List}
use native.Mathlib.Omega.{arith}
use lib.ListN.{length}
use lib.Seq.{sets, take_all}
use borrow.Rule.Slice.PartMut.{put_mid}
use Rattle.text.proofs.Putting as text

pub put_part : (s o ys : List ℕ) (at k : ℕ) → at + length s ≤ length o → k ≡ length s → ys ≡ s → put_mid at k o ys ≡ sets o at s
put_part s o ys at k h q t = (text.put_part s o ys at (length s) k (omega arith) (omega arith) q (t ∙ sym (take_all (length s) s (omega arith)))).wrote
