-- `frame_differences::fields` meets its contract: from the last field down, the mask is that of the fields from k on.
use Prim.Native.Nat.{◌≤◌}
use mathlib.Core.Path.{◌≡◌}
use lib.ListN.{length, drop}
use Rattle.frame_differences.specs.Mask.{mask_of}
use Rattle.frame_differences.proofs.fields.Given as goal

abbrev pub invariant-loop-k : goal.invariant-loop-k
invariant-loop-k l = (l.k ≤ 19) × (length l.a ≡ 19) × (length l.b ≡ 19) × (l.mask ≡ mask_of (drop l.k l.a) (drop l.k l.b))

abbrev pub decreases-loop-k : goal.decreases-loop-k
decreases-loop-k l = l.k
