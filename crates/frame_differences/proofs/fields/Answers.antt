-- `frame_differences::fields` meets its contract: from the last field down, the mask is that of the fields from k on.
use Prim.Native.Nat.{◌-◌}
use mathlib.Core.Path.{◌≡◌, refl, sym, ap, ◌∙◌}
use native.Mathlib.Omega.{arith}
use lib.ListN.{length}
use mir.Val.{bool_byte}
use Rattle.frame_differences.proofs.Same.{derived-bit}
use Rattle.frame_differences.proofs.Laws.{row_length, mask_more, mask_over, mask_fits, bit_small}
use Rattle.std.specs.Prelude.{None, get_or}
use Rattle.frame_differences.specs.Mask.{bit}
use Rattle.frame_differences.proofs.fields.Goals as goal
use Rattle.frame_differences.proofs.fields.Goals.{After-from}

-- what a turn adds
is_bit : (c : After-from) → c.from.result ≡ bit (get_or c.row-a.result (c.loop-k.k - 1) None) (get_or c.row-b.result (c.loop-k.k - 1) None)
is_bit c = c.from.ensures ∙ ap bool_byte c.ne.ensures ∙ derived-bit _ _

pub loop-k-init : goal.loop-k-init
loop-k-init c =
    let h : length c.row-a.result ≡ 19 = ap length c.row-a.ensures ∙ row_length _ in
    (omega arith, h, ap length c.row-b.ensures ∙ row_length _, mask_over c.row-a.result c.row-b.result h)

pub overflow_mul-mask : goal.overflow_mul-mask
overflow_mul-mask c =
    let l = c.loop-k in
    let m = mask_fits _ _ l.k l.mask l.invariant.1 l.invariant.3 in
    omega (arith, m)

pub overflow_add-mask : goal.overflow_add-mask
overflow_add-mask c =
    let l = c.loop-k in
    let m = mask_fits _ _ l.k l.mask l.invariant.1 l.invariant.3 in
    let d = bit_small _ _ _ (is_bit (goal.at.overflow_add-mask c).After-from) in
    omega (arith, m, d)

pub loop-k-smaller : goal.loop-k-smaller
loop-k-smaller c = omega arith

pub loop-k-preserved : goal.loop-k-preserved
loop-k-preserved c =
    let l = c.loop-k in (
      omega arith,
      l.invariant.1,
      l.invariant.2,
      rw (l.invariant.3, (is_bit (goal.at.loop-k-preserved c).After-from)) (sym (mask_more _ _ _ _ l.k (omega arith) (omega arith) (omega arith))),
    )

pub returns : goal.returns
returns c =
    let l = c.loop-k in
    let z : l.k ≡ 0 = omega arith in
    l.invariant.3 ∙ rw (z, c.row-a.ensures, c.row-b.ensures) refl
