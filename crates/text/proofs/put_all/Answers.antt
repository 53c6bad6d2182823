-- `text::put_all` puts its bytes, as many as there is room for: after i turns the first i of them are put.
use mathlib.Core.Path.{◌≡◌, ◌∙◌}
use native.Mathlib.Omega.{arith}
use Rattle.text.proofs.Putting.{put_past, put-start, put-more, put_cut, length-put}
use Rattle.text.proofs.put_all.Goals as goal

pub returns-then-out-at : goal.returns-then-out-at
returns-then-out-at c = put_past _ _ _ c.if-out-at.true

pub loop-i-init : goal.loop-i-init
loop-i-init c = put-start _ _

pub loop-i-preserved : goal.loop-i-preserved
loop-i-preserved c = let l = c.loop-i in put-more _ _ l.i (omega arith) (omega (arith, length-put l.invariant)) l.invariant

pub returns : goal.returns
returns c =
    let l = c.loop-i in
    let e : l.i ≡ c.min-n.result = omega arith in
    rw (← e) (put_cut _ _ _ _ l.i (omega arith) (e ∙ c.min-n.ensures) l.invariant)
