-- `header::find` meets its contract: each return is one case of the definition.
use mathlib.Core.Path.{◌≡◌, sym, ◌∙◌}
use mathlib.Core.Bool.{true}
use native.Mathlib.Omega.{arith}
use Rattle.steps.specs.Told.{found}
use Rattle.klv.specs.Item.{item}
use Rattle.items.specs.Items.{run_step}
use Rattle.items.proofs.Laws.{item-fits}
use Rattle.header.specs.Header.{is_header}
use Rattle.header.proofs.Laws.{part_none, part_no_pack, part_small, part_whole}
use Rattle.header.proofs.find.Goals as goal
use Rattle.header.proofs.find.Goals.{In_ok-k, Else-not-is_header}

is-header : (c : goal.Else-not-is_header) → is_header c.args.s.now ≡ true
is-header c = sym c.is_header.ensures ∙ c.if-not-is_header.false

-- the pack is the first item
is-pack : (c : goal.In_ok-k) → run_step c.args.s.now 0
    ≡ found (item 16 c.args.s.now c.in_ok-k.k) c.in_ok-k.next.at
is-pack c = sym c.in_ok-k.ensures

pub returns-then-not-is_header : goal.returns-then-not-is_header
returns-then-not-is_header c = sym (part_none _ (sym c.is_header.ensures ∙ c.if-not-is_header.true))

pub returns-in_err-k : goal.returns-in_err-k
returns-in_err-k c =
    rw c.from_residual.ensures (sym (part_no_pack _ (is-header (goal.at.returns-in_err-k c).Else-not-is_header) 0 (sym c.in_err-k.ensures)))

pub returns-then-k-lt40 : goal.returns-then-k-lt40
returns-then-k-lt40 c = sym (part_small _ (is-header (goal.at.returns-then-k-lt40 c).Else-not-is_header) _ _ (is-pack (goal.at.returns-then-k-lt40 c).In_ok-k) (omega arith))

pub overflow_sub-s : goal.overflow_sub-s
overflow_sub-s c = omega (arith, item-fits _ _ _ _ _ _ (is-pack (goal.at.overflow_sub-s c).In_ok-k))

pub size_of-len-requires : goal.size_of-len-requires
size_of-len-requires c = omega (arith, item-fits _ _ _ _ _ _ (is-pack (goal.at.size_of-len-requires c).In_ok-k))

pub returns : goal.returns
returns c =
    rw c.size_of-len.ensures
    (sym (part_whole _ (is-header (goal.at.returns c).Else-not-is_header) _ _ (is-pack (goal.at.returns c).In_ok-k) (omega arith)))
