-- `items::item_at` meets its contract: each return is one case of the definition.
use Rattle.std.specs.Prelude.{Ok}
use Prim.Native.Nat.{◌+◌}
use mathlib.Core.Path.{◌≡◌, sym, ◌∙◌}
use native.Mathlib.Omega.{arith}
use Rattle.lengths.proofs.Laws.{Taken}
use Rattle.items.specs.Items.{length_in}
use Rattle.items.proofs.Laws.{taken_in, item-end, item_else, item-short, item-whole}
use Rattle.items.proofs.item_at.Goals as goal
use Rattle.items.proofs.item_at.Goals.{In-Ok}

is-length : (c : goal.In-Ok) → length_in c.args.ber c.args.s.now (c.args.at + c.args.key) ≡ Ok c.in-Ok.f
is-length c = sym c.length_in-l.ensures ∙ c.in-Ok.is

is-long : (c : goal.In-Ok) → Taken c.args.s.now (c.args.at + c.args.key) c.in-Ok.f.size
is-long c = taken_in _ _ _ _ (is-length c)

pub returns-then-s-key : goal.returns-then-s-key
returns-then-s-key c = sym (item-end _ _ _ _ (omega arith))

pub returns-then-s-key-2 : goal.returns-then-s-key-2
returns-then-s-key-2 c = sym (item-end _ _ _ _ (omega arith))

pub returns-in_default : goal.returns-in_default
returns-in_default c = sym (item_else _ _ _ _ (omega arith) _ (sym c.length_in-l.ensures ∙ c.in_default.is))

pub overflow_add-value : goal.overflow_add-value
overflow_add-value c = omega (arith, is-long (goal.at.overflow_add-value c).In-Ok)

pub overflow_sub-room : goal.overflow_sub-room
overflow_sub-room c = omega (arith, is-long (goal.at.overflow_sub-room c).In-Ok)

pub returns-then-room-n : goal.returns-then-room-n
returns-then-room-n c = sym (item-short _ _ _ _ (omega arith) _ (is-length (goal.at.returns-then-room-n c).In-Ok) (omega arith))

pub returns : goal.returns
returns c = sym (item-whole _ _ _ _ (omega arith) _ (is-length (goal.at.returns c).In-Ok) (omega arith))
