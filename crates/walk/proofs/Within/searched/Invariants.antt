-- `walk::Within::searched` meets its contract. The loop's invariant: a search from where it stands leads where the one that was asked for leads.
use Prim.Native.Nat.{◌-◌}
use mathlib.Core.Path.{◌≡◌}
use Rattle.walk.specs.declared.Turn.TheVariants.{Search}
use Rattle.walk.specs.Walk.{on_turn, walked}
use Rattle.walk.proofs.Within.searched.Given as goal

abbrev pub invariant-loop-from : goal.invariant-loop-from
invariant-loop-from l = on_turn (walked l.self.limit l.self.bytes.now l.self.end) l.self.bytes.now l.self.end l.from (Search l.q) ≡ on_turn (walked l.self.limit l.self.bytes.now l.self.end) l.self.bytes.now l.self.end l.from (Search l.from)

abbrev pub decreases-loop-from : goal.decreases-loop-from
decreases-loop-from l = l.self.end - l.q
