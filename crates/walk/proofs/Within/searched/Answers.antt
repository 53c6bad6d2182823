-- `walk::Within::searched` meets its contract. The loop's invariant: a search from where it stands leads where the one that was asked for leads.
use Prim.Native.Nat.{◌<◌}
use mathlib.Core.Path.{◌≡◌, refl, sym, ap, ◌∙◌}
use native.Mathlib.Omega.{arith}
use Rattle.search.specs.Search.{search_from}
use Rattle.search.proofs.Laws.{end-within, search_up}
use Rattle.walk.specs.declared.Turn.TheVariants.{Search}
use Rattle.walk.specs.Walk.{on_turn, walked}
use Rattle.walk.proofs.Laws.{rules_moves}
use Rattle.walk.proofs.Walking.{turn_found, turn_lost, walk_stop, walk_record, walk_search}
use Rattle.walk.proofs.Within.searched.Goals as goal
use Rattle.walk.proofs.Within.searched.Goals.{After-next_key-p}

-- the key's place is where the search leads
seeks : (c : goal.After-next_key-p) → c.next_key-p.result ≡ search_from c.args.self.bytes.now c.args.self.end c.loop-from.q
seeks c = c.next_key-p.ensures ∙ sym (end-within _ _ _ c.args.self.inside)

-- so what the rules lead to there is where the search that was asked for leads
leads : (c : goal.After-next_key-p) → c.next_key-p.result < c.args.self.end
    → walked c.args.self.limit c.args.self.bytes.now c.args.self.end c.next_key-p.result
    ≡ on_turn (walked c.args.self.limit c.args.self.bytes.now c.args.self.end) c.args.self.bytes.now c.args.self.end c.args.from (Search c.args.from)
leads c h =
    let a = c.args in
    ap (walked a.self.limit a.self.bytes.now a.self.end) (seeks c) ∙ sym (turn_found _ _ _ _ _ (omega (arith, seeks c))) ∙ c.loop-from.invariant

pub loop-from-init : goal.loop-from-init
loop-from-init c = refl

pub returns-then-self-p : goal.returns-then-self-p
returns-then-self-p c = sym (turn_lost _ _ _ _ _ (omega (arith, seeks (goal.at.returns-then-self-p c).After-next_key-p))) ∙ c.loop-from.invariant

pub returns-in-Stop : goal.returns-in-Stop
returns-in-Stop c =
    sym (walk_stop _ _ _ _ (sym c.look.ensures ∙ c.in-Stop.is)) ∙ leads (goal.at.returns-in-Stop c).After-next_key-p (omega arith)

pub returns-in-Record : goal.returns-in-Record
returns-in-Record c =
    sym (walk_record _ _ _ _ _ (sym c.look.ensures ∙ c.in-Record.is)) ∙ leads (goal.at.returns-in-Record c).After-next_key-p (omega arith)

pub loop-from-smaller : goal.loop-from-smaller
loop-from-smaller c =
    omega (arith, rules_moves _ _ _ _ _ (sym c.look.ensures ∙ c.in-Search.is), seeks (goal.at.loop-from-smaller c).After-next_key-p, search_up c.args.self.bytes.now c.args.self.end c.loop-from.q)

pub loop-from-preserved : goal.loop-from-preserved
loop-from-preserved c =
    sym (walk_search _ _ _ _ _ _ (sym c.look.ensures ∙ c.in-Search.is)) ∙ leads (goal.at.loop-from-preserved c).After-next_key-p (omega arith)
