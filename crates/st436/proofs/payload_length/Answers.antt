-- `st436::payload_length` meets its contract: each return is one case of the definition.
use Prim.Native.Nat.{◌+◌}
use mathlib.Core.Path.{◌≡◌, sym, ◌∙◌}
use native.Mathlib.Omega.{arith}
use Rattle.parts.proofs.Parts.{number-there}
use Rattle.st436.specs.Lines.{cut_to}
use Rattle.st436.proofs.Laws.{payload_short, payload_first, payload_second, payload_there}
use Rattle.st436.proofs.payload_length.Goals as goal
use Rattle.st436.proofs.payload_length.Goals.{After-min-cut}

-- the array's bytes, cut to the sample count
cut_of : (c : goal.After-min-cut) → c.min-cut.result ≡ cut_to c.args.s.now c.args.at
unfolding cut_to
cut_of c =
    let n = c.number_at.ensures ∙ number-there _ (c.args.at + 4) 2 (λ i. (c.type_inv.s i).fits) (omega arith) (omega arith) in
    rw (n, c.requires.1) at c.min-cut.ensures

pub returns-then-cut-lt4 : goal.returns-then-cut-lt4
returns-then-cut-lt4 c = sym (payload_short _ _ _ (cut_of (goal.at.returns-then-cut-lt4 c).After-min-cut) (omega arith))

pub returns-then-s-at-ne67 : goal.returns-then-s-at-ne67
returns-then-s-at-ne67 c = sym (payload_first _ _ _ (cut_of (goal.at.returns-then-s-at-ne67 c).After-min-cut) (omega arith) c.if-s-at-ne67.true)

pub returns-then-s-at-ne5 : goal.returns-then-s-at-ne5
returns-then-s-at-ne5 c = sym (payload_second _ _ _ (cut_of (goal.at.returns-then-s-at-ne5 c).After-min-cut) (omega arith) c.if-s-at-ne67.false c.if-s-at-ne5.true)

pub returns : goal.returns
returns c = sym (payload_there _ _ _ (cut_of (goal.at.returns c).After-min-cut) (omega arith) c.if-s-at-ne67.false c.if-s-at-ne5.false)
