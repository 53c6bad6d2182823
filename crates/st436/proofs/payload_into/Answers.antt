-- `st436::payload_into` meets its contract: there is room for the whole element, or the length is known before anything is
-- put.
use mathlib.Core.Path.{◌∙◌}
use native.Mathlib.Omega.{arith}
use Rattle.st436.proofs.Payloads.{too_long, put_whole, put-fitting}
use Rattle.st436.proofs.payload_into.Goals as goal

pub returns-then-s-out : goal.returns-then-s-out
returns-then-s-out c =
    let all = put-fitting _ _ _ _ (omega arith) c.put_payload-put.ensures in
    record { result_value = all.0; out_after = all.1 }

pub returns-then-out-needed : goal.returns-then-out-needed
returns-then-out-needed c =
    let all = too_long _ _ _ c.length_of-needed.ensures (omega arith) in
    record { result_value = all.0; out_after = all.1 }

pub returns : goal.returns
returns c =
    let a = c.args in
    let w = put_whole a.s.now a.out.now _ c.length_of-needed.ensures (omega arith) in
    record { result_value = w.0; out_after = c.put_payload.ensures.wrote ∙ w.1 }
