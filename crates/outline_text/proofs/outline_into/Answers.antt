-- `outline_text::outline_into` meets its contract: it counts the text in no room, and writes it where there is room.
use native.Mathlib.Omega.{arith}
use Rattle.outline_text.proofs.Said.{call_refused, call_flat, call_deep, call_longer, call_done}
use Rattle.outline_text.proofs.outline_into.Goals as goal

pub returns-then-s-end : goal.returns-then-s-end
returns-then-s-end c =
    let all = call_refused _ _ _ _ (omega arith) in
    record { result_value = all.0; out_after = all.1 }

pub returns-then-depth-lt1 : goal.returns-then-depth-lt1
returns-then-depth-lt1 c =
    let all = call_flat _ _ _ _ (omega arith) (omega arith) in
    record { result_value = all.0; out_after = all.1 }

pub returns-then-depth-gt8 : goal.returns-then-depth-gt8
returns-then-depth-gt8 c =
    let all = call_deep _ _ _ _ (omega arith) (omega arith) in
    record { result_value = all.0; out_after = all.1 }

pub returns-then-out-n : goal.returns-then-out-n
returns-then-out-n c =
    let all = call_longer _ _ _ _ (omega arith) (omega arith) (omega arith) c.file_outline-n.ensures (omega arith) in
    record { result_value = all.0; out_after = all.1 }

pub returns : goal.returns
returns c =
    let all = call_done _ _ _ _ (omega arith) (omega arith) (omega arith) c.file_outline-n.ensures
    (omega arith) (omega arith) c.file_outline.ensures in
    record { result_value = all.0; out_after = all.1 }
