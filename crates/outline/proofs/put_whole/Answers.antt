-- `outline::put_whole` meets its contract: the outline of 65,536 bytes fits the room.
use native.Mathlib.Omega.{arith}
use Rattle.outline.proofs.Printing.{printed-long, printed-done, printed-refused}
use Rattle.outline.proofs.put_whole.Goals as goal

pub returns-then-more : goal.returns-then-more
returns-then-more c =
    let all = printed-long _ _ _ c.if-more.true c.put_all.ensures (omega arith) in
    record { out_after = all.0; prefix_len = all.1 }

pub returns-in-Ok : goal.returns-in-Ok
returns-in-Ok c =
    let all = printed-done _ _ _ c.requires (omega arith) _ c.if-more.false _ c.in-Ok.ensures.result_value _ c.in-Ok.ensures.out_after in
    record { out_after = all.0; prefix_len = all.1 }

pub returns-in-Err : goal.returns-in-Err
returns-in-Err c =
    let all = printed-refused _ _ c.args.out.now c.requires (omega arith) _ c.if-more.false _ c.in-Err.ensures.result_value c.put_all-in-Err.ensures (omega arith) in
    record { out_after = all.0; prefix_len = all.1 }
