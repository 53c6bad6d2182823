-- `klvstream::put_whole` meets its contract: the lines of 65,536 bytes fit the room.
use Rattle.std.proofs.Common.{◌≡◌, ◌≤◌, length, arith, rules}
use Rattle.std.proofs.lemmas.Result.{IfOk-weaker}
use Rattle.io.proofs.Counting.{prefix_len_of_le}
use Rattle.text.proofs.Sizes.{put-room}
use Rattle.fed_text.specs.Lines.{Lists}
use Rattle.fed_text.proofs.Fits.{whole}
use Rattle.klvstream.proofs.put_whole.Goals as goal
use Rattle.klvstream.proofs.put_whole.Goals.{Start}

label : (c : goal.Start) → length c.args.st.label ≡ 16
label c = search rules

pub returns : goal.returns
returns c =
    let lists = c.put_piece.ensures.ok in
    let room : 458752 ≤ length c.args.out.now = omega arith in
    record {
      out_after = IfOk-weaker _ _ _ (λ l (x : Lists c.args.st c.args.piece.now c.args.out.now 0 c.put_piece.new.out l). whole _ _ (label (goal.at.returns c).Start) c.requires room x.put) lists;
      prefix_len = IfOk-weaker _ _ _ (λ l (x : Lists c.args.st c.args.piece.now c.args.out.now 0 c.put_piece.new.out l). prefix_len_of_le _ _ (put-room x.put (omega arith))) lists;
    }
