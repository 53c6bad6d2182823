-- `klv_text::put_record` puts the record: each of its texts is put behind the one before it.
use Rattle.klv_text.specs.Text.{record_text}
use Rattle.text.proofs.Putting.{◌▹◌, length-put}
use Rattle.klv_text.proofs.put_record.Goals as goal
use Rattle.klv_text.proofs.put_record.Goals.{After-slice_known-10-1}

pub returns : goal.returns
unfolding record_text
returns c = c.put_decimal-a.ensures ▹ c.put_byte-b.ensures ▹ c.put_hex-c.ensures ▹ c.put_byte-d.ensures ▹ c.put_decimal-e.ensures ▹ c.put_byte-f.ensures ▹ c.put_decimal-g.ensures ▹ c.put_byte-h.ensures ▹ c.put_decimal.ensures

pub shape_of-out : goal.shape_of-out
shape_of-out c = length-put (returns (goal.at.shape_of-out c).After-slice_known-10-1)
