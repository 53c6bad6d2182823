-- What a record is to a frame walk: docs/RULES.md, "Frame walks".
use Rattle.std.specs.Prelude.{ℕ, Bool, true, false, cond, ◌&&◌, ◌||◌, List, nat_le, nat_lt}
use Rattle.labels.specs.Label.{agree_but, same_label}
use Rattle.klv.specs.Item.{Item, past}
use Rattle.frame_walks.specs.declared.Kind.{Kind}
use Rattle.frame_walks.specs.declared.Kind.TheVariants.{Frame, Given, Other}
use Rattle.frame_walks.specs.declared.Camera.{Camera}
use Rattle.frame_walks.specs.declared.Camera.TheVariants.{Sony, Arri, Canon}
use Rattle.frame_walks.specs.Labels.{ancillary, picture_metadata, frame_data, package_metadata, sequence_info}

-- Sony: the `ANCILLARY` label, all 16 bytes compared
unfoldable pub sony_kind : List ℕ → Kind
sony_kind label = cond (agree_but 16 16 16 label ancillary) Frame Other

-- ARRI: `PICTURE_METADATA` as the same label, or `FRAME_DATA` with bytes 7, 13 and 15 free
unfoldable pub arri_kind : List ℕ → Kind
arri_kind label = cond (same_label label picture_metadata || agree_but 7 13 15 label frame_data) Frame Other

-- Canon: the values of two labels, as same labels, are given, up to 1,048,576 bytes; else as Sony
unfoldable pub canon_kind : List ℕ → ℕ → Kind
canon_kind label len = cond (nat_le len 1048576 && (same_label label package_metadata || same_label label sequence_info)) Given (sony_kind label)

unfoldable pub kind_of : Camera → List ℕ → ℕ → Kind
kind_of Sony label len = sony_kind label
kind_of Arri label len = arri_kind label
kind_of Canon label len = canon_kind label len

-- each has its own longest element
unfoldable pub longest_of : Camera → ℕ
longest_of Sony = 23723672
longest_of Arri = 8192
longest_of Canon = 23723672

abbrev pub kind : Camera → Item → Kind
kind camera i = kind_of camera i.key i.klv.len

unfoldable pub is_frame : Kind → Bool
is_frame Frame = true
is_frame Given = false
is_frame Other = false

-- a longer element is over-long
abbrev pub over_long : Camera → Item → Bool
over_long camera i = is_frame (kind camera i) && nat_lt (longest_of camera) i.klv.len

-- and the walk goes on from its v instead of stepping
unfoldable pub goes_on_at : Camera → Item → ℕ
goes_on_at camera i = cond (over_long camera i) i.klv.value (past i.klv)
