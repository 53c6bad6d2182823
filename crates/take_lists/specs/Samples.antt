-- Worked numbers of the report: docs/RULES.md, "L14. Two recordings of one take".
use Rattle.std.specs.Prelude.{ℕ, ◌^◌, ◌≡◌, List, [], ◌∷◌, ◌++◌, map, true, false, Option, Some, None, Ok, Err}
use Rattle.std.specs.Float.{binary32, binary64}
use Rattle.std.specs.Float.Ieee.{of_bits}
use Rattle.frame_values.specs.declared.Distance.{Distance}
use Rattle.frame_values.specs.declared.Distance.TheVariants as distance
use Rattle.frame_values.specs.declared.TStop.{TStop}
use Rattle.frame_values.specs.declared.TStop.TheVariants as stop
use Rattle.frame_values.specs.declared.Frame.{Frame}
use Rattle.frame_walks.specs.Labels.{picture_metadata, frame_data}
use Rattle.frame_differences.specs.declared.Said.{Said}
use Rattle.frame_differences.specs.declared.Said.TheVariants as said
use Rattle.frame_differences.specs.Said.{of_double, of_distance, said_of}
use Rattle.frame_differences.specs.Mask.{mask_of}
use Rattle.take_frames.specs.declared.Recorder.TheVariants.{Main, Backup}
use Rattle.take_frames.specs.declared.Kind.{Kind}
use Rattle.take_frames.specs.declared.Kind.TheVariants as kind
use Rattle.take_frames.specs.declared.Recorded.{Recorded}
use Rattle.takes.specs.declared.EndTooLarge.TheVariants.{First, Second}
use Rattle.take_frames.specs.Compared.{fields}
use Rattle.takes.specs.Takes.{difference, takes, takes_step}
use Rattle.takes.specs.Differences.{differences, recorded_in, differences_of}
use Rattle.take_lists.specs.Order.{fields_of}

-- exposure index 800, a focus distance, a T-stop and a tint by its bits; nothing else
abbrev pub sample : Option Distance → Option TStop → ℕ → Frame
sample d t tint = record {
  focal_length = None;
  focus_distance = d;
  t_stop = t;
  exposure_time = None;
  shutter_angle = None;
  tilt_roll = None;
  exposure_index = Some 800;
  white_balance = None;
  nd_density = None;
  effective_focal_length = None;
  white_balance_factors = None;
  encoders = record {
    focus_lds = None;
    focus_motor = None;
    zoom_lds = None;
    zoom_motor = None;
    iris_lds = None;
    iris_motor = None;
  };
  tint = Some (of_bits binary64 tint);
  sensor_rate = None;
}

abbrev pub metre : Option Distance
metre = Some (distance.Metres (of_bits binary32 0x3f800000))

-- infinity and +0.0 against 1.0 m and -0.0
abbrev pub main : Frame
main = sample (Some distance.Infinity) None 0

abbrev pub backup : Frame
backup = sample metre None (2 ^ 63)

abbrev pub has : Frame → Recorded
has f = record { overlong = false; values = Some f }

abbrev pub none : Recorded
none = record { overlong = false; values = None }

abbrev pub long : Recorded
long = record { overlong = true; values = None }

-- fields 1 and 17: focus distance and tint
abbrev pub Masks : Type 0
Masks =
    (mask_of (said_of main) (said_of backup) ≡ 0x20002)
    × (mask_of (said_of backup) (said_of main) ≡ 0x20002)
    × (mask_of (said_of main) (said_of main) ≡ 0)
    × (mask_of (said_of (sample (Some distance.Infinity) None 0)) (said_of (sample None None 0)) ≡ 2)
    × (mask_of (said_of (sample metre (Some (stop.Is (of_bits binary32 0))) 0)) (said_of (sample metre (Some (stop.Linear 0)) 0)) ≡ 4)
    × (fields_of 19 0 0x20002 ≡ 1 ∷ 17 ∷ [])

abbrev pub Reported : Type 0
Reported =
    (differences 0 (has main ∷ []) (has backup ∷ []) ≡ difference 0 (fields 0x20002 main backup) ∷ [])
    × (differences 0 (has main ∷ has backup ∷ []) (has main ∷ []) ≡ difference 1 (kind.Only Main) ∷ [])
    × (differences 0 (long ∷ []) (has main ∷ []) ≡ difference 0 (kind.Overlong Main) ∷ [])
    × (differences 0 (long ∷ []) (none ∷ []) ≡ difference 0 (kind.Overlong Main) ∷ [])
    × (differences 0 (none ∷ []) (has main ∷ []) ≡ difference 0 (kind.Values Backup) ∷ [])
    × (differences 0 (long ∷ none ∷ []) (long ∷ none ∷ none ∷ []) ≡ difference 2 (kind.Only Backup) ∷ [])
    × (◌≡◌ {A = List _} (differences 0 (long ∷ none ∷ has main ∷ []) (long ∷ none ∷ has main ∷ [])) [])

-- 18 bytes: `PICTURE_METADATA`, one byte of value, which is 0
abbrev pub short : List ℕ
short = picture_metadata ++ (1 ∷ 0 ∷ [])

abbrev pub Files : Type 0
Files =
    (recorded_in short 18 ≡ none ∷ [])
    × (differences_of short 18 [] 0 ≡ difference 0 (kind.Only Main) ∷ [])
    × (differences_of short 18 short 18 ≡ [])
    × (differences_of [] 0 [] 0 ≡ [])

-- the first file's refusal comes before the second's
abbrev pub Refusals : Type 0
Refusals =
    (takes_step [] 1 [] 1 (takes 0 0 0) ≡ Err First)
    × (takes_step [] 0 [] 1 (takes 0 0 0) ≡ Err Second)
    × (takes_step [] 0 [] 0 (takes 0 0 0) ≡ Ok None)
    × (takes_step short 18 [] 0 (takes 0 0 0) ≡ Ok (Some (difference 0 (kind.Only Main), takes 18 0 1)))

-- an item of an ALEXA 35 with a number
abbrev pub item_key : ℕ → ℕ → List ℕ
item_key a b = 0x06 ∷ 0x0e ∷ 0x2b ∷ 0x34 ∷ 0x01 ∷ 0x01 ∷ 0x01 ∷ 0x0e ∷ 0x0e ∷ 0x17 ∷ 0x01 ∷ 0x02 ∷ a ∷ b ∷ 0x00 ∷ 0x00 ∷ []

-- 96 bytes: `FRAME_DATA` with a set of three items: distance in millimetres, exposure index 800, tint
abbrev pub take35 : List ℕ → ℕ → List ℕ
take35 millimetres sign =
    frame_data ++ (0x81 ∷ 78 ∷ []) ++ item_key 0 0 ++ (61 ∷ [])
    ++ item_key 0x0d 0x01 ++ (4 ∷ []) ++ millimetres
    ++ item_key 0x0e 0x03 ++ (2 ∷ 0x03 ∷ 0x20 ∷ [])
    ++ item_key 0x0e 0x06 ++ (4 ∷ sign ∷ 0 ∷ 0 ∷ 0 ∷ [])

-- infinity and +0.0 in the main file, 1,000 mm and -0.0 in the backup
abbrev pub main_file : List ℕ
main_file = take35 (0xff ∷ 0xff ∷ 0xff ∷ 0xff ∷ []) 0

abbrev pub backup_file : List ℕ
backup_file = take35 (0x00 ∷ 0x00 ∷ 0x03 ∷ 0xe8 ∷ []) 0x80

-- the fields that differ, and what the distances and the tints of both sides say
unfoldable pub seen : Kind → List (ℕ × Option Said)
seen (kind.Fields b) =
    (b.fields, of_distance b.main.focus_distance)
    ∷ (b.fields, of_distance b.backup.focus_distance)
    ∷ (b.fields, of_double b.main.tint)
    ∷ (b.fields, of_double b.backup.tint)
    ∷ []
seen (kind.Values r) = []
seen (kind.Overlong r) = []
seen (kind.Only r) = []

abbrev pub Takes35 : Type 0
Takes35 =
    map (λ d. seen d.kind) (differences_of main_file 96 backup_file 96)
    ≡ ((0x20002, Some said.Infinity) ∷ (0x20002, Some (said.Single 0x3f800000)) ∷ (0x20002, Some (said.Double 0)) ∷ (0x20002, Some (said.Double (2 ^ 63))) ∷ []) ∷ []
