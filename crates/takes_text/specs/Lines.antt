-- A difference as lines of text: docs/RULES.md, "L14. Two recordings of one take".
use Rattle.std.specs.Prelude.{ℕ, ◌+◌, ◌/◌, ◌%◌, ◌^◌, List, [], ◌∷◌, ◌++◌, Bool, cond, eqb, get_or, Option, None}
use Rattle.text.specs.Write.{decimal_of}
use Rattle.frame_differences.specs.declared.Said.{Said}
use Rattle.frame_differences.specs.Said.{said_of}
use Rattle.take_frames.specs.declared.Recorder.{Recorder}
use Rattle.take_frames.specs.declared.Recorder.TheVariants.{Main, Backup}
use Rattle.take_frames.specs.declared.Both.{Both}
use Rattle.take_frames.specs.declared.Kind.{Kind}
use Rattle.take_frames.specs.declared.Kind.TheVariants as kind
use Rattle.takes.specs.declared.Difference.{Difference}
use Rattle.takes_text.specs.Names.{focal_length_name, focus_distance_name, t_stop_name, exposure_time_name, shutter_angle_name, tilt_roll_name, exposure_index_name, white_balance_name, nd_density_name, effective_focal_length_name, white_balance_factors_name, focus_lds_name, focus_motor_name, zoom_lds_name, zoom_motor_name, iris_lds_name, iris_motor_name, tint, sensor_rate_name, values_name, over_long_name, only_name}
use Rattle.take_figures.specs.Figures.{figure_text}

-- whether field k is one of those that differ
abbrev pub has : ℕ → ℕ → Bool
has m k = eqb (m / 2 ^ k % 2) 1

abbrev pub space : List ℕ
space = 32 ∷ []

abbrev pub newline : List ℕ
newline = 10 ∷ []

-- `NUMBER FIELD MAIN BACKUP`
abbrev pub head_of : ℕ → List ℕ → List ℕ
head_of n name = decimal_of n ++ space ++ name ++ space

abbrev pub line_of : ℕ → List ℕ → List ℕ → List ℕ → List ℕ
line_of n name main backup = head_of n name ++ main ++ space ++ backup ++ newline

-- field k's line, where it differs
unfoldable pub field_line : ℕ → ℕ → ℕ → List ℕ → List (Option Said) → List (Option Said) → List ℕ
field_line n m k name x y = cond (has m k) (line_of n name (figure_text (get_or x k None)) (figure_text (get_or y k None))) []

-- the fields by their names, in the order of the header
unfoldable pub field_names : List (List ℕ)
field_names =
    focal_length_name ∷
    focus_distance_name ∷
    t_stop_name ∷
    exposure_time_name ∷
    shutter_angle_name ∷
    tilt_roll_name ∷
    exposure_index_name ∷
    white_balance_name ∷
    nd_density_name ∷
    effective_focal_length_name ∷
    white_balance_factors_name ∷
    focus_lds_name ∷
    focus_motor_name ∷
    zoom_lds_name ∷
    zoom_motor_name ∷
    iris_lds_name ∷
    iris_motor_name ∷
    tint ∷
    sensor_rate_name ∷
    []

abbrev pub name_of : ℕ → List ℕ
name_of k = get_or field_names k []

-- the lines of the fields from k on, by their names
unfoldable pub lines_from : ℕ → ℕ → List (Option Said) → List (Option Said) → ℕ → List (List ℕ) → List ℕ
lines_from n m x y k [] = []
lines_from n m x y k (name ∷ names) = field_line n m k name x y ++ lines_from n m x y (k + 1) names

abbrev pub field_lines : ℕ → Both → List ℕ
field_lines n b = lines_from n b.fields (said_of b.main) (said_of b.backup) 0 field_names

-- `yes -` or `- yes`: which side has something
unfoldable pub yes_of : Recorder → List ℕ
yes_of Main = 121 ∷ 101 ∷ 115 ∷ 32 ∷ 45 ∷ 10 ∷ []
yes_of Backup = 45 ∷ 32 ∷ 121 ∷ 101 ∷ 115 ∷ 10 ∷ []

abbrev pub sided_line : ℕ → List ℕ → Recorder → List ℕ
sided_line n name r = head_of n name ++ yes_of r

-- `values`, `over-long`, `only`
unfoldable pub kind_lines : ℕ → Kind → List ℕ
kind_lines n (kind.Fields b) = field_lines n b
kind_lines n (kind.Values r) = sided_line n values_name r
kind_lines n (kind.Overlong r) = sided_line n over_long_name r
kind_lines n (kind.Only r) = sided_line n only_name r

abbrev pub difference_lines : Difference → List ℕ
difference_lines d = kind_lines d.number d.kind
