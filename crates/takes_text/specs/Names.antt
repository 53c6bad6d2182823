-- The names of a frame's fields, as the C header has them, in lowercase, and those of what only one side has:
-- docs/RULES.md, "L14. Two recordings of one take".
use Rattle.std.specs.Prelude.{ℕ, List, [], ◌∷◌}

-- `focal_length`
abbrev pub focal_length_name : List ℕ
focal_length_name = 102 ∷ 111 ∷ 99 ∷ 97 ∷ 108 ∷ 95 ∷ 108 ∷ 101 ∷ 110 ∷ 103 ∷ 116 ∷ 104 ∷ []

-- `focus_distance`
abbrev pub focus_distance_name : List ℕ
focus_distance_name = 102 ∷ 111 ∷ 99 ∷ 117 ∷ 115 ∷ 95 ∷ 100 ∷ 105 ∷ 115 ∷ 116 ∷ 97 ∷ 110 ∷ 99 ∷ 101 ∷ []

-- `t_stop`
abbrev pub t_stop_name : List ℕ
t_stop_name = 116 ∷ 95 ∷ 115 ∷ 116 ∷ 111 ∷ 112 ∷ []

-- `exposure_time`
abbrev pub exposure_time_name : List ℕ
exposure_time_name = 101 ∷ 120 ∷ 112 ∷ 111 ∷ 115 ∷ 117 ∷ 114 ∷ 101 ∷ 95 ∷ 116 ∷ 105 ∷ 109 ∷ 101 ∷ []

-- `shutter_angle`
abbrev pub shutter_angle_name : List ℕ
shutter_angle_name = 115 ∷ 104 ∷ 117 ∷ 116 ∷ 116 ∷ 101 ∷ 114 ∷ 95 ∷ 97 ∷ 110 ∷ 103 ∷ 108 ∷ 101 ∷ []

-- `tilt_roll`
abbrev pub tilt_roll_name : List ℕ
tilt_roll_name = 116 ∷ 105 ∷ 108 ∷ 116 ∷ 95 ∷ 114 ∷ 111 ∷ 108 ∷ 108 ∷ []

-- `exposure_index`
abbrev pub exposure_index_name : List ℕ
exposure_index_name = 101 ∷ 120 ∷ 112 ∷ 111 ∷ 115 ∷ 117 ∷ 114 ∷ 101 ∷ 95 ∷ 105 ∷ 110 ∷ 100 ∷ 101 ∷ 120 ∷ []

-- `white_balance`
abbrev pub white_balance_name : List ℕ
white_balance_name = 119 ∷ 104 ∷ 105 ∷ 116 ∷ 101 ∷ 95 ∷ 98 ∷ 97 ∷ 108 ∷ 97 ∷ 110 ∷ 99 ∷ 101 ∷ []

-- `nd_density`
abbrev pub nd_density_name : List ℕ
nd_density_name = 110 ∷ 100 ∷ 95 ∷ 100 ∷ 101 ∷ 110 ∷ 115 ∷ 105 ∷ 116 ∷ 121 ∷ []

-- `effective_focal_length`
abbrev pub effective_focal_length_name : List ℕ
effective_focal_length_name = 101 ∷ 102 ∷ 102 ∷ 101 ∷ 99 ∷ 116 ∷ 105 ∷ 118 ∷ 101 ∷ 95 ∷ 102 ∷ 111 ∷ 99 ∷ 97 ∷ 108 ∷ 95 ∷ 108 ∷ 101 ∷ 110 ∷ 103 ∷ 116 ∷ 104 ∷ []

-- `white_balance_factors`
abbrev pub white_balance_factors_name : List ℕ
white_balance_factors_name = 119 ∷ 104 ∷ 105 ∷ 116 ∷ 101 ∷ 95 ∷ 98 ∷ 97 ∷ 108 ∷ 97 ∷ 110 ∷ 99 ∷ 101 ∷ 95 ∷ 102 ∷ 97 ∷ 99 ∷ 116 ∷ 111 ∷ 114 ∷ 115 ∷ []

-- `focus_lds`
abbrev pub focus_lds_name : List ℕ
focus_lds_name = 102 ∷ 111 ∷ 99 ∷ 117 ∷ 115 ∷ 95 ∷ 108 ∷ 100 ∷ 115 ∷ []

-- `focus_motor`
abbrev pub focus_motor_name : List ℕ
focus_motor_name = 102 ∷ 111 ∷ 99 ∷ 117 ∷ 115 ∷ 95 ∷ 109 ∷ 111 ∷ 116 ∷ 111 ∷ 114 ∷ []

-- `zoom_lds`
abbrev pub zoom_lds_name : List ℕ
zoom_lds_name = 122 ∷ 111 ∷ 111 ∷ 109 ∷ 95 ∷ 108 ∷ 100 ∷ 115 ∷ []

-- `zoom_motor`
abbrev pub zoom_motor_name : List ℕ
zoom_motor_name = 122 ∷ 111 ∷ 111 ∷ 109 ∷ 95 ∷ 109 ∷ 111 ∷ 116 ∷ 111 ∷ 114 ∷ []

-- `iris_lds`
abbrev pub iris_lds_name : List ℕ
iris_lds_name = 105 ∷ 114 ∷ 105 ∷ 115 ∷ 95 ∷ 108 ∷ 100 ∷ 115 ∷ []

-- `iris_motor`
abbrev pub iris_motor_name : List ℕ
iris_motor_name = 105 ∷ 114 ∷ 105 ∷ 115 ∷ 95 ∷ 109 ∷ 111 ∷ 116 ∷ 111 ∷ 114 ∷ []

-- `tint`
abbrev pub tint : List ℕ
tint = 116 ∷ 105 ∷ 110 ∷ 116 ∷ []

-- `sensor_rate`
abbrev pub sensor_rate_name : List ℕ
sensor_rate_name = 115 ∷ 101 ∷ 110 ∷ 115 ∷ 111 ∷ 114 ∷ 95 ∷ 114 ∷ 97 ∷ 116 ∷ 101 ∷ []

-- `values`
abbrev pub values_name : List ℕ
values_name = 118 ∷ 97 ∷ 108 ∷ 117 ∷ 101 ∷ 115 ∷ []

-- `over-long`
abbrev pub over_long_name : List ℕ
over_long_name = 111 ∷ 118 ∷ 101 ∷ 114 ∷ 45 ∷ 108 ∷ 111 ∷ 110 ∷ 103 ∷ []

-- `only`
abbrev pub only_name : List ℕ
only_name = 111 ∷ 110 ∷ 108 ∷ 121 ∷ []
