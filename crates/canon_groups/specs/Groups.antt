-- The fields of a Private Camera Metadata by its packs, each by its id and its raw fields: docs/RULES.md, "Frame values".
use Rattle.std.specs.Prelude.{ℕ, ◌/◌, ◌%◌, List, [], ◌∷◌, cond, eqb, get_or, Option, Some, None}
use Rattle.canon_values.specs.declared.Value.{Value}
use Rattle.canon_values.specs.declared.Value.TheVariants.{Code}
use Rattle.canon_groups.specs.declared.Pack.{Pack}
use Rattle.canon_groups.specs.declared.Lens.{Lens}
use Rattle.canon_groups.specs.declared.Modes.{Modes}
use Rattle.canon_groups.specs.declared.Shutter.{Shutter}
use Rattle.canon_groups.specs.declared.Balance.{Balance}
use Rattle.canon_groups.specs.declared.Gain.{Gain}
use Rattle.canon_groups.specs.declared.Ranges.{Ranges}
use Rattle.canon_values.specs.Values.{tenths, zoom, quotient, aperture, two_bits, whole, balance_mode, balance_preset, line_index, decibels, sensitivity, dynamic_range, offset, flag, iso_mode, put}

-- a field after a pack of that id, which is the field's where it is k
unfoldable pub after : ℕ → ℕ → Option Value → Option Value → Option Value
after id k old new = cond (eqb id k) (put old new) old

-- one of a pack's raw fields, by their order in the table
abbrev pub raw : List ℕ → ℕ → ℕ
raw fs i = get_or fs i 0

unfoldable pub lens_after : ℕ → List ℕ → Lens → Lens
lens_after id fs g = record {
  focal_length = after id 1 g.focal_length (tenths (raw fs 0) 0xffff);
  electric_zoom = after id 1 g.electric_zoom (zoom (raw fs 1));
  f_number = after id 5 g.f_number (aperture (raw fs 0) (raw fs 1));
  t_number = after id 10 g.t_number (aperture (raw fs 0) (raw fs 1));
  real_focal_length = after id 16 g.real_focal_length (tenths (raw fs 0) 0xffffffff);
  focal_length_35 = after id 17 g.focal_length_35 (tenths (raw fs 0) 0xffffffff);
  set_distortion = after id 18 g.set_distortion (Some (flag (raw fs 0)));
  lens_value = after id 18 g.lens_value (offset (raw fs 1));
}

unfoldable pub modes_after : ℕ → List ℕ → Modes → Modes
modes_after id fs g = record {
  focus = after id 2 g.focus (Some (two_bits (raw fs 0)));
  stabilizer = after id 2 g.stabilizer (Some (two_bits (raw fs 1)));
  aperture_mode = after id 2 g.aperture_mode (Some (Code (raw fs 2)));
  infrared = after id 8 g.infrared (Some (Code (raw fs 0)));
  high_sensitivity = after id 8 g.high_sensitivity (sensitivity (raw fs 1) (raw fs 2));
  iso = after id 20 g.iso (iso_mode (raw fs 0));
}

unfoldable pub shutter_after : ℕ → List ℕ → Shutter → Shutter
shutter_after id fs g = record {
  speed = after id 3 g.speed (quotient (raw fs 0) (raw fs 1) 0xffff);
  mode = after id 4 g.mode (Some (two_bits (raw fs 0)));
  value = after id 4 g.value (quotient (raw fs 1) (raw fs 2) 0xff);
}

unfoldable pub balance_after : ℕ → List ℕ → Balance → Balance
balance_after id fs g = record {
  mode = after id 6 g.mode (balance_mode (raw fs 0));
  preset = after id 6 g.preset (balance_preset (raw fs 1));
  accurate = after id 6 g.accurate (Some (Code (raw fs 2)));
  temperature = after id 6 g.temperature (whole (raw fs 3) 32767);
  isotemperature = after id 6 g.isotemperature (line_index (raw fs 4));
}

unfoldable pub gain_after : ℕ → List ℕ → Gain → Gain
gain_after id fs g = record {
  mode = after id 11 (after id 7 g.mode (Some (Code (raw fs 0)))) (Some (Code (raw fs 0)));
  level = after id 11 (after id 7 g.level (decibels (raw fs 1) 127 (raw fs 3))) (decibels (raw fs 2) 4095 (raw fs 1));
  nd_filter = after id 11 (after id 7 g.nd_filter (whole (raw fs 2) 255)) (whole (raw fs 3) 0xffff);
  iso_speed = after id 9 g.iso_speed (whole (raw fs 0) 0xffffffff);
  base_iso = after id 19 g.base_iso (whole (raw fs 0) 0xffffffff);
}

unfoldable pub ranges_after : ℕ → List ℕ → Ranges → Ranges
ranges_after id fs g = record {
  camera = after id 12 g.camera (dynamic_range (raw fs 0));
  base_gamma = after id 13 g.base_gamma (tenths (raw fs 0) 0xffffffff);
  tilt = after id 14 g.tilt (offset (raw fs 0));
  roll = after id 15 g.roll (offset (raw fs 0));
}

-- the raw fields of a pack that is given by its bytes and the numbers of two and of four of them, by id; where these are of one
-- number, the fields are the table's bits of it (`in_table` of proofs/)
unfoldable pub raw_table : Pack → List (List ℕ)
raw_table p =
    []
    ∷ (p.first ∷ p.last ∷ [])
    ∷ ((p.b0 / 64) ∷ (p.b0 / 16 % 4) ∷ (p.b0 / 8 % 2) ∷ [])
    ∷ (p.first ∷ p.last ∷ [])
    ∷ ((p.b0 / 64) ∷ p.middle ∷ p.b3 ∷ [])
    ∷ (p.first ∷ p.last ∷ [])
    ∷ ((p.b0 / 32) ∷ (p.b0 % 32) ∷ (p.b1 / 128) ∷ (p.middle % 32768) ∷ p.b3 ∷ [])
    ∷ ((p.b0 / 128) ∷ (p.b0 % 128) ∷ p.b1 ∷ (p.b2 / 16) ∷ [])
    ∷ ((p.b0 / 64) ∷ (p.b0 % 16) ∷ (p.b1 % 2) ∷ [])
    ∷ (p.whole ∷ [])
    ∷ (p.first ∷ p.last ∷ [])
    ∷ ((p.b0 / 128) ∷ (p.b0 / 16 % 8) ∷ (p.first % 4096) ∷ p.last ∷ [])
    ∷ (p.whole ∷ [])
    ∷ (p.whole ∷ [])
    ∷ (p.first ∷ [])
    ∷ (p.first ∷ [])
    ∷ (p.whole ∷ [])
    ∷ (p.whole ∷ [])
    ∷ ((p.b0 / 128) ∷ p.last ∷ [])
    ∷ (p.whole ∷ [])
    ∷ ((p.b0 % 4) ∷ [])
    ∷ []

unfoldable pub raws_of : Pack → List ℕ
raws_of p = get_or (raw_table p) p.id []

-- before the first pack
abbrev pub no_lens : Lens
no_lens = record { focal_length = None; electric_zoom = None; f_number = None; t_number = None; real_focal_length = None; focal_length_35 = None; set_distortion = None; lens_value = None }

abbrev pub no_modes : Modes
no_modes = record { focus = None; stabilizer = None; aperture_mode = None; infrared = None; high_sensitivity = None; iso = None }

abbrev pub no_shutter : Shutter
no_shutter = record { speed = None; mode = None; value = None }

abbrev pub no_balance : Balance
no_balance = record { mode = None; preset = None; accurate = None; temperature = None; isotemperature = None }

abbrev pub no_gain : Gain
no_gain = record { mode = None; level = None; nd_filter = None; iso_speed = None; base_iso = None }

abbrev pub no_ranges : Ranges
no_ranges = record { camera = None; base_gamma = None; tilt = None; roll = None }
