-- What the code makes of a pack's bytes and numbers is what the definitions make of its raw fields. Assumes nothing.
use Prim.Native.Nat.{ℕ, ◌/◌, ◌%◌}
use mathlib.Core.Path.{◌≡◌, refl, ap, ◌∙◌}
use mathlib.Core.Bool.{Bool, true, false}
use borrow.Author.Tests.{eqb-true}
use lib.Dec.{eqb}
use Rattle.std.specs.Prelude.{Option, Some}
use Rattle.canon_values.specs.declared.Value.{Value}
use Rattle.canon_values.specs.declared.Value.TheVariants.{Code}
use Rattle.canon_values.specs.Values.{tenths, zoom, quotient, aperture, two_bits, whole, balance_mode, balance_preset, line_index, decibels, sensitivity, dynamic_range, offset, flag, iso_mode}
use Rattle.canon_groups.specs.declared.Pack.{Pack}
use Rattle.canon_groups.specs.declared.Lens.{Lens}
use Rattle.canon_groups.specs.declared.Modes.{Modes}
use Rattle.canon_groups.specs.declared.Shutter.{Shutter}
use Rattle.canon_groups.specs.declared.Balance.{Balance}
use Rattle.canon_groups.specs.declared.Gain.{Gain}
use Rattle.canon_groups.specs.declared.Ranges.{Ranges}
use Rattle.canon_groups.specs.Groups.{after, raw, raw_table, raws_of, lens_after, modes_after, shutter_after, balance_after, gain_after, ranges_after}

-- a pack of another id makes nothing of a field
pub after_by : (id k : ℕ) (old a b : Option Value) → (id ≡ k → a ≡ b) → after id k old a ≡ after id k old b
unfolding after
after_by id k old a b h = go (eqb id k) refl
  where
    go : (t : Bool) → eqb id k ≡ t → after id k old a ≡ after id k old b
    go true e = rw (h (eqb-true id k e))
    go false e = rw e

module _ (p : Pack) where
  pub lens_raws : (g r : Lens)
      → r.focal_length ≡ after p.id 1 g.focal_length (tenths p.first 0xffff)
      → r.electric_zoom ≡ after p.id 1 g.electric_zoom (zoom p.last)
      → r.f_number ≡ after p.id 5 g.f_number (aperture p.first p.last)
      → r.t_number ≡ after p.id 10 g.t_number (aperture p.first p.last)
      → r.real_focal_length ≡ after p.id 16 g.real_focal_length (tenths p.whole 0xffffffff)
      → r.focal_length_35 ≡ after p.id 17 g.focal_length_35 (tenths p.whole 0xffffffff)
      → r.set_distortion ≡ after p.id 18 g.set_distortion (Some (flag (p.b0 / 128)))
      → r.lens_value ≡ after p.id 18 g.lens_value (offset p.last)
      → r ≡ lens_after p.id (raws_of p) g
  unfolding lens_after raws_of raw_table
  lens_raws g r e1 e2 e3 e4 e5 e6 e7 e8 =
      λ i. record {
        focal_length = (e1 ∙ after_by p.id 1 g.focal_length (tenths p.first 0xffff) (tenths (raw (raws_of p) 0) 0xffff) (λ e. rw e)) i;
        electric_zoom = (e2 ∙ after_by p.id 1 g.electric_zoom (zoom p.last) (zoom (raw (raws_of p) 1)) (λ e. rw e)) i;
        f_number = (e3 ∙ after_by p.id 5 g.f_number (aperture p.first p.last) (aperture (raw (raws_of p) 0) (raw (raws_of p) 1)) (λ e. rw e)) i;
        t_number = (e4 ∙ after_by p.id 10 g.t_number (aperture p.first p.last) (aperture (raw (raws_of p) 0) (raw (raws_of p) 1)) (λ e. rw e)) i;
        real_focal_length = (e5 ∙ after_by p.id 16 g.real_focal_length (tenths p.whole 0xffffffff) (tenths (raw (raws_of p) 0) 0xffffffff) (λ e. rw e)) i;
        focal_length_35 = (e6 ∙ after_by p.id 17 g.focal_length_35 (tenths p.whole 0xffffffff) (tenths (raw (raws_of p) 0) 0xffffffff) (λ e. rw e)) i;
        set_distortion = (e7 ∙ after_by p.id 18 g.set_distortion (Some (flag (p.b0 / 128))) (Some (flag (raw (raws_of p) 0))) (λ e. rw e)) i;
        lens_value = (e8 ∙ after_by p.id 18 g.lens_value (offset p.last) (offset (raw (raws_of p) 1)) (λ e. rw e)) i;
      }

  pub modes_raws : (g r : Modes)
      → r.focus ≡ after p.id 2 g.focus (Some (two_bits (p.b0 / 64)))
      → r.stabilizer ≡ after p.id 2 g.stabilizer (Some (two_bits (p.b0 / 16 % 4)))
      → r.aperture_mode ≡ after p.id 2 g.aperture_mode (Some (Code (p.b0 / 8 % 2)))
      → r.infrared ≡ after p.id 8 g.infrared (Some (Code (p.b0 / 64)))
      → r.high_sensitivity ≡ after p.id 8 g.high_sensitivity (sensitivity (p.b0 % 16) (p.b1 % 2))
      → r.iso ≡ after p.id 20 g.iso (iso_mode (p.b0 % 4))
      → r ≡ modes_after p.id (raws_of p) g
  unfolding modes_after raws_of raw_table
  modes_raws g r e1 e2 e3 e4 e5 e6 =
      λ i. record {
        focus = (e1 ∙ after_by p.id 2 g.focus (Some (two_bits (p.b0 / 64))) (Some (two_bits (raw (raws_of p) 0))) (λ e. rw e)) i;
        stabilizer = (e2 ∙ after_by p.id 2 g.stabilizer (Some (two_bits (p.b0 / 16 % 4))) (Some (two_bits (raw (raws_of p) 1))) (λ e. rw e)) i;
        aperture_mode = (e3 ∙ after_by p.id 2 g.aperture_mode (Some (Code (p.b0 / 8 % 2))) (Some (Code (raw (raws_of p) 2))) (λ e. rw e)) i;
        infrared = (e4 ∙ after_by p.id 8 g.infrared (Some (Code (p.b0 / 64))) (Some (Code (raw (raws_of p) 0))) (λ e. rw e)) i;
        high_sensitivity = (e5 ∙ after_by p.id 8 g.high_sensitivity (sensitivity (p.b0 % 16) (p.b1 % 2)) (sensitivity (raw (raws_of p) 1) (raw (raws_of p) 2)) (λ e. rw e)) i;
        iso = (e6 ∙ after_by p.id 20 g.iso (iso_mode (p.b0 % 4)) (iso_mode (raw (raws_of p) 0)) (λ e. rw e)) i;
      }

  pub shutter_raws : (g r : Shutter)
      → r.speed ≡ after p.id 3 g.speed (quotient p.first p.last 0xffff)
      → r.mode ≡ after p.id 4 g.mode (Some (two_bits (p.b0 / 64)))
      → r.value ≡ after p.id 4 g.value (quotient p.middle p.b3 0xff)
      → r ≡ shutter_after p.id (raws_of p) g
  unfolding shutter_after raws_of raw_table
  shutter_raws g r e1 e2 e3 =
      λ i. record {
        speed = (e1 ∙ after_by p.id 3 g.speed (quotient p.first p.last 0xffff) (quotient (raw (raws_of p) 0) (raw (raws_of p) 1) 0xffff) (λ e. rw e)) i;
        mode = (e2 ∙ after_by p.id 4 g.mode (Some (two_bits (p.b0 / 64))) (Some (two_bits (raw (raws_of p) 0))) (λ e. rw e)) i;
        value = (e3 ∙ after_by p.id 4 g.value (quotient p.middle p.b3 0xff) (quotient (raw (raws_of p) 1) (raw (raws_of p) 2) 0xff) (λ e. rw e)) i;
      }

  pub balance_raws : (g r : Balance)
      → r.mode ≡ after p.id 6 g.mode (balance_mode (p.b0 / 32))
      → r.preset ≡ after p.id 6 g.preset (balance_preset (p.b0 % 32))
      → r.accurate ≡ after p.id 6 g.accurate (Some (Code (p.b1 / 128)))
      → r.temperature ≡ after p.id 6 g.temperature (whole (p.middle % 32768) 32767)
      → r.isotemperature ≡ after p.id 6 g.isotemperature (line_index p.b3)
      → r ≡ balance_after p.id (raws_of p) g
  unfolding balance_after raws_of raw_table
  balance_raws g r e1 e2 e3 e4 e5 =
      λ i. record {
        mode = (e1 ∙ after_by p.id 6 g.mode (balance_mode (p.b0 / 32)) (balance_mode (raw (raws_of p) 0)) (λ e. rw e)) i;
        preset = (e2 ∙ after_by p.id 6 g.preset (balance_preset (p.b0 % 32)) (balance_preset (raw (raws_of p) 1)) (λ e. rw e)) i;
        accurate = (e3 ∙ after_by p.id 6 g.accurate (Some (Code (p.b1 / 128))) (Some (Code (raw (raws_of p) 2))) (λ e. rw e)) i;
        temperature = (e4 ∙ after_by p.id 6 g.temperature (whole (p.middle % 32768) 32767) (whole (raw (raws_of p) 3) 32767) (λ e. rw e)) i;
        isotemperature = (e5 ∙ after_by p.id 6 g.isotemperature (line_index p.b3) (line_index (raw (raws_of p) 4)) (λ e. rw e)) i;
      }

  pub gain-raws : (g r : Gain)
      → r.mode ≡ after p.id 11 (after p.id 7 g.mode (Some (Code (p.b0 / 128)))) (Some (Code (p.b0 / 128)))
      → r.level ≡ after p.id 11 (after p.id 7 g.level (decibels (p.b0 % 128) 127 (p.b2 / 16))) (decibels (p.first % 4096) 4095 (p.b0 / 16 % 8))
      → r.nd_filter ≡ after p.id 11 (after p.id 7 g.nd_filter (whole p.b1 255)) (whole p.last 0xffff)
      → r.iso_speed ≡ after p.id 9 g.iso_speed (whole p.whole 0xffffffff)
      → r.base_iso ≡ after p.id 19 g.base_iso (whole p.whole 0xffffffff)
      → r ≡ gain_after p.id (raws_of p) g
  unfolding gain_after raws_of raw_table
  gain-raws g r e1 e2 e3 e4 e5 =
      λ i. record {
        mode =
            (e1 ∙ after_by p.id 11 (after p.id 7 g.mode (Some (Code (p.b0 / 128)))) (Some (Code (p.b0 / 128))) (Some (Code (raw (raws_of p) 0))) (λ e. rw e)
            ∙ ap (λ (v : Option Value). after p.id 11 v (Some (Code (raw (raws_of p) 0)))) (after_by p.id 7 g.mode (Some (Code (p.b0 / 128))) (Some (Code (raw (raws_of p) 0))) (λ e. rw e))) i;
        level =
            (e2 ∙ after_by p.id 11 (after p.id 7 g.level (decibels (p.b0 % 128) 127 (p.b2 / 16))) (decibels (p.first % 4096) 4095 (p.b0 / 16 % 8)) (decibels (raw (raws_of p) 2) 4095 (raw (raws_of p) 1)) (λ e. rw e)
            ∙ ap (λ (v : Option Value). after p.id 11 v (decibels (raw (raws_of p) 2) 4095 (raw (raws_of p) 1))) (after_by p.id 7 g.level (decibels (p.b0 % 128) 127 (p.b2 / 16)) (decibels (raw (raws_of p) 1) 127 (raw (raws_of p) 3)) (λ e. rw e))) i;
        nd_filter =
            (e3 ∙ after_by p.id 11 (after p.id 7 g.nd_filter (whole p.b1 255)) (whole p.last 0xffff) (whole (raw (raws_of p) 3) 0xffff) (λ e. rw e)
            ∙ ap (λ (v : Option Value). after p.id 11 v (whole (raw (raws_of p) 3) 0xffff)) (after_by p.id 7 g.nd_filter (whole p.b1 255) (whole (raw (raws_of p) 2) 255) (λ e. rw e))) i;
        iso_speed = (e4 ∙ after_by p.id 9 g.iso_speed (whole p.whole 0xffffffff) (whole (raw (raws_of p) 0) 0xffffffff) (λ e. rw e)) i;
        base_iso = (e5 ∙ after_by p.id 19 g.base_iso (whole p.whole 0xffffffff) (whole (raw (raws_of p) 0) 0xffffffff) (λ e. rw e)) i;
      }

  pub ranges_raws : (g r : Ranges)
      → r.camera ≡ after p.id 12 g.camera (dynamic_range p.whole)
      → r.base_gamma ≡ after p.id 13 g.base_gamma (tenths p.whole 0xffffffff)
      → r.tilt ≡ after p.id 14 g.tilt (offset p.first)
      → r.roll ≡ after p.id 15 g.roll (offset p.first)
      → r ≡ ranges_after p.id (raws_of p) g
  unfolding ranges_after raws_of raw_table
  ranges_raws g r e1 e2 e3 e4 =
      λ i. record {
        camera = (e1 ∙ after_by p.id 12 g.camera (dynamic_range p.whole) (dynamic_range (raw (raws_of p) 0)) (λ e. rw e)) i;
        base_gamma = (e2 ∙ after_by p.id 13 g.base_gamma (tenths p.whole 0xffffffff) (tenths (raw (raws_of p) 0) 0xffffffff) (λ e. rw e)) i;
        tilt = (e3 ∙ after_by p.id 14 g.tilt (offset p.first) (offset (raw (raws_of p) 0)) (λ e. rw e)) i;
        roll = (e4 ∙ after_by p.id 15 g.roll (offset p.first) (offset (raw (raws_of p) 0)) (λ e. rw e)) i;
      }
