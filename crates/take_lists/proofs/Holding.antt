-- Frames that say the same are the same: what a value says tells the value. Assumes nothing.
use Rattle.std.specs.Prelude.{Option, Some, None}
use Prim.Native.Nat.{ℕ}
use mathlib.Core.Path.{◌≡◌, refl, sym, ap, ◌∙◌}
use mathlib.Core.List.{List, [], ◌∷◌, map}
use mathlib.Core.Bool.{Bool, true, false}
use native.Mathlib.Omega.{arith}
use lib.Dec.{T}
use lib.ListN.{get_or}
use lib.Ieee.{Float, Format, binary32, binary64, fits, to_bits, of_bits}
use lib.Ieee.Bits.{of_bits-to_bits}
use Rattle.frame_values.specs.declared.Distance.{Distance}
use Rattle.frame_values.specs.declared.Distance.TheVariants as distance
use Rattle.frame_values.specs.declared.TStop.{TStop}
use Rattle.frame_values.specs.declared.TStop.TheVariants as stop
use Rattle.frame_values.specs.declared.Frame.{Frame}
use Rattle.frame_differences.specs.declared.Said.{Said}
use Rattle.frame_differences.specs.declared.Said.TheVariants as said
use Rattle.frame_differences.specs.Said.{of_single, of_double, of_whole, of_distance, of_tStop, of_tilt_roll, of_factors, said_of}
use Rattle.take_frames.specs.declared.Recorded.{Recorded}
use Rattle.take_lists.specs.Reports.{values_say, says_as, frame_says}
use Rattle.take_lists.proofs.Reports.{empty_equal, valued}
use Rattle.take_lists.specs.Holding.{HoldsSingle, HoldsDouble, HoldsDistance, HoldsTStop, HoldsTiltRoll, HoldsFactors, Determined, HeldValues, HeldAs, AllHeld, SameLists}
use Rattle.frame_values.specs.declared.Angles.{Angles}
use Rattle.frame_values.specs.declared.Colours.{Colours}

-- the kind of what a field says, and its numbers
abbrev kind_in : Option Said → ℕ
kind_in None = 0
kind_in (Some (said.Single a)) = 1
kind_in (Some (said.Double a)) = 2
kind_in (Some (said.Whole a)) = 3
kind_in (Some said.Infinity) = 4
kind_in (Some (said.Linear a)) = 5
kind_in (Some (said.Angles a b)) = 6
kind_in (Some (said.Factors a b c)) = 7

abbrev first_in : Option Said → ℕ
first_in None = 0
first_in (Some (said.Single a)) = a
first_in (Some (said.Double a)) = a
first_in (Some (said.Whole a)) = a
first_in (Some said.Infinity) = 0
first_in (Some (said.Linear a)) = a
first_in (Some (said.Angles a b)) = a
first_in (Some (said.Factors a b c)) = a

abbrev second_in : Option Said → ℕ
second_in None = 0
second_in (Some (said.Single a)) = 0
second_in (Some (said.Double a)) = 0
second_in (Some (said.Whole a)) = 0
second_in (Some said.Infinity) = 0
second_in (Some (said.Linear a)) = 0
second_in (Some (said.Angles a b)) = b
second_in (Some (said.Factors a b c)) = b

abbrev third_in : Option Said → ℕ
third_in None = 0
third_in (Some (said.Single a)) = 0
third_in (Some (said.Double a)) = 0
third_in (Some (said.Whole a)) = 0
third_in (Some said.Infinity) = 0
third_in (Some (said.Linear a)) = 0
third_in (Some (said.Angles a b)) = 0
third_in (Some (said.Factors a b c)) = c

bits_tell : (f : Format) (x y : Float) → T (fits f x) → T (fits f y) → to_bits f x ≡ to_bits f y → x ≡ y
bits_tell f x y h g e = sym (of_bits-to_bits f x h) ∙ ap (of_bits f) e ∙ of_bits-to_bits f y g

single-tells : (v w : Option Float) → HoldsSingle v → HoldsSingle w → of_single v ≡ of_single w → v ≡ w
unfolding of_single HoldsSingle
single-tells (Some x) (Some y) h g e = ap (λ (z : Float). Some z) (bits_tell binary32 x y h g (ap first_in e))
single-tells (Some x) None h g e = absurd (let z : ◌≡◌ {A = ℕ} _ _ = ap kind_in e in omega (arith, z))
single-tells None (Some y) h g e = absurd (let z : ◌≡◌ {A = ℕ} _ _ = ap kind_in e in omega (arith, z))
single-tells None None h g e = refl

double-tells : (v w : Option Float) → HoldsDouble v → HoldsDouble w → of_double v ≡ of_double w → v ≡ w
unfolding of_double HoldsDouble
double-tells (Some x) (Some y) h g e = ap (λ (z : Float). Some z) (bits_tell binary64 x y h g (ap first_in e))
double-tells (Some x) None h g e = absurd (let z : ◌≡◌ {A = ℕ} _ _ = ap kind_in e in omega (arith, z))
double-tells None (Some y) h g e = absurd (let z : ◌≡◌ {A = ℕ} _ _ = ap kind_in e in omega (arith, z))
double-tells None None h g e = refl

whole-tells : (v w : Option ℕ) → of_whole v ≡ of_whole w → v ≡ w
unfolding of_whole
whole-tells (Some x) (Some y) e = ap (λ (n : ℕ). Some n) (ap first_in e)
whole-tells (Some x) None e = absurd (let z : ◌≡◌ {A = ℕ} _ _ = ap kind_in e in omega (arith, z))
whole-tells None (Some y) e = absurd (let z : ◌≡◌ {A = ℕ} _ _ = ap kind_in e in omega (arith, z))
whole-tells None None e = refl

distance_tells : (v w : Option Distance) → HoldsDistance v → HoldsDistance w → of_distance v ≡ of_distance w → v ≡ w
unfolding of_distance HoldsDistance
distance_tells (Some (distance.Metres x)) (Some (distance.Metres y)) h g e = ap (λ (z : Float). Some (distance.Metres z)) (bits_tell binary32 x y h g (ap first_in e))
distance_tells (Some (distance.Metres x)) (Some distance.Infinity) h g e = absurd (let z : ◌≡◌ {A = ℕ} _ _ = ap kind_in e in omega (arith, z))
distance_tells (Some (distance.Metres x)) None h g e = absurd (let z : ◌≡◌ {A = ℕ} _ _ = ap kind_in e in omega (arith, z))
distance_tells (Some distance.Infinity) (Some (distance.Metres y)) h g e = absurd (let z : ◌≡◌ {A = ℕ} _ _ = ap kind_in e in omega (arith, z))
distance_tells (Some distance.Infinity) (Some distance.Infinity) h g e = refl
distance_tells (Some distance.Infinity) None h g e = absurd (let z : ◌≡◌ {A = ℕ} _ _ = ap kind_in e in omega (arith, z))
distance_tells None (Some (distance.Metres y)) h g e = absurd (let z : ◌≡◌ {A = ℕ} _ _ = ap kind_in e in omega (arith, z))
distance_tells None (Some distance.Infinity) h g e = absurd (let z : ◌≡◌ {A = ℕ} _ _ = ap kind_in e in omega (arith, z))
distance_tells None None h g e = refl

stop_tells : (v w : Option TStop) → HoldsTStop v → HoldsTStop w → of_tStop v ≡ of_tStop w → v ≡ w
unfolding of_tStop HoldsTStop
stop_tells (Some (stop.Is x)) (Some (stop.Is y)) h g e = ap (λ (z : Float). Some (stop.Is z)) (bits_tell binary32 x y h g (ap first_in e))
stop_tells (Some (stop.Is x)) (Some (stop.Linear y)) h g e = absurd (let z : ◌≡◌ {A = ℕ} _ _ = ap kind_in e in omega (arith, z))
stop_tells (Some (stop.Is x)) None h g e = absurd (let z : ◌≡◌ {A = ℕ} _ _ = ap kind_in e in omega (arith, z))
stop_tells (Some (stop.Linear x)) (Some (stop.Is y)) h g e = absurd (let z : ◌≡◌ {A = ℕ} _ _ = ap kind_in e in omega (arith, z))
stop_tells (Some (stop.Linear x)) (Some (stop.Linear y)) h g e = ap (λ (n : ℕ). Some (stop.Linear n)) (ap first_in e)
stop_tells (Some (stop.Linear x)) None h g e = absurd (let z : ◌≡◌ {A = ℕ} _ _ = ap kind_in e in omega (arith, z))
stop_tells None (Some (stop.Is y)) h g e = absurd (let z : ◌≡◌ {A = ℕ} _ _ = ap kind_in e in omega (arith, z))
stop_tells None (Some (stop.Linear y)) h g e = absurd (let z : ◌≡◌ {A = ℕ} _ _ = ap kind_in e in omega (arith, z))
stop_tells None None h g e = refl

angles_tells : (v w : Option Angles) → HoldsTiltRoll v → HoldsTiltRoll w → of_tilt_roll v ≡ of_tilt_roll w → v ≡ w
unfolding of_tilt_roll HoldsTiltRoll
angles_tells (Some x) (Some y) h g e =
    let p = bits_tell binary32 x.tilt y.tilt h.0 g.0 (ap first_in e) in
    let q = bits_tell binary32 x.roll y.roll h.1 g.1 (ap second_in e) in
    λ i. Some (record { tilt = p i; roll = q i })
angles_tells (Some x) None h g e = absurd (let z : ◌≡◌ {A = ℕ} _ _ = ap kind_in e in omega (arith, z))
angles_tells None (Some y) h g e = absurd (let z : ◌≡◌ {A = ℕ} _ _ = ap kind_in e in omega (arith, z))
angles_tells None None h g e = refl

factors_tells : (v w : Option Colours) → HoldsFactors v → HoldsFactors w → of_factors v ≡ of_factors w → v ≡ w
unfolding of_factors HoldsFactors
factors_tells (Some x) (Some y) h g e =
    let p = bits_tell binary64 x.red y.red h.0 g.0 (ap first_in e) in
    let q = bits_tell binary64 x.green y.green h.1 g.1 (ap second_in e) in
    let r = bits_tell binary64 x.blue y.blue h.2 g.2 (ap third_in e) in
    λ i. Some (record { red = p i; green = q i; blue = r i })
factors_tells (Some x) None h g e = absurd (let z : ◌≡◌ {A = ℕ} _ _ = ap kind_in e in omega (arith, z))
factors_tells None (Some y) h g e = absurd (let z : ◌≡◌ {A = ℕ} _ _ = ap kind_in e in omega (arith, z))
factors_tells None None h g e = refl

pub determined : Determined
unfolding said_of
determined f g h k e =
    let p0 = single-tells f.focal_length g.focal_length h.0 k.0 (ap (λ (l : List (Option Said)). get_or l 0 None) e) in
    let p1 = distance_tells f.focus_distance g.focus_distance h.1 k.1 (ap (λ (l : List (Option Said)). get_or l 1 None) e) in
    let p2 = stop_tells f.t_stop g.t_stop h.2 k.2 (ap (λ (l : List (Option Said)). get_or l 2 None) e) in
    let p3 = double-tells f.exposure_time g.exposure_time h.3 k.3 (ap (λ (l : List (Option Said)). get_or l 3 None) e) in
    let p4 = single-tells f.shutter_angle g.shutter_angle h.4 k.4 (ap (λ (l : List (Option Said)). get_or l 4 None) e) in
    let p5 = angles_tells f.tilt_roll g.tilt_roll h.5 k.5 (ap (λ (l : List (Option Said)). get_or l 5 None) e) in
    let p6 = whole-tells f.exposure_index g.exposure_index (ap (λ (l : List (Option Said)). get_or l 6 None) e) in
    let p7 = whole-tells f.white_balance g.white_balance (ap (λ (l : List (Option Said)). get_or l 7 None) e) in
    let p8 = double-tells f.nd_density g.nd_density h.6 k.6 (ap (λ (l : List (Option Said)). get_or l 8 None) e) in
    let p9 = double-tells f.effective_focal_length g.effective_focal_length h.7 k.7 (ap (λ (l : List (Option Said)). get_or l 9 None) e) in
    let p10 = factors_tells f.white_balance_factors g.white_balance_factors h.8 k.8 (ap (λ (l : List (Option Said)). get_or l 10 None) e) in
    let p11 = whole-tells f.encoders.focus_lds g.encoders.focus_lds (ap (λ (l : List (Option Said)). get_or l 11 None) e) in
    let p12 = whole-tells f.encoders.focus_motor g.encoders.focus_motor (ap (λ (l : List (Option Said)). get_or l 12 None) e) in
    let p13 = whole-tells f.encoders.zoom_lds g.encoders.zoom_lds (ap (λ (l : List (Option Said)). get_or l 13 None) e) in
    let p14 = whole-tells f.encoders.zoom_motor g.encoders.zoom_motor (ap (λ (l : List (Option Said)). get_or l 14 None) e) in
    let p15 = whole-tells f.encoders.iris_lds g.encoders.iris_lds (ap (λ (l : List (Option Said)). get_or l 15 None) e) in
    let p16 = whole-tells f.encoders.iris_motor g.encoders.iris_motor (ap (λ (l : List (Option Said)). get_or l 16 None) e) in
    let p17 = double-tells f.tint g.tint h.9 k.9 (ap (λ (l : List (Option Said)). get_or l 17 None) e) in
    let p18 = double-tells f.sensor_rate g.sensor_rate h.10 k.10 (ap (λ (l : List (Option Said)). get_or l 18 None) e) in
    λ i. record {
      focal_length = p0 i;
      focus_distance = p1 i;
      t_stop = p2 i;
      exposure_time = p3 i;
      shutter_angle = p4 i;
      tilt_roll = p5 i;
      exposure_index = p6 i;
      white_balance = p7 i;
      nd_density = p8 i;
      effective_focal_length = p9 i;
      white_balance_factors = p10 i;
      encoders = record { focus_lds = p11 i; focus_motor = p12 i; zoom_lds = p13 i; zoom_motor = p14 i; iris_lds = p15 i; iris_motor = p16 i };
      tint = p17 i;
      sensor_rate = p18 i;
    }

values_tell : (v w : Option Frame) → HeldValues v → HeldValues w → values_say v ≡ values_say w → v ≡ w
unfolding HeldValues values_say
values_tell (Some f) (Some g) h k e =
    let z : said_of f ≡ said_of g = cc in
    ap (λ (x : Frame). Some x) (determined f g h k z)
values_tell (Some f) None h k e = absurd (let z : ◌≡◌ {A = ℕ} 0 1 = cc in omega arith)
values_tell None (Some g) h k e = absurd (let z : ◌≡◌ {A = ℕ} 0 1 = cc in omega arith)
values_tell None None h k e = refl

frame-tells : (a b : Bool) (v w : Option Frame) → HeldAs a v → HeldAs b w → says_as a v ≡ says_as b w → (a ≡ b) × (v ≡ w)
unfolding HeldAs says_as
frame-tells true true v w h k e = (refl, h ∙ sym k)
frame-tells true false v w h k e = absurd (valued w (sym e))
frame-tells false true v w h k e = absurd (valued v e)
frame-tells false false v w h k e = (refl, values_tell v w h k e)

lists_tell : (xs ys : List Recorded) → AllHeld xs → AllHeld ys → map frame_says xs ≡ map frame_says ys → xs ≡ ys
unfolding AllHeld frame_says
lists_tell [] [] h k e = refl
lists_tell [] (y ∷ ys) h k e = absurd (let z : ◌≡◌ {A = ℕ} 0 1 = cc in omega arith)
lists_tell (x ∷ xs) [] h k e = absurd (let z : ◌≡◌ {A = ℕ} 0 1 = cc in omega arith)
lists_tell (x ∷ xs) (y ∷ ys) h k e =
    let a : frame_says x ≡ frame_says y = cc in
    let b : map frame_says xs ≡ map frame_says ys = cc in
    let p = frame-tells x.overlong y.overlong x.values y.values h.0 k.0 a in
    let l = lists_tell xs ys h.1 k.1 b in
    λ i. record { overlong = p.0 i; values = p.1 i } ∷ l i

pub same_lists : SameLists
same_lists n xs ys h k e = lists_tell xs ys h k (empty_equal n xs ys e)
