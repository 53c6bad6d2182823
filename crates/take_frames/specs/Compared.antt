-- How two recorders' frames of one number compare: docs/RULES.md, "L14. Two recordings of one take".
use Rattle.std.specs.Prelude.{ℕ, Bool, true, false, cond, eqb, Option, Some, None}
use Rattle.frame_values.specs.declared.Frame.{Frame}
use Rattle.frame_differences.specs.Said.{said_of}
use Rattle.frame_differences.specs.Mask.{mask_of}
use Rattle.take_frames.specs.declared.Recorder.TheVariants.{Main, Backup}
use Rattle.take_frames.specs.declared.Kind.{Kind}
use Rattle.take_frames.specs.declared.Kind.TheVariants as kind
use Rattle.take_frames.specs.declared.Recorded.{Recorded}

-- the fields that differ, with the values of both sides
abbrev pub fields : ℕ → Frame → Frame → Kind
fields m f g = kind.Fields (record { fields = m; main = f; backup = g })

-- if any does
unfoldable pub of_mask : ℕ → Frame → Frame → Option Kind
of_mask m f g = cond (eqb m 0) None (Some (fields m f g))

unfoldable pub values_compared : Option Frame → Option Frame → Option Kind
values_compared (Some f) (Some g) = of_mask (mask_of (said_of f) (said_of g)) f g
values_compared (Some f) None = Some (kind.Values Main)
values_compared None (Some g) = Some (kind.Values Backup)
values_compared None None = None

-- a mark on one side is one difference, whatever the other has; marked on both sides, they are the same
unfoldable pub marked : Bool → Bool → Option Kind → Option Kind
marked true true c = None
marked true false c = Some (kind.Overlong Main)
marked false true c = Some (kind.Overlong Backup)
marked false false c = c

unfoldable pub compared : Recorded → Recorded → Option Kind
compared x y = marked x.overlong y.overlong (values_compared x.values y.values)
