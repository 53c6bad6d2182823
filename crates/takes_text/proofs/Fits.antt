-- How long a difference's lines are: a figure has 50 characters at most, so those of 19 fields fit 4,096. Assumes nothing.
use Prim.Native.Nat.{ℕ, ◌+◌, ◌≤◌}
use mathlib.Core.Path.{◌≡◌}
use mathlib.Core.List.{List, [], ◌∷◌}
use native.Mathlib.Omega.{arith}
use lib.ListN.{length, take, length-append}
use Rattle.text.specs.Write.{Put}
use Rattle.text.proofs.Sizes.{length-decimal, put_whole}
use Rattle.frame_differences.specs.declared.Said.{Said}
use Rattle.frame_differences.specs.Said.{said_of}
use Rattle.take_frames.specs.declared.Recorder.{Recorder}
use Rattle.take_frames.specs.declared.Recorder.TheVariants.{Main, Backup}
use Rattle.take_frames.specs.declared.Kind.{Kind}
use Rattle.take_frames.specs.declared.Kind.TheVariants as kind
use Rattle.takes.specs.declared.Difference.{Difference}
use Rattle.takes_text.specs.Names.{values_name, over_long_name, only_name}
use Rattle.take_figures.specs.Figures.{figure_text}
use Rattle.take_figures.proofs.Sizes.{either, figure_length}
use Rattle.std.specs.Prelude.{Option}
use Rattle.takes_text.specs.Lines.{has, line_of, field_line, field_names, lines_from, yes_of, sided_line, kind_lines, difference_lines}

line-length : (n : ℕ) (name x y : List ℕ) → length x ≤ 50 → length y ≤ 50 → length (line_of n name x y) ≤ 124 + length name
line-length n name x y h k = simp length-append (omega (arith, length-decimal n))

field-length : (n m k : ℕ) (name : List ℕ) (x y : List (Option Said)) → length (field_line n m k name x y) ≤ 124 + length name
unfolding field_line
field-length n m k name x y =
    either (has m k) (line_of n name (figure_text _) (figure_text _)) [] (124 + length name)
    (line-length n name (figure_text _) (figure_text _) (figure_length _) (figure_length _)) (omega arith)

side_length : (n : ℕ) (name : List ℕ) (r : Recorder) → length (sided_line n name r) ≤ 28 + length name
unfolding yes_of
side_length n name Main = simp length-append (omega (arith, length-decimal n))
side_length n name Backup = simp length-append (omega (arith, length-decimal n))

all_length : List (List ℕ) → ℕ
all_length [] = 0
all_length (name ∷ names) = 124 + length name + all_length names

lines-length : (n m : ℕ) (x y : List (Option Said)) (k : ℕ) (names : List (List ℕ)) → length (lines_from n m x y k names) ≤ all_length names
unfolding lines_from all_length
lines-length n m x y k [] = omega arith
lines-length n m x y k (name ∷ names) =
    simp length-append (omega (arith, field-length n m k name x y, lines-length n m x y (k + 1) names))

fits : (n : ℕ) (k : Kind) → length (kind_lines n k) ≤ 4096
unfolding kind_lines field_names all_length
fits n (kind.Fields b) =
    omega (arith, lines-length n b.fields (said_of b.main) (said_of b.backup) 0 field_names)
fits n (kind.Values r) = omega (arith, side_length n values_name r)
fits n (kind.Overlong r) = omega (arith, side_length n over_long_name r)
fits n (kind.Only r) = omega (arith, side_length n only_name r)

-- so where there is that much room they stand there whole
pub whole : (d : Difference) {o₀ o : List ℕ} {r : ℕ} → 4096 ≤ length o₀ → Put (difference_lines d) o₀ 0 o r → take r o ≡ difference_lines d
whole d n p = (put_whole p (omega (arith, fits d.number d.kind))).1
