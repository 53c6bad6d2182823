-- How long an outline's text is: docs/RULES.md, "L4. An outline".
use Rattle.std.specs.Prelude.{ℕ, ◌*◌, ◌^◌, ◌≤◌, ◌<◌, ◌≡◌, List, length}
use Rattle.outline_lines.specs.Lines.{cap}
use Rattle.outline_text.specs.Text.{outline_text}

-- of a buffer below 100,000 bytes: at most 6 characters for each of them
abbrev pub SixForEach : Type 0
SixForEach = (s : List ℕ) (e depth : ℕ) → e ≤ length s → depth ≤ 8 → length s < 100000 → length (outline_text s e depth) ≤ 6 * length s

-- of a buffer up to 2^60 bytes: the length needed that is answered is the text's own, and not cut
abbrev pub CountedWhole : Type 0
CountedWhole = (s : List ℕ) (e depth : ℕ) → e ≤ length s → depth ≤ 8 → length s ≤ 2 ^ 60 → cap (length (outline_text s e depth)) ≡ length (outline_text s e depth)
