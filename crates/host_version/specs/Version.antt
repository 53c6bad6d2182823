-- The version of the library, as CHANGELOG.md names it, and as one number that grows with it.
use Rattle.std.specs.Prelude.{ℕ, ◌+◌, ◌*◌}

abbrev pub major : ℕ
major = 0

abbrev pub minor : ℕ
minor = 1

abbrev pub patch : ℕ
patch = 0

unfoldable pub version : ℕ
version = major * 1000000 + (minor * 1000 + patch)
