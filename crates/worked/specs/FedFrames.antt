-- Worked numbers of docs/RULES.md, "L13. Certain frames": a frame walk that is fed.
use Rattle.std.specs.Prelude.{ℕ, ◌≡◌, Bool, true, false, take, drop}
use Rattle.steps.specs.Told.{found, nothing, refused}
use Rattle.klv.specs.declared.Klv.{Klv}
use Rattle.frame_walks.specs.declared.Camera.TheVariants.{Arri}
use Rattle.frame_walks.specs.Labels.{frame_data}
use Rattle.frame_walks.specs.Frames.{framed}
use Rattle.fed_states.specs.State.{no_label, no_ber, shut}
use Rattle.fed_frames.specs.declared.FrameState.{FrameState}
use Rattle.fed_frames.specs.Frames.{took_frames, FramesTold, opened_frames, standing, feed_frames, close_frames}
use Rattle.worked.specs.Passed.{short, outer, long}

-- a walk that was opened with the limit 9,000: behind a frame, its next byte at p, n frames having been told and `high` bytes come
abbrev pub behind : ℕ → ℕ → ℕ → FrameState
behind p n high =
    record { state = record { limit = 9000; known = false; live = true; at = p; have = 0; since = p; label = frame_data; ber = no_ber }; camera = Arri; number = n; high = high }

-- in search of a key at p, walking having last gone on at g
abbrev pub seeking : ℕ → ℕ → ℕ → ℕ → FrameState
seeking p g n high =
    record { state = record { limit = 9000; known = false; live = true; at = p; have = 0; since = g; label = no_label; ber = no_ber }; camera = Arri; number = n; high = high }

abbrev pub told : ℕ → Klv → Bool → ℕ → FrameState → ℕ → FramesTold
told n k overlong passed w taken = found (record { it = framed (record { number = n; element = k; overlong = overlong }); passed = passed }) (took_frames w taken)

-- 8,229 bytes in one piece: the over-long frame, behind whose last byte 17 more are left. The walk is to be fed on from 19, and is not
-- to be closed before
abbrev pub FedOnce : Type 0
FedOnce = (feed_frames (opened_frames Arri 9000 false 0) long ≡ told 0 outer true 0 (behind 19 1 8212) 8212) × (close_frames (behind 19 1 8212) ≡ refused 5 (behind 19 1 8212))

-- the same bytes again, up to where they had come: the frame inside it, and then nothing; now it may be closed
abbrev pub FedAgain : Type 0
FedAgain =
    (feed_frames (behind 19 1 8212) (take 8193 (drop 19 long)) ≡ told 1 (short 100 117 0) false 81 (behind 117 2 8212) 98)
    × (feed_frames (behind 117 2 8212) (take 8095 (drop 117 long)) ≡ nothing (took_frames (seeking 8212 117 2 8212) 8095))
    × (close_frames (seeking 8212 117 2 8212) ≡ nothing (standing (seeking 8212 117 2 8212) (shut (seeking 8212 117 2 8212).state)))

-- or the last 17 bytes come: the frame behind it
abbrev pub FedOn : Type 0
FedOn = feed_frames (seeking 8212 117 2 8212) (drop 8212 long) ≡ told 2 (short 8212 8229 0) false 8095 (behind 8229 3 8229) 17
