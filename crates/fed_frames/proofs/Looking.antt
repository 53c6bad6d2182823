-- A call goes on from what it makes of one record. Assumes nothing.
use Rattle.std.proofs.Common.{◌≡◌, ℕ, zero, suc, ◌+◌, ◌-◌, ◌<◌, max, true, false, List, length, drop, sym, refl, ap, ◌∙◌, arith}
use Rattle.std.specs.declared.ops.ControlFlow.TheVariants.{Break, Continue}
use Rattle.steps.specs.Told.{ToldAt, found, nothing, refused}
use Rattle.steps.specs.Tells.{Said, tells, passes}
use Rattle.steps.specs.Passed.{Passed}
use Rattle.klv.specs.Item.{Item, past}
use Rattle.fed_states.specs.declared.State.{State}
use Rattle.fed_bytes.specs.Feed.{Taken, took}
use Rattle.fed_pieces.specs.Pieces.{refusal_of, feed_on, Fits}
use Rattle.fed_pieces.proofs.Laws as pieces
use Rattle.fed_pieces.proofs.Laws.{feeds, fed}
use Rattle.fed_pieces.proofs.Going.{Rests}
use Rattle.fed_pieces.proofs.Told.{further}
use Rattle.frame_walks.specs.Frames.{Carried, Shown, showing}
use Rattle.fed_frames.specs.declared.FrameState.{FrameState}
use Rattle.fed_frames.specs.declared.FedFrames.{FedFrames}
use Rattle.fed_frames.specs.Frames.{FrameTaken, took_frames, FramesTold, carried_by, standing, on_said, on_fed, frames_at_most, raised, place_of, by_refusal, feed_frames}
use Rattle.fed_states.specs.declared.FedError.{FedError}
use Rattle.fed_states.specs.declared.FedError.TheVariants.{TooMuch, Closed}
use Rattle.fed_states.specs.Close.{refused_by}
use Rattle.fed_frames.specs.Told.{frames_told, met_as, Leads}
use Rattle.fed_frames.proofs.Laws.{shown-told, Ends, eats-ends}

-- a walk whose rest of the piece fits by one limit fits by its own
pub own_limit : (piece : List ℕ) (limit : ℕ) (s : State) (i : ℕ) → Fits piece limit (took s i) → Fits piece s.limit (took s i)
own_limit piece limit s i f = record { live = f.live; same = refl; most = f.most; within = omega (arith, f.within, f.same) }

-- the same walk, but for how many bytes have come
abbrev pub up_to : FrameState → State → ℕ → FrameState
up_to w s high = record { state = s; camera = w.camera; number = w.number; high = high }

module _ (w : FrameState) (piece : List ℕ) (i from : ℕ) (fits : Fits piece w.state.limit (took w.state i)) where
  abbrev step : ToldAt Taken (Passed Item)
  step = feed_on piece (took w.state i)

  -- a record that was completed ends where the walk of records stands
  pub record_ends : (a : Passed Item) (q : Taken) → step ≡ found a q → q.state.at ≡ past a.it.klv
  unfolding Ends
  record_ends a q e = rw (sym (feeds piece w.state.limit (took w.state i) fits) ∙ e) at (eats-ends w.state (drop i piece) i)

  -- no record: all of the piece is taken
  pub leads_rests : (s : State) (n high : ℕ) → high ≡ max w.high (from + n) → Rests step (took s n) → (again : FrameTaken → FramesTold)
      → nothing (took_frames (up_to w s high) n) ≡ raised from (on_fed again w step)
  unfolding on_fed raised
  leads_rests s n high h r again = go step (fed piece w.state.limit (took w.state i) fits) r
    where
      go : (t : ToldAt Taken (Passed Item)) → pieces.Fed piece w.state.limit (took w.state i) t → Rests t (took s n) → nothing (took_frames (up_to w s high) n) ≡ raised from (on_fed again w t)
      go (found a q) f x = absurd x
      go (nothing q) f x = rw (h, x)
      go (refused _ _) f x = elim f [ ]

  -- a record: what is shown is the answer, another record is run through
  pub leads_record : (x : Passed Item) (s : State) (n high : ℕ) → high ≡ max w.high (from + n) → step ≡ found x (took s n) → (said : Said Carried (Passed Shown))
      → showing w.camera (carried_by w) x.it ≡ said → Leads w piece i from (met_as (up_to w s high) n said)
  unfolding Leads met_as on_fed on_said raised
  leads_record x s n high h e (tells b t) y = λ again. shown-told _ b ∙ rw (e, y, h)
  leads_record x s n high h e (passes t) y = let g = further piece w.state.limit (took w.state i) (took s n) x e fits in (λ again. rw (e, y), g.fits, g.more)

-- Turn by turn: what is left of the piece fits, and gives what all of it gives

pub record Left (w : FrameState) (piece : List ℕ) (s : State) (i : ℕ) : Type 0 where
  pub fits : Fits piece w.state.limit (took s i)
  pub fuel : ℕ
  pub enough : length piece - i < fuel
  pub same : frames_at_most piece fuel (took_frames (standing w s) i) ≡ frames_at_most piece (suc (length piece)) (took_frames w 0)

pub left-start : (w : FrameState) (piece : List ℕ) → Fits piece w.state.limit (took w.state 0) → Left w piece w.state 0
left-start w piece f = record { fits = f; fuel = suc (length piece); enough = omega arith; same = refl }

module _ (w : FrameState) (piece : List ℕ) (s : State) (i from : ℕ) (left : Left w piece s i) (f : FedFrames) where
  pub left_over : Leads (standing w s) piece i from (Break f) → frames_told f ≡ raised from (frames_at_most piece (suc (length piece)) (took_frames w 0))
  unfolding Leads frames_at_most
  left_over l = go left.fuel left.enough ∙ ap (raised from) left.same
    where
      go : (fuel : ℕ) → length piece - i < fuel → frames_told f ≡ raised from (frames_at_most piece fuel (took_frames (standing w s) i))
      go zero h = absurd (omega arith)
      go (suc fuel) h = l (λ j. frames_at_most piece fuel j)

  pub left_on : Leads (standing w s) piece i from (Continue f) → Left w piece f.walk.state f.taken × (length piece - f.taken < length piece - i)
  unfolding Leads frames_at_most
  left_on l = (go left.fuel left.enough left.same, omega (arith, l.2, l.1.most))
    where
      go : (fuel : ℕ) → length piece - i < fuel → frames_at_most piece fuel (took_frames (standing w s) i) ≡ frames_at_most piece (suc (length piece)) (took_frames w 0)
          → Left w piece f.walk.state f.taken
      go zero h e = absurd (omega arith)
      go (suc fuel) h e =
          record {
            fits = rw left.fits.same at l.1;
            fuel = fuel;
            enough = omega (arith, l.2, l.1.most);
            same = sym (l.0 (λ j. frames_at_most piece fuel j)) ∙ e;
          }

-- A call by the number of its refusal

module _ (w : FrameState) (piece : List ℕ) where
  pub refused_so : (e : FedError) → refused_by e ≡ refusal_of w.state (length piece) → refused (refused_by e) (took_frames w 0) ≡ feed_frames w piece
  unfolding by_refusal
  refused_so TooMuch x = rw (sym x)
  refused_so Closed x = rw (sym x)

  pub fed_so : refusal_of w.state (length piece) ≡ 0 → raised (place_of w) (frames_at_most piece (suc (length piece)) (took_frames w 0)) ≡ feed_frames w piece
  unfolding by_refusal
  fed_so e = rw e
