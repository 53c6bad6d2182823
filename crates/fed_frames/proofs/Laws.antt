-- What a record is to a frame walk that is fed, and that a record's last byte leaves the walk of records behind it. Assumes nothing.
use Rattle.std.proofs.Common.{◌≡◌, ℕ, ◌+◌, ◌-◌, ◌<◌, ◌≤◌, Bool, true, false, cond, ltb, List, [], ◌∷◌, refl, sym, ap, ◌∙◌, Option, Some, None, Ok, Err, arith, le-ltb, lt-ltb}
use Rattle.std.specs.declared.ops.ControlFlow.TheVariants.{Break, Continue}
use Rattle.steps.specs.Told.{ToldAt, found, nothing, refused}
use Rattle.steps.specs.Passed.{Passed}
use Rattle.klv.specs.Item.{Item, past}
use Rattle.fed_states.specs.declared.State.{State}
use Rattle.fed_states.specs.declared.Rest.{Rest}
use Rattle.fed_states.specs.declared.Shut.{Shut}
use Rattle.fed_states.specs.declared.FedError.{FedError}
use Rattle.fed_states.specs.State.{gone_on}
use Rattle.fed_states.specs.Close as records
use Rattle.fed_states.specs.Close.{refused_by, close_of}
use Rattle.fed_bytes.specs.Eat.{behind, eat_of}
use Rattle.fed_bytes.specs.Feed.{Taken, up_to, eats}
use Rattle.fed_bytes.proofs.Laws.{Turned, cut, none, whole, waits, late, Ate, seeks, labels, turns, ate}
use Rattle.frame_walks.specs.declared.Kind.TheVariants as kinds
use Rattle.frame_walks.specs.Kinds.{kind, longest_of, is_frame, goes_on_at}
use Rattle.frame_walks.specs.Frames.{carried, Shown, framed, given, after, showing_as, showing}
use Rattle.fed_frames.specs.declared.FrameState.{FrameState}
use Rattle.fed_frames.specs.declared.FrameAnswer.TheVariants as answer
use Rattle.fed_frames.specs.Frames.{FrameTaken, place_of, standing, closed_by, close_frames}
use Rattle.fed_frames.specs.Told.{answer_told, rest_told, shown_as, met_as}

-- A record by its kind

module _ (w : FrameState) (i : Item) (n g m : ℕ) (counts : m ≡ i.klv.at - g) where
  pub met_frame : kind w.camera i ≡ kinds.Frame → (q : ℕ) (b : Bool) → b ≡ ltb (longest_of w.camera) i.klv.len → q ≡ cond b i.klv.value (past i.klv)
      → Break (record { walk = record { state = gone_on w.state q w.state.label; camera = w.camera; number = after w.number; high = w.high }; taken = n; answer = answer.Frame (record { number = w.number; element = i.klv; overlong = b }) m })
      ≡ met_as w n (showing w.camera (carried g w.number) i)
  unfolding met_as shown_as showing showing_as is_frame goes_on_at
  met_frame x q b o v = rw (counts, v, o) (simp x)

  module _ (q : ℕ) (ends : q ≡ past i.klv) where
    pub met_given : kind w.camera i ≡ kinds.Given
        → Break (record { walk = record { state = gone_on w.state q w.state.label; camera = w.camera; number = w.number; high = w.high }; taken = n; answer = answer.Given i.klv m })
        ≡ met_as w n (showing w.camera (carried g w.number) i)
    unfolding met_as shown_as showing showing_as is_frame goes_on_at
    met_given x = rw (counts, ends) (simp x)

  pub met_other : kind w.camera i ≡ kinds.Other → Continue (record { walk = w; taken = n; answer = answer.Nothing }) ≡ met_as w n (showing w.camera (carried g w.number) i)
  unfolding met_as showing showing_as
  met_other x = simp x

-- what is shown, as an answer
pub shown-told : (k : FrameTaken) (b : Passed Shown) → answer_told k (shown_as b.passed b.it) ≡ found b k
unfolding answer_told shown_as
shown-told k b = go b.it
  where
    go : (x : Shown) → answer_told k (shown_as b.passed x) ≡ found (record { it = x; passed = b.passed }) k
    go (framed f) = refl
    go (given v) = refl

-- A record's last byte leaves the walk at its end

unfoldable pub Ends : ToldAt Taken (Passed Item) → Type 0
Ends (found a k) = k.state.at ≡ past a.it.klv
Ends (nothing k) = Unit {0}
Ends (refused n k) = Unit {0}

pub eats-ends : (st : State) (l : List ℕ) (n : ℕ) → Ends (eats st l n)
unfolding eats up_to Ends
eats-ends st [] n = tt
eats-ends st (b ∷ l) n = go (eat_of st b) (ate st b) (λ s. eats-ends s l (n + 1))
  where
    Ih : Type 0
    Ih = (s : State) → Ends (eats s l (n + 1))

    turned : (r : ToldAt State (Passed Item)) → Turned (behind st b) r → Ih → Ends (up_to (λ s. eats s l (n + 1)) (n + 1) r)
    turned r (cut x) ih = ih _
    turned r (none x) ih = ih _
    turned r (whole f x h) ih = refl
    turned r (waits f x h m) ih = ih _
    turned r (late f x h m) ih = ih _

    go : (r : ToldAt State (Passed Item)) → Ate st b r → Ih → Ends (up_to (λ s. eats s l (n + 1)) (n + 1) r)
    go r (seeks h) ih = ih _
    go r (labels h k) ih = ih _
    go r (turns _ h t) ih = turned r t ih

-- Closing

module _ (w : FrameState) where
  pub close_early : w.state.have < w.high - w.state.at → refused 5 w ≡ close_frames w
  unfolding close_frames
  close_early h = rw (lt-ltb (place_of w) w.high (omega arith))

  -- the walk of records says it
  module _ (h : w.high - w.state.at ≤ w.state.have) where
    close_by : close_frames w ≡ closed_by w (close_of w.state)
    unfolding close_frames
    close_by = rw (le-ltb (place_of w) w.high (omega arith))

    pub close_on : (c : Shut) → records.close_told w.state (Ok c) ≡ close_of w.state → rest_told (standing w c.state) c.rest ≡ close_frames w
    unfolding closed_by
    close_on c x = go c.rest ∙ ap (closed_by w) x ∙ sym close_by
      where
        go : (r : Option Rest) → rest_told (standing w c.state) r ≡ closed_by w (records.rest_told c.state r)
        go (Some r) = refl
        go None = refl

    pub close_not : (e : FedError) → records.close_told w.state (Err e) ≡ close_of w.state → refused (refused_by e) w ≡ close_frames w
    unfolding closed_by
    close_not e x = ap (closed_by w) x ∙ sym close_by
