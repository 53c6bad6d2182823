-- The loop over the rest of a piece: what was put, and what is left of the piece from the cursor on, is the whole. Assumes nothing.
use Prim.Native.Nat.{ℕ, ◌+◌, ◌-◌, ◌*◌, ◌≤◌, ◌<◌}
use mathlib.Core.Path.{◌≡◌, refl, sym, ap, subst, ◌∙◌}
use mathlib.Core.List.{List}
use mathlib.Core.Logic.{inl, inr, by_cases}
use native.Mathlib.Decide.{dec_lt}
use native.Mathlib.Omega.{arith}
use lib.ListN.{length}
use lib.Seq.{sets}
use Rattle.labels.specs.Label.{label_at}
use Rattle.klv.specs.declared.Klv.{Klv}
use Rattle.fed_states.specs.declared.State.{State}
use Rattle.fed_states.specs.State.{sought, gone_on, whole_label}
use Rattle.fed_states.proofs.Laws.{label-whole}
use Rattle.fed_bytes.specs.Feed.{Taken, took}
use Rattle.fed_bytes.specs.Fill.{kept_from}
use Rattle.fed_bytes.proofs.Walking.{onward}
use Rattle.fed.specs.Parts.{rest_of}
use Rattle.fed.proofs.Reaching.{rest_in}
use Rattle.fed_pieces.specs.Pieces.{Fits}
use Rattle.host_records.specs.Batch.{places_each, record_put}
use Rattle.host_fed_states.specs.Places.{state_places}
use Rattle.host_fed_records.specs.Many.{ends, Ran, Ended}
use Rattle.host_fed_records.proofs.Putting.{ran-start, ran_on, ran-next}
use Rattle.host_fed_records.proofs.Walking.{rest-of, standing, at_place, tail_length, within, at-end, Got, Waits}

-- a state with another place where walking last went on
abbrev pub since_of : State → ℕ → State
since_of st since = record { limit = st.limit; known = st.known; live = st.live; at = st.at; have = st.have; since = since; label = st.label; ber = st.ber }

-- from the state st, i bytes having been taken and n records put
module _ (st : State) (piece : List ℕ) (i n most : ℕ) (rs₀ ls₀ : List ℕ) where
  -- at a place of the rest, where there is room for one more
  pub record Walks (rs ls : List ℕ) (p since m : ℕ) : Type 0 where
    pub label : List ℕ
    pub more : p < length (rest-of piece i)
    pub room : m < most
    pub ran : Ran piece most (took st i) n rs₀ ls₀ (at_place st i p since label) m rs ls

  module _ (f : Fits piece st.limit (took st i)) where
    pub walks_start : st ≡ sought st st.at 0 → i < length piece → n < most → Walks rs₀ ls₀ 0 st.since n
    walks_start e o h =
        let x : st.at + 0 ≡ st.at = omega arith in
        let y : i + 0 ≡ i = omega arith in
        let z : took st i ≡ at_place st i 0 st.since (sought st st.at 0).label = rw (x, y) (ap (λ (s : State). took s i) e) in
        record {
          label = (sought st st.at 0).label;
          more = omega (arith, tail_length st piece i f);
          room = h;
          ran = subst (λ (q : Taken). Ran piece most (took st i) n rs₀ ls₀ q n rs₀ ls₀) z (ran-start piece most (took st i) n rs₀ ls₀ (omega arith));
        }

    -- places of the rest lie within the piece and the limit
    pub place-within : (q : ℕ) → q ≤ length (rest-of piece i) → (st.at + q ≤ st.limit) × (i + q ≤ length piece)
    place-within q h = let l = tail_length st piece i f in (omega (arith, f.within), omega (arith, f.most))

    module _ {rs ls : List ℕ} {p since m : ℕ} (w : Walks rs ls p since m) where
      -- it ends where the walk waits
      pub walks_waits : (q : ℕ) → Waits st piece i f p since w.label w.more q → {s o : List ℕ} → s ≡ state_places (rest_of (since_of st since) (rest-of piece i) q) → o ≡ ends m (length piece)
          → Ended piece most (took st i) n rs₀ ls₀ rs ls s o
      unfolding kept_from
      walks_waits q g x y =
          record {
            last = at_place st i p since w.label;
            count = m;
            end = took (kept_from (standing st p since w.label) st.at (rest-of piece i) q) (length piece);
            ran = w.ran;
            over = inr (w.room, rw g.is refl);
            state-put = x ∙ ap (λ (s : State). state_places s) (sym (rest_in (since_of st since) (rest-of piece i) q (within st piece i f) g.most));
            out_put = y;
          }

      -- or a record is put
      module _ (r : Klv) (q : ℕ) (g : Got st piece i f p since w.label w.more r q) where
        abbrev label : List ℕ
        label = label_at (rest-of piece i) r.at

        abbrev records : List ℕ
        records = record_put (onward st.at r) (st.at + r.at - since) (places_each * m) rs

        abbrev labels : List ℕ
        labels = sets ls (16 * m) label

        ran_further : Ran piece most (took st i) n rs₀ ls₀ (at_place st i q (st.at + q) label) (m + 1) records labels
        ran_further = ran_on piece most w.ran (ran-next piece most (at_place st i p since w.label) m rs ls w.room _ _ g.is)

        -- and it goes on
        pub walks_next : m + 1 < most → q < length (rest-of piece i) → Walks records labels q (st.at + q) (m + 1)
        walks_next a b = record { label = label; more = b; room = a; ran = ran_further }

        -- or ends: the room is full, or nothing is left
        pub walks_over : (m + 1 < most → q < length (rest-of piece i) → ⊥) → {s o : List ℕ}
            → s ≡ state_places (gone_on st (st.at + q) (whole_label (rest-of piece i) r.at)) → o ≡ ends (m + 1) (i + q) → Ended piece most (took st i) n rs₀ ls₀ records labels s o
        walks_over stop x y =
            record {
              last = at_place st i q (st.at + q) label;
              count = m + 1;
              end = at_place st i q (st.at + q) label;
              ran = ran_further;
              over = by_cases (dec_lt (m + 1) most) (λ a. inr (a, rw (at-end st piece i f q (st.at + q) label (let d = g.most in by_cases (dec_lt q (length (rest-of piece i))) (λ z. absurd (stop a z)) (λ z. omega arith))) refl)) (λ a. inl (omega arith, refl));
              state-put = x ∙ rw (label-whole (rest-of piece i) r.at g.there) refl;
              out_put = y;
            }
