-- A host's array carries the walk from call to call. Assumes nothing.
use Prim.Native.Nat.{ℕ, zero, suc, ◌+◌, ◌-◌, ◌/◌, ◌%◌, ◌<◌}
use mathlib.Core.Path.{◌≡◌, refl, ◌∙◌}
use mathlib.Core.Bool.{Bool, true, false, cond}
use mathlib.Core.List.{List, [], ◌∷◌, ◌++◌}
use native.Mathlib.Omega.{arith}
use lib.Dec.{ltb}
use lib.ListN.{length, get_or, set, replicate, length-append, length-set}
use Rattle.parts.specs.Bytes.{Bytes}
use Rattle.steps.specs.Told.{ToldAt, found, nothing, refused}
use Rattle.steps.specs.Passed.{Passed}
use Rattle.klv.specs.Item.{Item}
use Rattle.walk.specs.declared.Turn.{Turn}
use Rattle.walk.specs.declared.Turn.TheVariants.{Stop, Search, Record}
use Rattle.fed_states.specs.declared.State.{State}
use Rattle.fed_states.specs.State.{no_label, sought, sound_of}
use Rattle.fed_bytes.specs.Eat.{seek_of, labelled, behind, turned, turn_of, eat_of}
use Rattle.fed_bytes.specs.Feed.{Taken, took, after, up_to, eats, feed_of}
use Rattle.host_fed_states.specs.Places.{bytes_of, state_of}
use Rattle.host_fed_states.specs.Read.{Kept}
use Rattle.host_fed_states.proofs.Laws.{bytes-length}
use Rattle.host_fed_states.proofs.Read.{read_back}
use Rattle.host_fed.specs.Places.{state_after}
use Rattle.host_fed.specs.Carried.{Carried}

-- Bytes stay bytes

bytes_both : (a b : List ℕ) → Bytes a → Bytes b → Bytes (a ++ b)
bytes_both [] b x y i = y i
bytes_both (c ∷ a) b x y zero = x 0
bytes_both (c ∷ a) b x y (suc i) = bytes_both a b (λ j. x (suc j)) y i

bytes-more : (v : ℕ) (l : List ℕ) → v < 256 → Bytes l → Bytes (v ∷ l)
bytes-more v l h x zero = h
bytes-more v l h x (suc i) = x i

bytes-none : (n : ℕ) → Bytes (replicate n 0)
bytes-none zero = λ i. omega arith
bytes-none (suc n) = bytes-more 0 (replicate n 0) (omega arith) (bytes-none n)

bytes-set : (l : List ℕ) (i v : ℕ) → v < 256 → Bytes l → Bytes (set l i v)
bytes-set [] i v h x j = x j
bytes-set (c ∷ l) zero v h x zero = h
bytes-set (c ∷ l) zero v h x (suc j) = x (suc j)
bytes-set (c ∷ l) (suc i) v h x zero = x 0
bytes-set (c ∷ l) (suc i) v h x (suc j) = bytes-set l i v h (λ k. x (suc k)) j

bytes-of : (n v : ℕ) → Bytes (bytes_of n v)
unfolding bytes_of
bytes-of zero v = λ i. omega arith
bytes-of (suc n) v = bytes_both (bytes_of n (v / 256)) (v % 256 ∷ []) (bytes-of n (v / 256)) (bytes-more (v % 256) [] (omega arith) (bytes-none 0))

-- Any array's state keeps a label and nine bytes, and so does every state that a byte makes of one

array_kept : (s : List ℕ) → Kept (state_of s)
array_kept s =
    record {
      label = bytes_both (bytes_of 8 (get_or s 6 0)) (bytes_of 8 (get_or s 7 0)) (bytes-of 8 (get_or s 6 0)) (bytes-of 8 (get_or s 7 0));
      sixteen = length-append (bytes_of 8 (get_or s 6 0)) (bytes_of 8 (get_or s 7 0)) ∙ rw (bytes-length 8 (get_or s 6 0), bytes-length 8 (get_or s 7 0)) refl;
      ber = bytes_both (bytes_of 1 (get_or s 8 0)) (bytes_of 8 (get_or s 9 0)) (bytes-of 1 (get_or s 8 0)) (bytes-of 8 (get_or s 9 0));
      nine = length-append (bytes_of 1 (get_or s 8 0)) (bytes_of 8 (get_or s 9 0)) ∙ rw (bytes-length 1 (get_or s 8 0), bytes-length 8 (get_or s 9 0)) refl;
    }

no-label : Bytes no_label
no-label =
    let l : List ℕ = replicate 12 0 in
    bytes-more 0x06 (0x0e ∷ 0x2b ∷ 0x34 ∷ l) (omega arith) (bytes-more 0x0e (0x2b ∷ 0x34 ∷ l) (omega arith) (bytes-more 0x2b (0x34 ∷ l) (omega arith) (bytes-more 0x34 l (omega arith) (bytes-none 12))))

kept-sought : (st : State) (at have : ℕ) → Kept (sought st at have)
kept-sought st at have = record { label = no-label; sixteen = refl; ber = bytes-none 9; nine = refl }

module _ (st : State) (b : ℕ) (k : Kept st) (h : b < 256) where
  kept_label : Kept (labelled st b)
  kept_label = record { label = bytes-set st.label st.have b h k.label; sixteen = length-set st.label st.have b ∙ k.sixteen; ber = k.ber; nine = k.nine }

  kept-behind : Kept (behind st b)
  kept-behind = go (ltb st.have 25)
    where
      go : (x : Bool) → Kept (record { limit = st.limit; known = st.known; live = st.live; at = st.at; have = st.have + 1; since = st.since; label = st.label; ber = cond x (set st.ber (st.have - 16) b) st.ber })
      go true = record { label = k.label; sixteen = k.sixteen; ber = bytes-set st.ber (st.have - 16) b h k.ber; nine = length-set st.ber (st.have - 16) b ∙ k.nine }
      go false = record { label = k.label; sixteen = k.sixteen; ber = k.ber; nine = k.nine }

  kept-turned : (t : Turn) → Kept (after (turned (behind st b) t))
  unfolding turned after
  kept-turned Stop = kept-behind
  kept-turned (Search q) = kept-sought (behind st b) q 0
  kept-turned (Record r) = record { label = k.label; sixteen = k.sixteen; ber = bytes-none 9; nine = refl }

  eat_kept : Kept (after (eat_of st b))
  unfolding eat_of after
  eat_kept = go (ltb st.have 4) (ltb st.have 16)
    where
      go : (x y : Bool) → Kept (after (cond x (nothing (sought st (st.at + st.have + 1 - seek_of st.have b) (seek_of st.have b))) (cond y (nothing (labelled st b)) (turned (behind st b) (turn_of (behind st b))))))
      go true y = kept-sought st _ _
      go false true = kept_label
      go false false = kept-turned (turn_of (behind st b))

-- So what the bytes of a piece make of it is read as it was put

eats-carried : (s l : List ℕ) (st : State) (n : ℕ) → Kept st → Bytes l → state_of (state_after s (eats st l n)) ≡ (after (eats st l n)).state
unfolding eats up_to after state_after
eats-carried s [] st n k x = read_back st k
eats-carried s (b ∷ l) st n k x = go (eat_of st b) (eat_kept st b k (x 0)) (λ t h. eats-carried s l t (n + 1) h (λ i. x (suc i)))
  where
    go : (t : ToldAt State (Passed Item)) → Kept (after t) → ((u : State) → Kept u → state_of (state_after s (eats u l (n + 1))) ≡ (after (eats u l (n + 1))).state)
        → state_of (state_after s (up_to (λ u. eats u l (n + 1)) (n + 1) t)) ≡ (after (up_to (λ u. eats u l (n + 1)) (n + 1) t)).state
    go (found a u) h ih = read_back u h
    go (nothing u) h ih = ih u h
    go (refused m u) h ih = ih u h

pub carried : Carried
unfolding feed_of after state_after
carried s piece x = go (sound_of (state_of s)) (ltb ((state_of s).limit - ((state_of s).at + (state_of s).have)) (length piece))
  where
    told : Bool → Bool → ToldAt Taken (Passed Item)
    told a b = cond a (cond b (refused 2 (took (state_of s) 0)) (eats (state_of s) piece 0)) (refused 5 (took (state_of s) 0))

    go : (a b : Bool) → state_of (state_after s (told a b)) ≡ (after (told a b)).state
    go false b = refl
    go true true = refl
    go true false = eats-carried s piece (state_of s) 0 (array_kept s) x
