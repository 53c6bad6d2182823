-- A record that is put in a slot reads back, and leaves every other slot. Assumes nothing.
use Prim.Native.Nat.{ℕ, zero, suc, ◌+◌, ◌*◌, ◌/◌, ◌%◌, ◌^◌, ◌≤◌, ◌<◌}
use mathlib.Core.Path.{◌≡◌, refl, ◌∙◌}
use mathlib.Core.List.{List, [], ◌∷◌, ◌++◌}
use mathlib.Core.Bool.{Bool, true, false}
use mathlib.Core.Logic.{by_cases, ◌⊎◌, inl, inr, ⊎_elim}
use native.Mathlib.Omega.{arith}
use native.Mathlib.Nat.{mod-eq_of_lt}
use native.Mathlib.Decide.{dec_lt}
use lib.ListN.{length}
use lib.Seq.{sets, length-sets}
use Rattle.parts.specs.Number.{number_at}
use Rattle.written_numbers.specs.Number.{bytes_of}
use Rattle.written_numbers.proofs.Stores.{get_d_sets_other, stored}
use Rattle.written_numbers.proofs.Written.{bytes-length, stands_number}
use Rattle.index.specs.declared.Entry.{Entry}
use Rattle.index.specs.declared.Layout.{Layout}
use Rattle.index.specs.declared.Layout.TheVariants.{Rows, Columns}
use Rattle.index.specs.Places.{start_place, rest_place, entry_at, put_at, slot_entry, put_slot, slot_of, entries}
use Rattle.index.proofs.Laws.{Good, within, slot_in}

-- numbers and stores

number-other : (x o : List ℕ) (at q m : ℕ) → (q + m ≤ at) ⊎ (at + length x ≤ q) → number_at (sets o at x) q m ≡ number_at o q m
unfolding number_at
number-other x o at q zero h = refl
number-other x o at q (suc m) h =
    rw (
      number-other x o at q m (⊎_elim (λ (z : q + suc m ≤ at). inl (omega arith)) (λ (z : at + length x ≤ q). inr z) h),
      get_d_sets_other x o at (q + m) (⊎_elim (λ (z : q + suc m ≤ at). inl (omega arith)) (λ (z : at + length x ≤ q). inr (omega arith)) h),
    )

number_back : (o : List ℕ) (at n v : ℕ) → at + n ≤ length o → v < 256 ^ n → number_at (sets o at (bytes_of n v)) at n ≡ v
number_back o at n v h s =
    stands_number (sets o at (bytes_of n v)) at n v (stored (bytes_of n v) o at (rw (bytes-length n v) h)) ∙ mod-eq_of_lt s

off : (n v : ℕ) (o : List ℕ) (p q m : ℕ) → (q + m ≤ p) ⊎ (p + n ≤ q) → number_at (sets o p (bytes_of n v)) q m ≡ number_at o q m
off n v o p q m h = number-other (bytes_of n v) o p q m (⊎_elim (λ (z : q + m ≤ p). inl z) (λ (z : p + n ≤ q). inr (omega (arith, bytes-length n v))) h)

put_other : (b : List ℕ) (p r : ℕ) (e : Entry) (q m : ℕ) → (q + m ≤ p) ⊎ (p + 6 ≤ q) → (q + m ≤ r) ⊎ (r + 10 ≤ q) → number_at (put_at b p r e) q m ≡ number_at b q m
put_other b p r e q m x y =
    let A : List ℕ = sets b p (bytes_of 6 e.start) in
    let B : List ℕ = sets A r (bytes_of 2 (e.size * 4096 + e.group)) in
    off 8 e.len B (r + 2) q m (⊎_elim (λ (z : q + m ≤ r). inl (omega arith)) (λ (z : r + 10 ≤ q). inr (omega arith)) y)
    ∙ off 2 (e.size * 4096 + e.group) A r q m (⊎_elim (λ (z : q + m ≤ r). inl (omega arith)) (λ (z : r + 10 ≤ q). inr (omega arith)) y)
    ∙ off 6 e.start b p q m x

put_new : (b : List ℕ) (p r : ℕ) (e : Entry) → p + 6 ≤ r → r + 10 ≤ length b → Good e → e.start < 2 ^ 48 → e.len < 2 ^ 64 → entry_at (put_at b p r e) p r ≡ e
put_new b p r e own room g s l =
    let A : List ℕ = sets b p (bytes_of 6 e.start) in
    let B : List ℕ = sets A r (bytes_of 2 (e.size * 4096 + e.group)) in
    let C : List ℕ = sets B (r + 2) (bytes_of 8 e.len) in
    let a-long = length-sets b p (bytes_of 6 e.start) in
    let b-long = length-sets A r (bytes_of 2 (e.size * 4096 + e.group)) in
    let x : number_at C p 6 ≡ e.start =
    off 8 e.len B (r + 2) p 6 (inl (omega arith)) ∙ off 2 (e.size * 4096 + e.group) A r p 6 (inl own) ∙ number_back b p 6 e.start (omega arith) (omega arith)
    in
    let y : number_at C r 2 ≡ e.size * 4096 + e.group =
    off 8 e.len B (r + 2) r 2 (inl (omega arith)) ∙ number_back A r 2 (e.size * 4096 + e.group) (omega arith) (omega arith)
    in
    let z : number_at C (r + 2) 8 ≡ e.len = number_back B (r + 2) 8 e.len (omega arith) (omega arith) in
    let hi : (e.size * 4096 + e.group) / 4096 ≡ e.size = omega arith in
    let lo : (e.size * 4096 + e.group) % 4096 ≡ e.group = omega arith in
    rw (x, y, z, hi, lo) refl

-- the parts of one slot stand apart from those of another

record Clear (l : Layout) (room s t : ℕ) : Type 0 where
  starts : (start_place l t + 6 ≤ start_place l s) ⊎ (start_place l s + 6 ≤ start_place l t)
  rests : (rest_place l room t + 10 ≤ rest_place l room s) ⊎ (rest_place l room s + 10 ≤ rest_place l room t)
  start-rest : (start_place l t + 6 ≤ rest_place l room s) ⊎ (rest_place l room s + 10 ≤ start_place l t)
  rest-start : (rest_place l room t + 10 ≤ start_place l s) ⊎ (start_place l s + 6 ≤ rest_place l room t)

clear : (l : Layout) (room s t : ℕ) → s < room → t < room → (t ≡ s → ⊥) → Clear l room s t
clear Rows room s t h k d =
    by_cases (dec_lt t s)
    (λ m. record { starts = inl (omega arith); rests = inl (omega arith); start-rest = inl (omega arith); rest-start = inl (omega arith) })
    (λ m.
    by_cases (dec_lt s t)
    (λ n. record { starts = inr (omega arith); rests = inr (omega arith); start-rest = inr (omega arith); rest-start = inr (omega arith) })
    (λ n. absurd (d (omega arith))))
clear Columns room s t h k d =
    by_cases (dec_lt t s)
    (λ m. record { starts = inl (omega arith); rests = inl (omega arith); start-rest = inl (omega arith); rest-start = inr (omega arith) })
    (λ m.
    by_cases (dec_lt s t)
    (λ n. record { starts = inr (omega arith); rests = inr (omega arith); start-rest = inl (omega arith); rest-start = inr (omega arith) })
    (λ n. absurd (d (omega arith))))

part : (p n q m d : ℕ) → d + m ≤ n → (q + n ≤ p) ⊎ (p + 10 ≤ q) → (q + d + m ≤ p) ⊎ (p + 10 ≤ q + d)
part p n q m d k h = ⊎_elim (λ (z : q + n ≤ p). inl (omega arith)) (λ (z : p + 10 ≤ q). inr (omega arith)) h

module _ (l : Layout) (room : ℕ) (b : List ℕ) (s : ℕ) (e : Entry) (h : s < room) where
  pub slot_kept : (t : ℕ) → t < room → (t ≡ s → ⊥) → slot_entry l room (put_slot l room b s e) t ≡ slot_entry l room b t
  slot_kept t k d =
      let p : ℕ = start_place l s in
      let r : ℕ = rest_place l room s in
      let q : ℕ = start_place l t in
      let u : ℕ = rest_place l room t in
      let w = clear l room s t h k d in
      rw (
        put_other b p r e q 6 w.starts w.start-rest,
        put_other b p r e u 2 (⊎_elim (λ (z : u + 10 ≤ p). inl (omega arith)) (λ (z : p + 6 ≤ u). inr z) w.rest-start)
            (⊎_elim (λ (z : u + 10 ≤ r). inl (omega arith)) (λ (z : r + 10 ≤ u). inr z) w.rests),
        put_other b p r e (u + 2) 8 (⊎_elim (λ (z : u + 10 ≤ p). inl (omega arith)) (λ (z : p + 6 ≤ u). inr (omega arith)) w.rest-start)
            (⊎_elim (λ (z : u + 10 ≤ r). inl (omega arith)) (λ (z : r + 10 ≤ u). inr (omega arith)) w.rests),
      ) refl

  pub slot_new : room * 16 ≤ length b → Good e → e.start < 2 ^ 48 → e.len < 2 ^ 64 → slot_entry l room (put_slot l room b s e) s ≡ e
  slot_new k g x m =
      let w = within l room s h in
      put_new b (start_place l s) (rest_place l room s) e w.own (omega arith) g x m

  pub put-length : length (put_slot l room b s e) ≡ length b
  put-length = simp length-sets

  -- a list that has nothing in that slot stays
  pub entries-kept : (down : Bool) (n : ℕ) → n ≤ room → ((k : ℕ) → k < n → slot_of down room k ≡ s → ⊥) → entries l down room (put_slot l room b s e) n ≡ entries l down room b n
  unfolding entries
  entries-kept down zero m d = refl
  entries-kept down (suc n) m d =
      rw (entries-kept down n (omega arith) (λ k z. d k (omega arith)), slot_kept (slot_of down room n) (slot_in down room n (omega arith)) (d n (omega arith)))

-- slots of one file differ, and those of the two while not all are in use
pub slot_apart : (down : Bool) (room j n : ℕ) → j < n → n < room → slot_of down room j ≡ slot_of down room n → ⊥
slot_apart false room j n h m z = omega arith
slot_apart true room j n h m z = omega arith

-- the list with a record more
module _ (l : Layout) (down : Bool) (room : ℕ) (b : List ℕ) (n : ℕ) (e : Entry) (h : n < room) (k : room * 16 ≤ length b) where
  pub entries-more : Good e → e.start < 2 ^ 48 → e.len < 2 ^ 64 → entries l down room (put_slot l room b (slot_of down room n) e) (suc n) ≡ entries l down room b n ++ (e ∷ [])
  unfolding entries
  entries-more g x m =
      rw (
        entries-kept l room b (slot_of down room n) e (slot_in down room n h) down n (omega arith) (λ j z. slot_apart down room j n z h),
        slot_new l room b (slot_of down room n) e (slot_in down room n h) k g x m,
      ) refl
