-- The loops over a run: what is left of it makes the whole. Assumes nothing.
use Prim.Native.Nat.{ℕ, ◌+◌, ◌≤◌}
use mathlib.Core.Path.{◌≡◌, refl, sym, ap, ◌∙◌}
use mathlib.Core.List.{List, [], ◌∷◌, ◌++◌}
use native.Mathlib.Omega.{arith}
use lib.ListN.{length, take, drop, length-append}
use lib.Seq.{sets, length-sets}
use Rattle.parts.specs.Bytes.{Bytes}
use Rattle.written_numbers.proofs.Stores.{sets_append}
use Rattle.steps.specs.Told.{found, nothing}
use Rattle.lengths.specs.declared.Field.{Field}
use Rattle.klv.specs.declared.Klv.{Klv}
use Rattle.klv.specs.Item.{Item, item, klv}
use Rattle.items.specs.Items.{run_step, run_of}
use Rattle.written_lengths.specs.Form.{form_of, shortest_size}
use Rattle.written_lengths.proofs.Sizes.{Shortest, shortest-is}
use Rattle.written_lengths.proofs.Forms.{form_length, read_is}
use Rattle.written_klvs.specs.Klvs.{klv_bytes, in_shortest, rewritten}
use Rattle.written_klvs.specs.Back.{item_of, next_of}
use Rattle.written_klvs.proofs.Runs.{run_from, bytes_from, Here, Turn, over, more, turn, klv-length, key-length, value-length, item-is}

-- storing a KLV: its key, its length, its value
pub klv-put : (key : List ℕ) (size : ℕ) (value o : List ℕ) (at : ℕ) → length key ≡ 16
    → sets (sets (sets o at key) (at + 16) (form_of size (length value))) (at + 16 + size) value ≡ sets o at (klv_bytes key size value)
unfolding klv_bytes
klv-put key size value o at h =
    sym
    (sets_append key (form_of size (length value) ++ value) o at
    ∙ rw h (sets_append (form_of size (length value)) value (sets o at key) (at + 16) ∙ rw form_length))

-- What a step of the run that finds k and goes on from n tells
pub record Next (s : List ℕ) (p : ℕ) (k : Klv) (n : ℕ) : Type 0 where
  pub here : k.at ≡ p
  pub start : p + 17 ≤ k.value
  pub goes_on : n ≡ k.value + k.len
  pub there : n ≤ length s
  pub shorter : p + (16 + shortest_size k.len + k.len) ≤ n
  pub size : Shortest k.len (shortest_size k.len)
  pub key : length (take 16 (drop k.at s)) ≡ 16
  pub value : length (take k.len (drop k.value s)) ≡ k.len
  pub bytes : bytes_from s p ≡ klv_bytes (take 16 (drop k.at s)) (shortest_size k.len) (take k.len (drop k.value s)) ++ bytes_from s n

here-next : (s : List ℕ) → Bytes s → (p : ℕ) (f : Field) → Here s p f → run_from s p ≡ item_of s p f ∷ run_from s (next_of p f) → Next s p (klv 16 p f) (next_of p f)
unfolding in_shortest
here-next s b p f w i =
    let r = read_is s (p + 16) f b w.field in
    record {
      here = refl;
      start = omega (arith, w.least);
      goes_on = refl;
      there = w.there;
      shorter = omega (arith, r.longer);
      size = shortest-is f.value r.whole;
      key = key-length s p f w;
      value = value-length s p f w;
      bytes = ap (in_shortest s) i ∙ ap (λ (l : List ℕ). l ++ bytes_from s (next_of p f)) (item-is s p f w);
    }

pub step-next : (s : List ℕ) → Bytes s → (p : ℕ) (k : Klv) (n : ℕ) → found (item 16 s k) n ≡ run_step s p → Next s p k n
step-next s b p k n e = go (turn s p)
  where
    go : Turn s p → Next s p k n
    go (over t i q) = absurd (let z : ◌≡◌ {A = ℕ} 0 1 = cc in omega arith)
    go (more f w t i q) =
        let x : item_of s p f ≡ item 16 s k = cc in
        let y : klv 16 p f ≡ k = ap (λ (j : Item). j.klv) x in
        let z : next_of p f ≡ n = cc in
        rw z at (rw y at (here-next s b p f w i))

pub step-over : (s : List ℕ) (p : ℕ) → nothing p ≡ run_step s p → bytes_from s p ≡ []
unfolding in_shortest
step-over s p e = go (turn s p)
  where
    go : Turn s p → bytes_from s p ≡ []
    go (over t i q) = ap (in_shortest s) i
    go (more f w t i q) = absurd (let z : ◌≡◌ {A = ℕ} 0 1 = cc in omega arith)

whole_run : (s : List ℕ) → bytes_from s 0 ≡ rewritten s
unfolding rewritten run_of
whole_run s = refl

-- how long the run's shortest form is: n so far
pub record Counting (s : List ℕ) (n at : ℕ) : Type 0 where
  pub within : at ≤ length s
  pub fits : n ≤ at
  pub whole : n + length (bytes_from s at) ≡ length (rewritten s)

pub counting-start : (s : List ℕ) → Counting s 0 0
counting-start s = record { within = omega arith; fits = omega arith; whole = rw (whole_run s) (omega arith) }

pub counting-end : (s : List ℕ) (n at : ℕ) → Counting s n at → nothing at ≡ run_step s at → n ≡ length (rewritten s)
counting-end s n at c e = let z = ap length (step-over s at e) in omega (arith, c.whole)

pub next-length : (s : List ℕ) (p : ℕ) (k : Klv) (n : ℕ) → Next s p k n → length (bytes_from s p) ≡ 16 + shortest_size k.len + k.len + length (bytes_from s n)
next-length s p k n w =
    ap length w.bytes
    ∙ length-append (klv_bytes (take 16 (drop k.at s)) (shortest_size k.len) (take k.len (drop k.value s))) (bytes_from s n)
    ∙ rw (klv-length, w.key, w.value) (omega arith)

pub counting-next : (s : List ℕ) (n at : ℕ) → Counting s n at → (k : Klv) (q size : ℕ) → Next s at k q → size ≡ shortest_size k.len → Counting s (n + (16 + size + k.len)) q
counting-next s n at c k q size w e =
    let l = next-length s at k q w in
    record { within = w.there; fits = omega (arith, c.fits, w.shorter); whole = omega (arith, c.whole) }

-- what of it is written: up to r so far
pub record Putting (s o₀ o : List ℕ) (r at : ℕ) : Type 0 where
  pub within : at ≤ length s
  pub same : length o ≡ length o₀
  pub room : r + length (bytes_from s at) ≤ length o₀
  pub whole : sets o₀ 0 (rewritten s) ≡ sets o r (bytes_from s at)

pub putting_start : (s o : List ℕ) → length (rewritten s) ≤ length o → Putting s o o 0 0
putting_start s o h = record { within = omega arith; same = refl; room = rw (whole_run s) (omega arith); whole = rw (whole_run s) }

pub putting_end : (s o₀ o : List ℕ) (r at : ℕ) → Putting s o₀ o r at → nothing at ≡ run_step s at → o ≡ sets o₀ 0 (rewritten s)
putting_end s o₀ o r at c e = sym (c.whole ∙ rw (step-over s at e))

pub putting_next : (s o₀ o : List ℕ) (r at : ℕ) → Putting s o₀ o r at → (k : Klv) (q size : ℕ) → Next s at k q → size ≡ shortest_size k.len
    → (key value o₂ : List ℕ) → key ≡ take 16 (drop k.at s) → value ≡ take k.len (drop k.value s) → o₂ ≡ sets o r (klv_bytes key size value)
    → Putting s o₀ o₂ (r + (16 + size + k.len)) q
putting_next s o₀ o r at c k q size w e key value o₂ x y z =
    let l = next-length s at k q w in
    let b : List ℕ = klv_bytes (take 16 (drop k.at s)) (shortest_size k.len) (take k.len (drop k.value s)) in
    let n : length b ≡ 16 + (shortest_size k.len + k.len) = klv-length (take 16 (drop k.at s)) (shortest_size k.len) (take k.len (drop k.value s)) ∙ rw (w.key, w.value) in
    let d : o₂ ≡ sets o r b = z ∙ rw (x, y, e) in
    let m : r + length b ≡ r + (16 + size + k.len) = omega arith in
    record {
      within = w.there;
      same = ap length d ∙ length-sets o r b ∙ c.same;
      room = omega (arith, c.room);
      whole = c.whole ∙ ap (λ (u : List ℕ). sets o r u) w.bytes ∙ sets_append b (bytes_from s q) o r ∙ rw (m, ← d);
    }

-- there is room for the next one
pub putting_room : (s o₀ o : List ℕ) (r at : ℕ) → Putting s o₀ o r at → (k : Klv) (q : ℕ) → Next s at k q → r + (16 + shortest_size k.len + k.len) ≤ length o
putting_room s o₀ o r at c k q w = omega (arith, c.room, c.same, next-length s at k q w)
