-- A length that was written reads as that number in that size, and a shortest one that was read has the bytes of its form. Assumes nothing.
use Rattle.std.specs.Prelude.{Ok, Result}
use Prim.Native.Nat.{ℕ, zero, suc, ◌+◌, ◌-◌, ◌^◌, ◌≤◌, ◌<◌}
use mathlib.Core.Path.{◌≡◌, refl, sym, ap, ◌∙◌}
use mathlib.Core.List.{List, [], ◌∷◌, ◌++◌, append_assoc, append-nil}
use mathlib.Core.Bool.{true}
use native.Mathlib.Nat.{mod-eq_of_lt, add-sub_cancel_left}
use native.Mathlib.Omega.{arith}
use borrow.Author.Tests.{le-leb, eqb-true, eq-eqb}
use lib.Dec.{lit<}
use lib.ListN.{length, get_or, take, drop, set, drop_of_length-le}
use lib.Seq.{sets, sets-eq, drop-drop, drop-cons}
use Rattle.parts.specs.Number.{number_at}
use Rattle.written_numbers.specs.Number.{bytes_of}
use Rattle.parts.specs.Bytes.{Bytes}
use Rattle.parts.proofs.Numbers.{number-below}
use Rattle.written_numbers.proofs.Stores.{Stands, part_is, stands_right, stored}
use Rattle.written_numbers.proofs.Written.{bytes-length, stands_number, bytes_of_number}
use Rattle.lengths.specs.declared.Field.{Field}
use Rattle.lengths.specs.declared.NoLength.{NoLength}
use Rattle.lengths.specs.Length.{bound_of, field, length_at}
use Rattle.lengths.proofs.Laws.{taken, shortest_eighty, shortest_else, short_read, more, held, Case, c_past, c_short, c_none, c_cut, c_long, case}
use Rattle.written_lengths.specs.Form.{form_of, shortest_size, told}
use Rattle.written_lengths.specs.Back.{LengthsBack, LengthsRead}
use Rattle.written_lengths.proofs.Sizes.{bound_zero, bound_one, bound_more, bound_small, bound_nine, holds-is, Shortest, shortest-is, size-shortest, shortest_least}

pub form_length : (size v : ℕ) → length (form_of size v) ≡ size
unfolding form_of
form_length zero v = refl
form_length (suc zero) v = refl
form_length (suc (suc n)) v = ap suc (bytes-length (suc n) v)

-- storing it: one byte, or the first byte and then the number's
pub form_one : (size v : ℕ) (o : List ℕ) (at : ℕ) → size < 2 → v < bound_of size → set o at v ≡ sets o at (form_of size v)
unfolding form_of
form_one size v o at k h = let z = (bound_small size v k h).0 in rw z

pub form_more : (size v : ℕ) (o : List ℕ) (at : ℕ) → 2 ≤ size → sets (set o at (0x80 + (size - 1))) (at + 1) (bytes_of (size - 1) v) ≡ sets o at (form_of size v)
unfolding form_of
form_more zero v o at h = absurd (omega arith)
form_more (suc zero) v o at h = absurd (omega arith)
form_more (suc (suc n)) v o at h =
    let z : suc (suc n) - 1 ≡ suc n = omega arith in
    let y : at + 1 ≡ suc at = omega arith in
    rw (z, y)

-- a part of the room that is filled, and the room with what a part was filled with
pub sets_all : (x o : List ℕ) → length x ≡ length o → sets o 0 x ≡ x
sets_all x o h = sets-eq x o 0 (omega arith) ∙ rw (drop_of_length-le o {i = 0 + length x} (omega arith), append-nil)

pub part_put : (x o y : List ℕ) (at n : ℕ) → at + n ≤ length o → length x ≡ n → y ≡ x → take at o ++ (y ++ drop (at + n - at) (drop at o)) ≡ sets o at x
part_put x o y at n h l e =
    sym (sets-eq x o at (omega arith) ∙ append_assoc (take at o) x _ ∙ rw (drop-drop, add-sub_cancel_left, l, e))

-- where the form of a number stands, that length is read
pub read_form : (t : List ℕ) (at size v : ℕ) → size ≤ 9 → v < bound_of size → Stands (form_of size v) t at → length_at t at ≡ Ok (told size v)
unfolding form_of
read_form t at zero v h k w = absurd (omega (arith, bound_zero))
read_form t at (suc zero) v h k w =
    let z : at + 0 ≡ at = omega arith in
    let b : get_or t at 0 ≡ v = rw z at (w.equal 0 (lit< tt)) in
    let y = bound_one in
    short_read t at (omega (arith, w.there)) (omega arith)
    ∙ rw (b, size-shortest 1 v h k, le-leb (bound_of 0) v (omega (arith, bound_zero)))
read_form t at (suc (suc n)) v h k w =
    let z : at + 0 ≡ at = omega arith in
    let b : get_or t at 0 ≡ 0x80 + suc n = rw z at (w.equal 0 (omega arith)) in
    let y : get_or t at 0 - 0x80 ≡ suc n = omega arith in
    let l = bytes-length (suc n) v in
    let x : suc (suc n) - 1 ≡ suc n = omega arith in
    let u : 1 + suc n ≡ suc (suc n) = omega arith in
    let r = stands_right ((0x80 + suc n) ∷ []) (bytes_of (suc n) v) w in
    let m : number_at t (at + 1) (suc n) ≡ v = stands_number t (at + 1) (suc n) v r ∙ mod-eq_of_lt (rw (bound_more n) at k) in
    more t at (omega (arith, w.there)) (omega arith) (omega arith)
    ∙ rw (
      y,
      held (field (get_or t at 0) (1 + suc n)) t (at + 1) (suc n) (omega (arith, w.there)),
      m,
      b,
      shortest_else (0x80 + suc n) v (suc n) (λ e. omega arith),
      size-shortest (suc (suc n)) v h k,
      x,
      u,
    )

-- so it is of what was written
pub lengths_back : LengthsBack
lengths_back o at size v g h =
    let w = holds-is size v g in
    read_form (sets o at (form_of size v)) at size v w.0 w.1 (stored (form_of size v) o at (rw form_length h))

-- Of a length that was read: its size holds the number or is 80h, and the shortest form is no longer
pub record Read (s : List ℕ) (at : ℕ) (f : Field) : Type 0 where
  pub whole : f.value < 2 ^ 64
  pub longer : shortest_size f.value ≤ f.size
  pub form : (get_or s at 0 ≡ 0x80 → ⊥) → take f.size (drop at s) ≡ form_of f.size f.value
  pub same : f.shortest ≡ true → (f.size ≡ shortest_size f.value) × (take f.size (drop at s) ≡ form_of f.size f.value)

first_of : (s : List ℕ) (at n : ℕ) → at < length s → take (suc n) (drop at s) ≡ get_or s at 0 ∷ take n (drop (at + 1) s)
first_of s at n h = let z : suc at ≡ at + 1 = omega arith in rw (drop-cons s at 0 h, z)

read_short : (s : List ℕ) (at : ℕ) → at < length s → get_or s at 0 < 0x80 → Read s at (field (get_or s at 0) 1 (get_or s at 0))
unfolding form_of
read_short s at h b =
    record {
      whole = omega arith;
      longer = shortest_least 1 (get_or s at 0) (omega arith) (rw bound_one b);
      form = λ e. first_of s at 0 h;
      same = λ e. (
        eqb-true 1 (shortest_size (get_or s at 0))
            (size-shortest 1 (get_or s at 0) (omega arith) (rw bound_one b) ∙ le-leb (bound_of 0) (get_or s at 0) (omega (arith, bound_zero))),
        first_of s at 0 h,
      );
    }

-- a first byte and n more that hold the number
long_form : (s : List ℕ) (at n : ℕ) → Bytes s → get_or s at 0 ≡ 0x80 + suc n → at + 1 + suc n ≤ length s
    → take (1 + suc n) (drop at s) ≡ form_of (1 + suc n) (number_at s (at + 1) (suc n))
unfolding form_of
long_form s at n b g h =
    let u : 1 + suc n ≡ suc (suc n) = omega arith in
    rw u (first_of s at (suc n) (omega arith) ∙ ap (λ (l : List ℕ). get_or s at 0 ∷ l) (sym (bytes_of_number s (at + 1) (suc n) b (omega arith))) ∙ rw g)

read_long : (s : List ℕ) (at n : ℕ) → Bytes s → get_or s at 0 ≡ 0x80 + n → n ≤ 8 → at + 1 + n ≤ length s → Read s at (field (get_or s at 0) (1 + n) (number_at s (at + 1) n))
unfolding number_at
read_long s at zero b g m h =
    record {
      whole = lit< tt;
      longer = shortest_least 1 0 (omega arith) (rw bound_one (lit< tt));
      form = λ e. absurd (e (omega arith));
      same = λ e. let x = shortest_eighty (get_or s at 0) 0 1 (omega arith) in absurd (let z : ◌≡◌ {A = ℕ} 0 1 = cc in omega arith);
    }
read_long s at (suc n) b g m h =
    let v : ℕ = number_at s (at + 1) (suc n) in
    let u : 1 + suc n ≡ suc (suc n) = omega arith in
    let x : 1 + suc n - 1 ≡ suc n = omega arith in
    let k : v < bound_of (1 + suc n) = rw (u, bound_more n) (number-below s (at + 1) (suc n) b) in
    record {
      whole = bound_nine (1 + suc n) v (omega arith) k;
      longer = shortest_least (1 + suc n) v (omega arith) k;
      form = λ e. long_form s at n b g h;
      same = λ e. (
        eqb-true (1 + suc n) (shortest_size v)
            (size-shortest (1 + suc n) v (omega arith) k ∙ rw x (sym (shortest_else (get_or s at 0) v (suc n) (λ y. omega arith)) ∙ e)),
        long_form s at n b g h,
      );
    }

pub read_is : (s : List ℕ) (at : ℕ) (f : Field) → Bytes s → length_at s at ≡ Ok f → Read s at f
read_is s at f b = go (length_at s at) (case s at)
  where
    go : (l : Result Field NoLength) → Case s at l → l ≡ Ok f → Read s at f
    go l (c_past h) e = absurd (let z : ◌≡◌ {A = ℕ} 0 1 = cc in omega arith)
    go l (c_short h k) e = let z : field (get_or s at 0) 1 (get_or s at 0) ≡ f = cc in rw z at (read_short s at h k)
    go l (c_none h k) e = absurd (let z : ◌≡◌ {A = ℕ} 0 1 = cc in omega arith)
    go l (c_cut n g m h k) e = absurd (let z : ◌≡◌ {A = ℕ} 0 1 = cc in omega arith)
    go l (c_long n g m h) e = let z : field (get_or s at 0) (1 + n) (number_at s (at + 1) n) ≡ f = cc in rw z at (read_long s at n b g m h)

is_same : {a : Field} (c : Field) → ◌≡◌ {A = Result Field NoLength} (Ok a) (Ok c) → a ≡ c
is_same c x = cc

pub lengths_read : LengthsRead
lengths_read s at f b e =
    record {
      written = w.form;
      shortest = λ h. (w.same h).1 ∙ ap (λ (n : ℕ). form_of n f.value) (w.same h).0;
      only_so = λ h.
          let r = read_form s at (shortest_size f.value) f.value sh.most sh.enough
          (part_is s at f.size (form_of (shortest_size f.value) f.value) (taken s at f e).there h) in
          let same : told (shortest_size f.value) f.value ≡ f = is_same f (sym r ∙ e) in
          sym (ap (λ (g : Field). g.shortest) same) ∙ eq-eqb (shortest_size f.value) (shortest_size f.value) refl;
    }
  where
    w : Read s at f
    w = read_is s at f b e

    sh : Shortest f.value (shortest_size f.value)
    sh = shortest-is f.value w.whole
