-- Items that were written are read back, one by one and as a set. Assumes nothing.
use Rattle.std.specs.Prelude.{Ok}
use Prim.Native.Nat.{ℕ, ◌+◌, ◌≤◌, ◌<◌}
use mathlib.Core.Path.{◌≡◌, refl, sym, ap, ◌∙◌}
use mathlib.Core.List.{List, [], ◌∷◌, ◌++◌}
use mathlib.Core.Bool.{true, false}
use native.Mathlib.Nat.{mod-eq_of_lt}
use native.Mathlib.Omega.{arith}
use borrow.Author.Tests.{le-leb, lt-leb, leb-true}
use lib.Dec.{leb}
use lib.ListN.{length, get_or, take, drop, length-append}
use lib.Seq.{sets}
use Rattle.parts.specs.Number.{number_at, number_of}
use Rattle.written_numbers.specs.Number.{bytes_of}
use Rattle.written_numbers.proofs.Stores.{sets_append, Stands, stands_left, stands_right, stands_part, stored}
use Rattle.written_numbers.proofs.Written.{bytes-length, stands_number, number_of_bytes}
use Rattle.lengths.specs.Length.{held_at, two_field}
use Rattle.lengths.proofs.Laws.{held}
use Rattle.items.specs.Items.{length_in, items_of}
use Rattle.items.proofs.Laws.{item-end, item-whole}
use Rattle.items.proofs.From.{items_from, no_items, one_more}
use Rattle.written_lengths.proofs.Both.{left, right}
use Rattle.written_tables.specs.Items.{good_item, local_bytes, Tagged, set_bytes, good_set, put_set, tagged_of}
use Rattle.written_tables.specs.Back.{item_of, next_of, Back, ItemsBack, SetsBack}

module _ (tag n : ℕ) where
  pub good_tag : 0xffff < tag → good_item tag n ≡ false
  unfolding good_item
  good_tag h = rw (lt-leb tag 0xffff h)

  pub good_long : tag ≤ 0xffff → 0xffff < n → good_item tag n ≡ false
  unfolding good_item
  good_long k h = rw (le-leb tag 0xffff k, lt-leb n 0xffff h)

  pub good_both : tag ≤ 0xffff → n ≤ 0xffff → good_item tag n ≡ true
  unfolding good_item
  good_both k h = rw (le-leb tag 0xffff k, le-leb n 0xffff h)

  good_is : good_item tag n ≡ true → (tag ≤ 0xffff) × (n ≤ 0xffff)
  unfolding good_item
  good_is g = (leb-true tag 0xffff (left (leb tag 0xffff) (leb n 0xffff) g), leb-true n 0xffff (right (leb tag 0xffff) (leb n 0xffff) g))

pub local_length : (tag : ℕ) (value : List ℕ) → length (local_bytes tag value) ≡ 4 + length value
unfolding local_bytes
local_length tag value = length-append (bytes_of 2 tag) (bytes_of 2 (length value) ++ value) ∙ rw (length-append, bytes-length, bytes-length) (omega arith)

pub local_put : (tag : ℕ) (value o : List ℕ) (at : ℕ) → sets (sets (sets o at (bytes_of 2 tag)) (at + 2) (bytes_of 2 (length value))) (at + 4) value ≡ sets o at (local_bytes tag value)
unfolding local_bytes
local_put tag value o at =
    let x : at + length (bytes_of 2 tag) ≡ at + 2 = omega (arith, bytes-length 2 tag) in
    let y : at + 2 + length (bytes_of 2 (length value)) ≡ at + 4 = omega (arith, bytes-length 2 (length value)) in
    sym
    (sets_append (bytes_of 2 tag) (bytes_of 2 (length value) ++ value) o at
    ∙ rw x (sets_append (bytes_of 2 (length value)) value (sets o at (bytes_of 2 tag)) (at + 2) ∙ rw y))

-- where an item's bytes stand, a step over a set's items finds it
pub item_back : (t : List ℕ) (at tag : ℕ) (value : List ℕ) → good_item tag (length value) ≡ true → Stands (local_bytes tag value) t at → Back t at tag value
unfolding local_bytes length_in
item_back t at tag value g w =
    let d = good_is tag (length value) g in
    let key = stands_left (bytes_of 2 tag) (bytes_of 2 (length value) ++ value) w in
    let body = rw (bytes-length 2 tag) at (stands_right (bytes_of 2 tag) (bytes_of 2 (length value) ++ value) w) in
    let size = stands_left (bytes_of 2 (length value)) value body in
    let last = rw (bytes-length 2 (length value)) at (stands_right (bytes_of 2 (length value)) value body) in
    let n : number_at t (at + 2) 2 ≡ length value = stands_number t (at + 2) 2 (length value) size ∙ mod-eq_of_lt (omega arith) in
    let l : held_at two_field t (at + 2) 2 ≡ Ok (two_field (length value)) = held two_field t (at + 2) 2 (omega (arith, last.there)) ∙ rw n in
    record {
      step = item-whole 2 false t at (omega (arith, last.there)) (two_field (length value)) l (omega (arith, last.there));
      tag_is = ap number_of (rw (bytes-length 2 tag) at (stands_part key)) ∙ number_of_bytes 2 tag ∙ mod-eq_of_lt (omega arith);
      value-is = stands_part last;
    }

-- so it is of one that was put
pub items_back : ItemsBack
items_back o at tag value g h = item_back (sets o at (local_bytes tag value)) at tag value g (stored (local_bytes tag value) o at h)

-- items that are put one behind the other
put_all : (l : List Tagged) (o : List ℕ) (at : ℕ) → put_set l o at ≡ sets o at (set_bytes l)
unfolding set_bytes put_set
put_all [] o at = refl
put_all (x ∷ more) o at =
    put_all more (sets o at (local_bytes x.tag x.value)) (at + length (local_bytes x.tag x.value))
    ∙ sym (sets_append (local_bytes x.tag x.value) (set_bytes more) o at)

-- and a set that was written reads as the tags and values that it was given
reads-from : (t : List ℕ) (at : ℕ) (l : List Tagged) → good_set l ≡ true → Stands (set_bytes l) t at → at + length (set_bytes l) ≡ length t → tagged_of t (items_from 2 false t at) ≡ l
unfolding set_bytes good_set tagged_of
reads-from t at [] g w e = rw (no_items 2 false t at (item-end 2 false t at (omega arith)))
reads-from t at (x ∷ more) g w e =
    let here = left (good_item x.tag (length x.value)) (good_set more) g in
    let rest = right (good_item x.tag (length x.value)) (good_set more) g in
    let one = item_back t at x.tag x.value here (stands_left (local_bytes x.tag x.value) (set_bytes more) w) in
    let n : at + length (local_bytes x.tag x.value) ≡ next_of at (length x.value) = omega (arith, local_length x.tag x.value) in
    let u = rw n at (stands_right (local_bytes x.tag x.value) (set_bytes more) w) in
    let a = length-append (local_bytes x.tag x.value) (set_bytes more) in
    let i = one_more 2 false t at (item_of t at (length x.value)) (next_of at (length x.value)) one.step in
    rw (i, one.tag_is, one.value-is, reads-from t (next_of at (length x.value)) more rest u (omega arith))

set_reads : (l : List Tagged) → good_set l ≡ true → tagged_of (set_bytes l) (items_of 2 false (set_bytes l)) ≡ l
unfolding items_of
set_reads l g =
    reads-from (set_bytes l) 0 l g
    (record { there = omega arith; equal = λ i h. ap (λ (k : ℕ). get_or (set_bytes l) k 0) (omega arith) }) (omega arith)

pub sets_back : SetsBack
sets_back l g =
    record {
      put = λ o at h. ap (λ (t : List ℕ). take (length (set_bytes l)) (drop at t)) (put_all l o at) ∙ stands_part (stored (set_bytes l) o at h);
      reads = set_reads l g;
    }
