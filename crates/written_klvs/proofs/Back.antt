-- What was written is read back: a KLV with its fields, and a rewritten run with its keys and values, each length in its
-- shortest form. Assumes nothing.
use Prim.Native.Nat.{ℕ, zero, suc, ◌+◌, ◌-◌, ◌≤◌, ◌<◌}
use mathlib.Core.Path.{◌≡◌, refl, ap, ◌∙◌}
use mathlib.Core.List.{List, [], ◌∷◌, ◌++◌}
use mathlib.Core.Bool.{true}
use native.Mathlib.Omega.{arith}
use borrow.Author.Tests.{eq-eqb}
use lib.Dec.{eqb}
use lib.ListN.{length, get_or, take, drop, length-append}
use lib.Seq.{sets}
use Rattle.parts.specs.Bytes.{Bytes}
use Rattle.written_numbers.proofs.Stores.{Stands, stands_left, stands_right, stands_part, stored}
use Rattle.lengths.specs.declared.Field.{Field}
use Rattle.lengths.specs.Length.{bound_of}
use Rattle.klv.specs.Item.{Item}
use Rattle.items.specs.Items.{length_in, run_of}
use Rattle.items.proofs.Laws.{item-end, item-whole}
use Rattle.items.proofs.From.{no_items, one_more}
use Rattle.written_lengths.specs.Form.{form_of, shortest_size, told}
use Rattle.written_lengths.proofs.Both.{both}
use Rattle.written_lengths.proofs.Sizes.{holds-is, shortest-is}
use Rattle.written_lengths.proofs.Forms.{form_length, read_form, read_is}
use Rattle.written_klvs.specs.Klvs.{klv_bytes, item_bytes, in_shortest, rewritten, all_shortest, pairs_of}
use Rattle.written_klvs.specs.Back.{Back, KlvsBack, RunsInShortest, item_of, next_of}
use Rattle.written_klvs.proofs.Same.{same_bytes}
use Rattle.written_klvs.proofs.Runs.{run_from, bytes_from, Here, Turn, over, more, turn, klv-length, key-length, value-length, item-is, item-length}

-- where a KLV's bytes stand, a step of the run finds it
pub klv_back : (t : List ℕ) (at : ℕ) (key : List ℕ) (size : ℕ) (value : List ℕ) → length key ≡ 16 → size ≤ 9 → length value < bound_of size
    → Stands (klv_bytes key size value) t at → Back t at key size value
unfolding klv_bytes length_in
klv_back t at key size value k h l w =
    let body = stands_right key (form_of size (length value) ++ value) w in
    let own = rw k at body in
    let form = stands_left (form_of size (length value)) value own in
    let last = rw (form_length size (length value)) at (stands_right (form_of size (length value)) value own) in
    let reads = read_form t (at + 16) size (length value) h l form in
    record {
      step = item-whole 16 true t at (omega (arith, form.there)) (told size (length value)) reads (omega (arith, last.there));
      key-is = rw k at (stands_part (stands_left key (form_of size (length value) ++ value) w));
      value-is = stands_part last;
    }

-- so it is of one that was put
pub klvs_back : KlvsBack
klvs_back o at key size value k g h =
    let w = holds-is size (length value) g in
    klv_back (sets o at (klv_bytes key size value)) at key size value k w.0 w.1 (stored (klv_bytes key size value) o at h)

-- the claim for a rewritten run, of which what s has from p on stands at q and ends t
record Same (s : List ℕ) (p : ℕ) (t : List ℕ) (q : ℕ) : Type 0 where
  pairs : pairs_of t (run_from t q) ≡ pairs_of s (run_from s p)
  short : all_shortest (run_from t q) ≡ true

next-item : (t : List ℕ) (at : ℕ) (key : List ℕ) (size : ℕ) (value : List ℕ) → Back t at key size value
    → run_from t at ≡ item_of t at (told size (length value)) ∷ run_from t (next_of at (told size (length value)))
next-item t at key size value w = one_more 16 true t at (item_of t at (told size (length value))) (next_of at (told size (length value))) w.step

same_over : (s : List ℕ) (p : ℕ) (t : List ℕ) (q : ℕ) → run_from s p ≡ [] → length t ≤ q → Same s p t q
unfolding pairs_of all_shortest
same_over s p t q i h =
    let e = no_items 16 true t q (item-end 16 true t q (omega arith)) in
    record { pairs = rw (e, i); short = rw e }

same_more : (s : List ℕ) (p : ℕ) (t : List ℕ) (q : ℕ) → Bytes s → (f : Field) → Here s p f → run_from s p ≡ item_of s p f ∷ run_from s (next_of p f)
    → Stands (bytes_from s p) t q
    → ((r : ℕ) → r ≡ q + (16 + (shortest_size f.value + f.value)) → Stands (bytes_from s (next_of p f)) t r → Same s (next_of p f) t r)
    → Same s p t q
unfolding in_shortest pairs_of all_shortest
same_more s p t q b f w i st ih =
    let v : ℕ = f.value in
    let sh = shortest-is v (read_is s (p + 16) f b w.field).whole in
    let key : List ℕ = take 16 (drop p s) in
    let value : List ℕ = take v (drop (p + 16 + f.size) s) in
    let n = value-length s p f w in
    let all = rw (ap (in_shortest s) i, item-is s p f w) at st in
    let one = klv_back t q key (shortest_size v) value (key-length s p f w) sh.most (rw n sh.enough) (stands_left (klv_bytes key (shortest_size v) value) (bytes_from s (next_of p f)) all) in
    let g : told (shortest_size v) (length value) ≡ told (shortest_size v) v = ap (told (shortest_size v)) n in
    let l : length (klv_bytes key (shortest_size v) value) ≡ 16 + (shortest_size v + v) = klv-length key (shortest_size v) value ∙ rw (key-length s p f w, n) in
    let r : ℕ = next_of q (told (shortest_size v) (length value)) in
    let m : r ≡ q + (16 + (shortest_size v + v)) = omega (arith, n) in
    let y : q + length (klv_bytes key (shortest_size v) value) ≡ r = omega arith in
    let rest = ih r m (rw y at (stands_right (klv_bytes key (shortest_size v) value) (bytes_from s (next_of p f)) all)) in
    let is_least : eqb (shortest_size v) (shortest_size (length value)) ≡ true = rw n (eq-eqb (shortest_size v) (shortest_size v) refl) in
    let j = next-item t q key (shortest_size v) value one in
    record {
      pairs = rw (j, i, one.key-is, one.value-is, rest.pairs);
      short = rw j (both _ _ is_least rest.short);
    }

same-within : (s : List ℕ) → Bytes s → (t : List ℕ) (k p q : ℕ) → length s - p < k → p ≤ length s → Stands (bytes_from s p) t q → q + length (bytes_from s p) ≡ length t → Same s p t q
unfolding in_shortest
same-within s b t zero p q h l st e = absurd (omega arith)
same-within s b t (suc k) p q h l st e = go (turn s p) (same-within s b t k)
  where
    go : Turn s p
        → ((m r : ℕ) → length s - m < k → m ≤ length s → Stands (bytes_from s m) t r → r + length (bytes_from s m) ≡ length t → Same s m t r)
        → Same s p t q
    go (over x i y) ih = same_over s p t q i (omega (arith, ap (λ (u : List Item). length (in_shortest s u)) i))
    go (more f w x i y) ih =
        let n = next-long f w i in
        same_more s p t q b f w i st
        (λ r g u. ih (next_of p f) r (omega (arith, w.there, w.least)) w.there u (omega arith))
      where
        next-long : (f : Field) → Here s p f → run_from s p ≡ item_of s p f ∷ run_from s (next_of p f) → length (bytes_from s p) ≡ 16 + (shortest_size f.value + f.value) + length (bytes_from s (next_of p f))
        next-long f w i =
            ap (λ (u : List Item). length (in_shortest s u)) i
            ∙ length-append (item_bytes s (item_of s p f)) (bytes_from s (next_of p f))
            ∙ rw (item-length s p f w)

-- what a rewritten run reads as
rewritten-reads : (s : List ℕ) → Bytes s → Same s 0 (rewritten s) 0
unfolding rewritten run_of
rewritten-reads s b =
    let t : List ℕ = bytes_from s 0 in
    same-within s b t (suc (length s)) 0 0 (omega arith) (omega arith) (record { there = omega arith; equal = λ i h. ap (λ (k : ℕ). get_or t k 0) (omega arith) }) (omega arith)

pub runs_in_shortest : RunsInShortest
unfolding run_of
runs_in_shortest s b =
    let w = rewritten-reads s b in
    let x = same_bytes s b in
    record { pairs = w.pairs; short = w.short; same_bytes = x.1; only_so = x.0 }
