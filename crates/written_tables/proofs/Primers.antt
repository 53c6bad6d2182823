-- A primer that was written has the same last entry for every tag. Assumes nothing.
use Prim.Native.Nat.{ℕ, zero, suc, ◌+◌, ◌-◌, ◌*◌, ◌/◌, ◌≤◌, ◌<◌}
use mathlib.Core.Path.{◌≡◌, refl, sym, ap, ◌∙◌}
use mathlib.Core.List.{List, [], ◌∷◌, ◌++◌, append_assoc}
use mathlib.Core.Bool.{Bool, true, false, ◌&&◌}
use native.Mathlib.Nat.{mod-eq_of_lt}
use native.Mathlib.Omega.{arith}
use borrow.Author.Tests.{le-leb, lt-leb, eq-eqb, ne_eqb, leb-true, eqb-true}
use lib.Dec.{leb, eqb}
use lib.ListN.{length, get_or, take, drop, length-append, length-take, length-drop}
use lib.Seq.{sets, length-sets, take-append_seam, drop-append_seam, drop-drop}
use Rattle.std.proofs.lemmas.List.{nil_from_length}
use Rattle.parts.specs.Number.{number_at}
use Rattle.written_numbers.specs.Number.{bytes_of}
use Rattle.written_numbers.proofs.Stores.{sets_append, Stands, stands_left, stands_right, stands_part}
use Rattle.written_numbers.proofs.Written.{bytes-length, stands_number}
use Rattle.primer.specs.Primer.{later, last_of, entry_of}
use Rattle.primer.proofs.Laws.{entry-of}
use Rattle.written_lengths.proofs.Both.{left, right}
use Rattle.written_tables.specs.Primer.{all_tags, good_primer, entries_bytes, primer_bytes, last_tag}
use Rattle.written_tables.specs.Back.{PrimersBack}

sixteen : (labels : List ℕ) (n : ℕ) → length labels ≡ 16 * suc n → length (take 16 labels) ≡ 16
sixteen labels n h = length-take 16 labels ∙ omega arith

pub entries-length : (tags labels : List ℕ) → length labels ≡ 16 * length tags → length (entries_bytes tags labels) ≡ 18 * length tags
unfolding entries_bytes
entries-length [] labels h = omega arith
entries-length (t ∷ more) labels h =
    let i = entries-length more (drop 16 labels) (length-drop 16 labels ∙ omega arith) in
    length-append (bytes_of 2 t) (take 16 labels ++ entries_bytes more (drop 16 labels))
    ∙ rw (length-append, bytes-length, sixteen labels (length more) h, i) (omega arith)

pub primer_length : (tags labels : List ℕ) → length labels ≡ 16 * length tags → length (primer_bytes tags labels) ≡ 8 + 18 * length tags
unfolding primer_bytes
primer_length tags labels h =
    length-append (bytes_of 4 (length tags)) (bytes_of 4 18 ++ entries_bytes tags labels)
    ∙ rw (length-append, bytes-length, bytes-length, entries-length tags labels h) (omega arith)

-- the entry of a tag stands where it should
entry_stands : (t : List ℕ) (at : ℕ) (tags labels : List ℕ) → length labels ≡ 16 * length tags → Stands (entries_bytes tags labels) t at
    → (i : ℕ) → i < length tags → Stands (bytes_of 2 (get_or tags i 0) ++ take 16 (drop (16 * i) labels)) t (at + 18 * i)
unfolding entries_bytes
entry_stands t at [] labels h w i k = absurd (omega arith)
entry_stands t at (x ∷ more) labels h w zero k =
    let z : at + 18 * 0 ≡ at = omega arith in
    rw z (stands_left (bytes_of 2 x ++ take 16 labels) (entries_bytes more (drop 16 labels)) (rw (sym (append_assoc (bytes_of 2 x) (take 16 labels) (entries_bytes more (drop 16 labels)))) at w))
entry_stands t at (x ∷ more) labels h w (suc i) k =
    let z : at + 18 * suc i ≡ at + 18 + 18 * i = omega arith in
    let y : 16 * suc i ≡ 16 + 16 * i = omega arith in
    let l = rw (bytes-length 2 x) at (stands_right (bytes_of 2 x) (take 16 labels ++ entries_bytes more (drop 16 labels)) w) in
    let m = rw (sixteen labels (length more) h) at (stands_right (take 16 labels) (entries_bytes more (drop 16 labels)) l) in
    let e : at + 2 + 16 ≡ at + 18 = omega arith in
    let r = entry_stands t (at + 18) more (drop 16 labels) (length-drop 16 labels ∙ omega arith) (rw e at m) i (omega arith) in
    rw (z, y) (rw (drop-drop (16 * i) 16 labels) at r)

-- A primer of good tags and labels
pub record Good (tags labels : List ℕ) : Type 0 where
  pub few : length tags ≤ 0xffffffff
  pub labelled : length labels ≡ 16 * length tags
  pub tags_fit : all_tags tags ≡ true

pub good_is : (tags labels : List ℕ) → good_primer tags labels ≡ true → Good tags labels
unfolding good_primer
good_is tags labels g =
    let r = right (leb (length tags) 0xffffffff) (eqb (length labels) (16 * length tags) && all_tags tags) g in
    record {
      few = leb-true (length tags) 0xffffffff (left (leb (length tags) 0xffffffff) (eqb (length labels) (16 * length tags) && all_tags tags) g);
      labelled = eqb-true (length labels) (16 * length tags) (left (eqb (length labels) (16 * length tags)) (all_tags tags) r);
      tags_fit = right (eqb (length labels) (16 * length tags)) (all_tags tags) r;
    }

tag_fits : (tags : List ℕ) → all_tags tags ≡ true → (i : ℕ) → i < length tags → get_or tags i 0 < 0x10000
tag_fits [] a i h = absurd (omega arith)
tag_fits (t ∷ more) a zero h = let z = leb-true t 0xffff (left (leb t 0xffff) (all_tags more) a) in omega arith
tag_fits (t ∷ more) a (suc i) h = tag_fits more (right (leb t 0xffff) (all_tags more) a) i (omega arith)

module _ (tags labels : List ℕ) (g : good_primer tags labels ≡ true) where
  abbrev written : List ℕ
  written = primer_bytes tags labels

  all : Stands (bytes_of 4 (length tags) ++ (bytes_of 4 18 ++ entries_bytes tags labels)) written 0
  unfolding primer_bytes
  all = record { there = omega arith; equal = λ i h. ap (λ (k : ℕ). get_or written k 0) (omega arith) }

  size : number_at written 4 4 ≡ 18
  size =
      let r = rw (bytes-length 4 (length tags)) at (stands_right (bytes_of 4 (length tags)) (bytes_of 4 18 ++ entries_bytes tags labels) all) in
      stands_number written 4 4 18 (stands_left (bytes_of 4 18) (entries_bytes tags labels) r)

  entries : Stands (entries_bytes tags labels) written 8
  entries =
      let r = rw (bytes-length 4 (length tags)) at (stands_right (bytes_of 4 (length tags)) (bytes_of 4 18 ++ entries_bytes tags labels) all) in
      rw (bytes-length 4 18) at (stands_right (bytes_of 4 18) (entries_bytes tags labels) r)

  entry : (i : ℕ) → i < length tags → Stands (bytes_of 2 (get_or tags i 0) ++ take 16 (drop (16 * i) labels)) written (8 + 18 * i)
  entry i h = entry_stands written 8 tags labels (good_is tags labels g).labelled entries i h

  tag_at : (i : ℕ) → i < length tags → number_at written (8 + 18 * i) 2 ≡ get_or tags i 0
  tag_at i h =
      stands_number written (8 + 18 * i) 2 (get_or tags i 0) (stands_left (bytes_of 2 (get_or tags i 0)) (take 16 (drop (16 * i) labels)) (entry i h))
      ∙ mod-eq_of_lt (tag_fits tags (good_is tags labels g).tags_fit i h)

  -- the label of each entry is the one that was given
  label_at : (i : ℕ) → i < length tags → take 16 (drop (8 + 18 * i + 2) written) ≡ take 16 (drop (16 * i) labels)
  label_at i h =
      let n : length (take 16 (drop (16 * i) labels)) ≡ 16 = length-take 16 (drop (16 * i) labels) ∙ rw length-drop (omega (arith, (good_is tags labels g).labelled)) in
      rw n at (stands_part (rw (bytes-length 2 (get_or tags i 0)) at (stands_right (bytes_of 2 (get_or tags i 0)) (take 16 (drop (16 * i) labels)) (entry i h))))

  last-is : (tag n : ℕ) → n ≤ length tags → last_of written tag n ≡ last_tag tags tag n
  unfolding last_of later last_tag
  last-is tag zero h = refl
  last-is tag (suc n) h = rw (tag_at n (omega arith), last-is tag n (omega arith))

  -- and every tag has the entry that it was given last
  primer_reads : (tag : ℕ) → entry_of written tag ≡ last_tag tags tag (length tags)
  primer_reads tag =
      let l = primer_length tags labels (good_is tags labels g).labelled in
      let n : (length written - 8) / 18 ≡ length tags = omega arith in
      entry-of written tag (omega arith) size ∙ rw n (last-is tag (length tags) (omega arith))

pub primers_back : PrimersBack
primers_back tags labels g = record { last = primer_reads tags labels g; label = label_at tags labels g }

-- The loop that writes the entries: what was written, and those that are left, is the whole
pub record Putting (tags labels o₀ : List ℕ) (at : ℕ) (o : List ℕ) (place : ℕ) (tags_left labels_left : List ℕ) (chunk : ℕ) : Type 0 where
  pub sixteen_each : chunk ≡ 16
  pub labelled : length labels_left ≡ 16 * length tags_left
  pub same : length o ≡ length o₀
  pub room : place + 18 * length tags_left ≡ at + 18 * length tags
  pub whole : sets o₀ at (entries_bytes tags labels) ≡ sets o place (entries_bytes tags_left labels_left)

module _ (tags labels o₀ : List ℕ) (at : ℕ) where
  pub putting_start : length labels ≡ 16 * length tags → (left labels_left : List ℕ) (chunk : ℕ) → left ≡ tags → labels_left ≡ labels → chunk ≡ 16
      → Putting tags labels o₀ at o₀ at left labels_left chunk
  putting_start h left labels_left chunk x y z = rw (x, y) (record { sixteen_each = z; labelled = h; same = refl; room = refl; whole = refl })

  module _ (o : List ℕ) (place : ℕ) (left labels_left : List ℕ) (chunk : ℕ) (c : Putting tags labels o₀ at o place left labels_left chunk) where
    pub putting_end : length left ≡ 0 → o ≡ sets o₀ at (entries_bytes tags labels)
    unfolding entries_bytes
    putting_end h = let e : left ≡ [] = nil_from_length left h in sym (c.whole ∙ rw e)

    -- there is room for the next one
    pub putting_room : (tag : ℕ) (more : List ℕ) → left ≡ tag ∷ more → at + 18 * length tags ≤ length o₀ → place + 18 ≤ length o
    putting_room tag more u h = let l : suc (length more) ≡ length left = rw u in omega (arith, c.same, c.room)

    pub putting_next : (tag : ℕ) (more label rest : List ℕ) (chunk₂ : ℕ) → left ≡ tag ∷ more → labels_left ≡ label ++ rest → length label ≡ chunk → chunk₂ ≡ chunk
        → (o₂ o₃ : List ℕ) → o₂ ≡ sets o place (bytes_of 2 tag) → o₃ ≡ sets o₂ (place + 2) label → Putting tags labels o₀ at o₃ (place + 18) more rest chunk₂
    unfolding entries_bytes
    putting_next tag more label rest chunk₂ u v w z o₂ o₃ x y =
        let key : List ℕ = bytes_of 2 tag in
        let n : length label ≡ 16 = w ∙ c.sixteen_each in
        let t : take 16 (label ++ rest) ≡ label = rw (← n) (take-append_seam label rest) in
        let d : drop 16 (label ++ rest) ≡ rest = rw (← n) (drop-append_seam label rest) in
        let a : place + length key ≡ place + 2 = omega (arith, bytes-length 2 tag) in
        let b : place + 2 + length label ≡ place + 18 = omega arith in
        let f : o₃ ≡ sets (sets o place key) (place + 2) label = y ∙ rw x in
        let l : suc (length more) ≡ length left = rw u in
        let m : length labels_left ≡ length label + length rest = rw v (length-append label rest) in
        record {
          sixteen_each = z ∙ c.sixteen_each;
          labelled = omega (arith, c.labelled);
          same = ap length f ∙ length-sets (sets o place key) (place + 2) label ∙ length-sets o place key ∙ c.same;
          room = omega (arith, c.room);
          whole =
              (rw (u, v) at c.whole) ∙ rw (t, d)
              (sets_append key (label ++ entries_bytes more rest) o place ∙ rw a (sets_append label (entries_bytes more rest) (sets o place key) (place + 2) ∙ rw (b, ← f)));
        }

-- the answers
module _ (tags labels : List ℕ) where
  pub good_many : 0xffffffff < length tags → good_primer tags labels ≡ false
  unfolding good_primer
  good_many h = rw (lt-leb (length tags) 0xffffffff h)

  module _ (h : length tags ≤ 0xffffffff) where
    pub good_labels : (length labels ≡ 16 * length tags → ⊥) → good_primer tags labels ≡ false
    unfolding good_primer
    good_labels n = rw (le-leb (length tags) 0xffffffff h, ne_eqb (length labels) (16 * length tags) n)

    pub good_by : length labels ≡ 16 * length tags → (b : Bool) → all_tags tags ≡ b → good_primer tags labels ≡ b
    unfolding good_primer
    good_by n b e = rw (le-leb (length tags) 0xffffffff h, eq-eqb (length labels) (16 * length tags) n) e

pub primer_put : (tags labels o : List ℕ) (at : ℕ) → sets (sets (sets o at (bytes_of 4 (length tags))) (at + 4) (bytes_of 4 18)) (at + 8) (entries_bytes tags labels) ≡ sets o at (primer_bytes tags labels)
unfolding primer_bytes
primer_put tags labels o at =
    let x : at + length (bytes_of 4 (length tags)) ≡ at + 4 = omega (arith, bytes-length 4 (length tags)) in
    let y : at + 4 + length (bytes_of 4 18) ≡ at + 8 = omega (arith, bytes-length 4 18) in
    sym
    (sets_append (bytes_of 4 (length tags)) (bytes_of 4 18 ++ entries_bytes tags labels) o at
    ∙ rw x (sets_append (bytes_of 4 18) (entries_bytes tags labels) (sets o at (bytes_of 4 (length tags))) (at + 4) ∙ rw y))
