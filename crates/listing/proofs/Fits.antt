-- How long a listing is: each record takes 17 bytes at least and 117 characters at most, so that of 65,536 bytes fits
-- 458,752. Assumes nothing.
use Prim.Native.Nat.{ℕ, zero, suc, ◌-◌, ◌*◌, ◌≤◌, ◌<◌}
use mathlib.Core.Path.{◌≡◌, refl, sym}
use mathlib.Core.List.{List, [], ◌∷◌, ◌++◌}
use mathlib.Core.Bool.{Bool, true, false, cond}
use native.Mathlib.Omega.{arith}
use lib.Dec.{eqb}
use lib.ListN.{length, take, drop, length-append, length-take}
use Rattle.steps.specs.Told.{ToldAt, found, nothing, refused}
use Rattle.steps.specs.Next.{Cursor}
use Rattle.steps.specs.Passed.{Passed}
use Rattle.labels.specs.Label.{label_at}
use Rattle.klv.specs.Item.{Item}
use Rattle.walk.specs.Walk.{finished_step}
use Rattle.walk.specs.Passed.{finished_passing}
use Rattle.walk.proofs.Answers.{not-refused, passing-found, passing_never}
use Rattle.records.specs.Records.{finished}
use Rattle.records.specs.Passed.{at_first, finished_passed}
use Rattle.records.proofs.Passed.{finished-passing}
use Rattle.tally.specs.Groups.{same, others, grouped, places, groups_of}
use Rattle.tally.proofs.Steps.{Next, next}
use Rattle.text.specs.Write.{decimal_of, hex_of, Put}
use Rattle.text.proofs.Sizes.{length-decimal, length_hex, put_whole}
use Rattle.klv_text.specs.Text.{record_text}
use Rattle.tally_text.specs.Groups.{group_text, each_group, groups_text}
use Rattle.listing.specs.Listing.{record_line, record_lines, count_line, other_line, tally_lines, listing_of, printed}

label-length : (s : List ℕ) (p : ℕ) → length (hex_of (label_at s p)) ≤ 32
label-length s p = omega (arith, length_hex (label_at s p), length-take 16 (drop p s))

record_length : (s : List ℕ) (p : ℕ) (c : Passed Item) (q : ℕ) → Next s p c.it q → length (record_line c) ≤ 117
unfolding record_text
record_length s p c q x =
    rw x.label
    (simp length-append
    (omega (arith, length-decimal c.it.klv.at, label-length s c.it.klv.at, length-decimal c.it.klv.value, length-decimal c.it.klv.len, length-decimal c.passed)))

records-length : (s : List ℕ) (n : ℕ) (k : Cursor ℕ) → length s - k.at < n → 17 * length (record_lines (finished_passed s (length s) k)) ≤ 117 * (length s - k.at)
unfolding record_lines
records-length s zero k h = absurd (omega arith)
records-length s (suc n) k h = by_step (finished_passing s (length s) k) refl (records-length s n)
  where
    by_step : (t : ToldAt (Cursor ℕ) (Passed Item)) → finished_passing s (length s) k ≡ t
        → ((q : Cursor ℕ) → length s - q.at < n → 17 * length (record_lines (finished_passed s (length s) q)) ≤ 117 * (length s - q.at))
        → 17 * length (record_lines (finished_passed s (length s) k)) ≤ 117 * (length s - k.at)
    by_step (found c q) t more =
        let x = next s k.at c.it q.at (passing-found k (finished_step s (length s) k.at) c q (sym t)).plain in
        rw ((finished-passing s (length s) (omega arith)).next k c q t)
        (rw (length-append (record_line c) (record_lines (finished_passed s (length s) q)))
        (omega (arith, record_length s k.at c q.at x, x.from, x.past, x.within, more q (omega (arith, x.from, x.past, x.within)))))
    by_step (nothing q) t more = rw ((finished-passing s (length s) (omega arith)).over k q t) (omega arith)
    by_step (refused m q) t more = absurd (passing_never k (finished_step s (length s) k.at) (not-refused s (length s) k.at (omega arith)) m q (sym t))

groups-length : (s f c : List ℕ) → length (each_group (group_text (108 ∷ 97 ∷ 98 ∷ 101 ∷ 108 ∷ 32 ∷ []) 32 10 s) f c) ≤ 60 * length f
unfolding each_group group_text
groups-length s [] c = omega arith
groups-length s (p ∷ f) [] = omega arith
groups-length s (p ∷ f) (n ∷ c) = simp length-append (omega (arith, label-length s p, length-decimal n, groups-length s f c))

grouped-few : (s : List ℕ) (n : ℕ) (l : List ℕ) → length (grouped s n l).firsts ≤ n
unfolding grouped
grouped-few s zero l = omega arith
grouped-few s (suc n) [] = omega arith
grouped-few s (suc n) (p ∷ l) = omega (arith, grouped-few s n (others (same s p) l))

few : (s : List ℕ) → length (groups_of s).firsts ≤ 64
unfolding groups_of
few s = grouped-few s 64 (places (finished s))

other_length : (n : ℕ) → length (other_line n) ≤ 27
unfolding other_line
other_length n = by_test (eqb n 0)
  where
    by_test : (b : Bool) → length (cond b [] ((111 ∷ 116 ∷ 104 ∷ 101 ∷ 114 ∷ 32 ∷ []) ++ decimal_of n ++ (10 ∷ []))) ≤ 27
    by_test true = omega arith
    by_test false = simp length-append (omega (arith, length-decimal n))

pub fits : (s : List ℕ) → length s ≤ 65536 → length (listing_of s) ≤ 458752
unfolding listing_of count_line tally_lines groups_text
fits s h =
    let g = groups_of s in
    simp length-append
    (omega (
      arith,
      records-length s (suc (length s)) at_first (omega arith),
      length-decimal (length (finished s)),
      groups-length s g.firsts g.counts,
      few s,
      other_length g.other,
    ))

-- so where there is that much room, what is printed stands there whole
pub whole : (s : List ℕ) (more : Bool) {o₀ o : List ℕ} {r : ℕ} → length s ≤ 65536 → 458752 ≤ length o₀ → Put (printed s more) o₀ 0 o r → take r o ≡ printed s more
unfolding printed
whole s true {o₀} h m p = (put_whole p (omega arith)).1
whole s false {o₀} h m p = (put_whole p (omega (arith, fits s h))).1
