-- Laws of the tally: what a call that adds a record leaves, and a loop of them. Assumes nothing.
use Prim.Native.Nat.{ℕ, zero, suc, ◌+◌, ◌-◌, ◌≤◌, ◌<◌, min}
use mathlib.Core.Path.{◌≡◌, refl, sym, ap, ◌∙◌}
use mathlib.Core.List.{List, []}
use mathlib.Core.Bool.{Bool}
use mathlib.Core.Logic.{by_cases}
use native.Mathlib.Numerals.{add-one}
use native.Mathlib.Omega.{arith}
use native.Mathlib.Decide.{dec_lt}
use borrow.Author.Tests.{le-ltb, lt-ltb}
use lib.ListN.{length, get_or, take, drop, set, take-append-drop}
use lib.Seq.{drop-drop, length-take-le, get_or-take, take-set-lt, drop-set-lt, take-suc-set, get_or-set_same, get_or-set_other}
use Rattle.search.specs.Search.{first, first_below}
use Rattle.steps.specs.Told.{found}
use Rattle.klv.specs.Item.{Item}
use Rattle.walk.specs.Walk.{finished_step}
use Rattle.records.specs.Records.{finished_from}
use Rattle.records.proofs.Stepping.{finished_steps}
use Rattle.tally.specs.declared.Tally.{Tally}
use Rattle.tally.specs.Groups.{Groups, same, groups_of, answer_of, front}
use Rattle.tally.specs.Adding.{group_of, group_at, add_to, view, Below, Kept, Added}
use Rattle.tally.proofs.Grouped.{tally_from, tally_of, tally_grouped}
use Rattle.tally.proofs.Steps.{Next}

-- tests that agree find the same place
pub first_cong : (t u : ℕ → Bool) (n q : ℕ) → ((k : ℕ) → k < q + n → t k ≡ u k) → first t n q ≡ first u n q
unfolding first
first_cong t u zero q h = refl
first_cong t u (suc n) q h = rw (h q (omega arith), first_cong t u n (suc q) (λ k m. h k (omega arith)))

-- the groups that stand in a list are those of its beginning
pub group-view : (s f : List ℕ) (g p : ℕ) → group_of s (take g f) g p ≡ group_of s f g p
unfolding first_below
group-view s f g p =
    first_cong (λ j. same s (get_or (take g f) j 0) p) (λ j. same s (get_or f j 0) p) (g - 0) 0
    (λ k m. ap (λ (x : ℕ). same s x p) (get_or-take g f k 0 (omega arith)))

-- the group that is answered
module _ (s f : List ℕ) (groups p j : ℕ) (e : j ≡ group_of s f (min (min groups 64) (length f)) p) where
  pub group-is : j < min (min groups 64) (length f) → j ≡ group_at s f groups p
  unfolding group_at
  group-is h = rw (← e, lt-ltb _ _ h)

  pub group-none : min (min groups 64) (length f) ≤ j → 4095 ≡ group_at s f groups p
  unfolding group_at
  group-none h = rw (← e, le-ltb _ _ h)

module _ (s f c : List ℕ) (t : Tally) (p : ℕ) (hf : t.groups ≤ length f) (hc : t.groups ≤ length c) where
  group-here : group_of s (take t.groups f) (length (take t.groups f)) p ≡ group_of s f t.groups p
  group-here = rw (length-take-le t.groups f hf, group-view s f t.groups p)

  pub add_more : group_of s f t.groups p < t.groups
      → view t f (set c (group_of s f t.groups p) (get_or c (group_of s f t.groups p) 0 + 1)) ≡ add_to s (view t f c) p
  unfolding add_to
  add_more h = rw (group-here, length-take-le t.groups f hf, lt-ltb _ _ h, take-set-lt t.groups c _ _ h, get_or-take t.groups c _ 0 h)

  module _ (h : t.groups ≤ group_of s f t.groups p) where
    pub add_open : t.groups < 64 → t.groups < length f → t.groups < length c → (u : Tally) → u ≡ record { groups = t.groups + 1; other = t.other }
        → view u (set f t.groups p) (set c t.groups 1) ≡ add_to s (view t f c) p
    unfolding add_to
    add_open m lf lc u e =
        rw (e, group-here, length-take-le t.groups f hf, le-ltb _ _ h, lt-ltb _ _ m, add-one, take-suc-set f t.groups p lf, take-suc-set c t.groups 1 lc)

    pub add_other : 64 ≤ t.groups → view (record { groups = t.groups; other = t.other + 1 }) f c ≡ add_to s (view t f c) p
    unfolding add_to
    add_other m = rw (group-here, length-take-le t.groups f hf, le-ltb _ _ h, le-ltb _ _ m)

-- Counts stay below the places

pub below_more : (p : ℕ) (t : Tally) (c : List ℕ) (j : ℕ) → t.groups ≤ length c → j < t.groups → Below p t c → Below (p + 1) t (set c j (get_or c j 0 + 1))
below_more p t c j l h b = record { each = go; rest = omega (arith, b.rest) }
  where
    go : (k : ℕ) → k < t.groups → get_or (set c j (get_or c j 0 + 1)) k 0 ≤ p + 1
    go k m =
        by_cases (dec_lt k j) (λ x. rw (get_or-set_other c j k (get_or c j 0 + 1) 0 (λ e. omega arith)) (omega (arith, b.each k m)))
        (λ x. by_cases (dec_lt j k) (λ y. rw (get_or-set_other c j k (get_or c j 0 + 1) 0 (λ e. omega arith)) (omega (arith, b.each k m)))
        (λ y. let e : k ≡ j = omega arith in rw (e, get_or-set_same c j (get_or c j 0 + 1) 0 (omega arith)) (omega (arith, b.each j h))))

pub below_open : (p : ℕ) (t : Tally) (c : List ℕ) → t.groups < length c → Below p t c → Below (p + 1) (record { groups = t.groups + 1; other = t.other }) (set c t.groups 1)
below_open p t c l b = record { each = go; rest = omega (arith, b.rest) }
  where
    go : (k : ℕ) → k < t.groups + 1 → get_or (set c t.groups 1) k 0 ≤ p + 1
    go k m =
        by_cases (dec_lt k t.groups) (λ x. rw (get_or-set_other c t.groups k 1 0 (λ e. omega arith)) (omega (arith, b.each k x)))
        (λ x. let e : k ≡ t.groups = omega arith in rw (e, get_or-set_same c t.groups 1 0 l) (omega arith))

pub below_other : (p : ℕ) (t : Tally) (c : List ℕ) → Below p t c → Below (p + 1) (record { groups = t.groups; other = t.other + 1 }) c
below_other p t c b = record { each = λ k m. omega (arith, b.each k m); rest = omega (arith, b.rest) }

pub below_up : (p q : ℕ) (t : Tally) (c : List ℕ) → p ≤ q → Below p t c → Below q t c
below_up p q t c h b = record { each = λ k m. omega (arith, b.each k m); rest = omega (arith, b.rest) }

-- What a call of `add` leaves

module _ (s f c : List ℕ) (t : Tally) (p : ℕ) (room : t.groups ≤ 64) (hf : 64 ≤ length f) (hc : 64 ≤ length c) (b : Below p t c) where
  pub added_more : (j : ℕ) → j ≡ group_of s f t.groups p → j < t.groups
      → Added s p t f c (record { groups = t.groups; other = t.other }) f (set c j (get_or c j 0 + 1))
  added_more j e h =
      record {
        groups = rw e (add_more s f c t p (omega arith) (omega arith) (omega arith));
        kept = record { room = room; firsts = refl; counts = drop-set-lt t.groups c j (get_or c j 0 + 1) h };
        up = omega arith;
        below = below_more p t c j (omega arith) h b;
      }

  module _ (h : t.groups ≤ group_of s f t.groups p) where
    pub added_open : t.groups < 64 → Added s p t f c (record { groups = t.groups + 1; other = t.other }) (set f t.groups p) (set c t.groups 1)
    added_open m =
        record {
          groups = add_open s f c t p (omega arith) (omega arith) h m (omega arith) (omega arith) (record { groups = t.groups + 1; other = t.other }) refl;
          kept = record {
            room = omega arith;
            firsts = drop-set-lt (t.groups + 1) f t.groups p (omega arith);
            counts = drop-set-lt (t.groups + 1) c t.groups 1 (omega arith);
          };
          up = omega arith;
          below = below_open p t c (omega arith) b;
        }

    pub added-other : 64 ≤ t.groups → Added s p t f c (record { groups = t.groups; other = t.other + 1 }) f c
    added-other m =
        record {
          groups = add_other s f c t p (omega arith) (omega arith) h m;
          kept = record { room = room; firsts = refl; counts = refl };
          up = omega arith;
          below = below_other p t c b;
        }

-- The loop

drop-later : (n m : ℕ) (f g : List ℕ) → n ≤ m → drop n f ≡ drop n g → drop m f ≡ drop m g
drop-later n m f g h e =
    let z : m ≡ n + (m - n) = omega arith in
    rw z (sym (drop-drop (m - n) n f) ∙ ap (drop (m - n)) e ∙ drop-drop (m - n) n g)

pub record Going (s f₀ c₀ f c : List ℕ) (t : Tally) (at : ℕ) : Type 0 where
  pub groups : tally_from s (view t f c) (finished_from s (length s) at) ≡ tally_of s
  pub kept : Kept t f₀ c₀ f c
  pub below : Below at t c
  pub len_f : length f ≡ length f₀
  pub len_c : length c ≡ length c₀

pub going_start : (s f c : List ℕ) → Going s f c f c (record { groups = 0; other = 0 }) 0
going_start s f c =
    record {
      groups = refl;
      kept = record { room = omega arith; firsts = refl; counts = refl };
      below = record { each = λ j m. omega arith; rest = omega arith };
      len_f = refl;
      len_c = refl;
    }

tally_next : (s : List ℕ) (g : Groups) (at : ℕ) (i : Item) (q : ℕ) → found i q ≡ finished_step s (length s) at
    → tally_from s (add_to s g i.klv.at) (finished_from s (length s) q) ≡ tally_from s g (finished_from s (length s) at)
unfolding tally_from
tally_next s g at i q e = rw ((finished_steps s (length s) (omega arith)).next at i q (sym e))

pub going_next : {s f₀ c₀ f c : List ℕ} {t : Tally} {at : ℕ} → Going s f₀ c₀ f c t at → (i : Item) (q : ℕ) → found i q ≡ finished_step s (length s) at → Next s at i q
    → {u : Tally} {f₁ c₁ : List ℕ} → Added s i.klv.at t f c u f₁ c₁ → length f₁ ≡ length f → length c₁ ≡ length c → Going s f₀ c₀ f₁ c₁ u q
going_next {s} {f₀} {c₀} {f} {c} {t} {at} g i q e x {u} {f₁} {c₁} a lf lc =
    record {
      groups = rw a.groups (tally_next s (view t f c) at i q e ∙ g.groups);
      kept = record {
        room = a.kept.room;
        firsts = a.kept.firsts ∙ drop-later t.groups u.groups f f₀ a.up g.kept.firsts;
        counts = a.kept.counts ∙ drop-later t.groups u.groups c c₀ a.up g.kept.counts;
      };
      below = below_up (i.klv.at + 1) q u c₁ (omega (arith, x.past)) a.below;
      len_f = lf ∙ g.len_f;
      len_c = lc ∙ g.len_c;
    }

-- the end: what stands in the lent lists is the groups, in front of what was there

lent : (n : ℕ) (f f₀ : List ℕ) → n ≤ length f → drop n f ≡ drop n f₀ → f ≡ front (take n f) f₀
unfolding front
lent n f f₀ h e = rw (length-take-le n f h, ← e) (sym (take-append-drop n f))

pub going_over : {s f₀ c₀ f c : List ℕ} {t : Tally} {at : ℕ} → Going s f₀ c₀ f c t at → 64 ≤ length f₀ → 64 ≤ length c₀ → finished_from s (length s) at ≡ []
    → (t ≡ answer_of (groups_of s)) × ((f ≡ front (groups_of s).firsts f₀) × (c ≡ front (groups_of s).counts c₀))
unfolding tally_from
going_over {s} {f₀} {c₀} {f} {c} {t} {at} g hf hc e =
    let w : view t f c ≡ groups_of s = (rw e at g.groups) ∙ tally_grouped s in
    let k = g.kept in
    let l : length (take t.groups f) ≡ t.groups = length-take-le t.groups f (omega (arith, g.len_f, k.room)) in (
      rw (← w, l),
      (
        rw (← w) (lent t.groups f f₀ (omega (arith, g.len_f, k.room)) k.firsts),
        rw (← w) (lent t.groups c c₀ (omega (arith, g.len_c, k.room)) k.counts),
      ),
    )
