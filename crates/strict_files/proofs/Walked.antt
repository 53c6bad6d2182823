-- Records that follow each other are the walk's, with no byte passed before any; and where the walk passes none, they follow. Assumes nothing.
use Prim.Native.Nat.{ℕ, zero, suc, ◌+◌, ◌-◌, ◌<◌}
use mathlib.Core.Path.{◌≡◌, refl}
use mathlib.Core.List.{List, [], ◌∷◌}
use native.Mathlib.Omega.{arith}
use Rattle.steps.specs.Tells.{saying, told_from}
use Rattle.klv.specs.declared.Klv.{Klv}
use Rattle.klv.specs.Item.{item, klv, past}
use Rattle.walk.specs.declared.Turn.{Turn}
use Rattle.walk.specs.declared.Turn.TheVariants.{Stop, Search, Record}
use Rattle.walk.specs.declared.Walked.{Walked}
use Rattle.walk.specs.declared.Walked.TheVariants.{Found, Stopped, Lost}
use Rattle.walk.specs.Rules.{rules}
use Rattle.walk.specs.Walk.{walked, finished_after, finished_by, stepped}
use Rattle.walk.proofs.Laws.{rule_record, Rule, at-end, no_key, cut_off, no_length, whole, waits, late, rule}
use Rattle.walk.proofs.Walking.{walk-fits}
use Rattle.records.specs.Records.{finished_from}
use Rattle.records.specs.Passed.{counting, last_end}
use Rattle.records.proofs.Lists as lists
use Rattle.records.proofs.Lists.{finished-says}
use Rattle.records.proofs.Stepping.{stepped_on}
use Rattle.strict_files.specs.Files.{Follow, none, more, NonePassed}
use Rattle.strict_files.proofs.Following.{record_up, follow_up}

module _ (s : List ℕ) (e : ℕ) where
  -- the finished list by the rules at a place, and by where its turns lead
  module _ (p : ℕ) where
    stops : rules 0 s e p ≡ Stop → finished_from s e p ≡ []
    unfolding finished_by
    stops = lists.list_stop stepped stepped_on 0 s e (finished_after stepped s e) (finished-says stepped s e) p

    moves_on : (q : ℕ) → rules 0 s e p ≡ Search q → finished_from s e p ≡ finished_from s e q
    unfolding finished_by
    moves_on = lists.list_search stepped stepped_on 0 s e (finished_after stepped s e) (finished-says stepped s e) p

    lists_one : (k : Klv) → rules 0 s e p ≡ Record k → finished_from s e p ≡ item 16 s k ∷ finished_from s e (past k)
    unfolding finished_by
    lists_one = lists.list_record stepped stepped_on 0 s e (finished_after stepped s e) (finished-says stepped s e) p

    found-one : (k : Klv) → walked 0 s e p ≡ Found k → finished_from s e p ≡ item 16 s k ∷ finished_from s e (past k)
    unfolding finished_by
    found-one = lists.list-walked stepped stepped_on 0 s e (finished_after stepped s e) (finished-says stepped s e) p

    stopped : (q : ℕ) → walked 0 s e p ≡ Stopped q → finished_from s e p ≡ []
    unfolding finished_by
    stopped = lists.list_stopped stepped stepped_on 0 s e (finished_after stepped s e) (finished-says stepped s e) p

    lost : (q : ℕ) → walked 0 s e p ≡ Lost q → finished_from s e p ≡ []
    unfolding finished_by
    lost = lists.list_lost stepped stepped_on 0 s e (finished_after stepped s e) (finished-says stepped s e) p

    short : e - p < 17 → finished_from s e p ≡ []
    unfolding finished_by
    short = lists.list-short stepped stepped_on 0 s e (finished_after stepped s e) (finished-says stepped s e) p

  -- of the list from p on, walking having last gone on at g: no byte is passed, and it ends at the end
  abbrev NoneFrom : ℕ → ℕ → Type 0
  NoneFrom g p = NonePassed s (told_from counting g (finished_from s e p)) × (last_end g (finished_from s e p) ≡ e)

  pub follow_counted : (p : ℕ) → Follow s e p e → NoneFrom p p
  unfolding told_from saying NonePassed last_end
  follow_counted p none = rw (short p (omega arith)) (tt, refl)
  follow_counted p (more {q = q} r f) =
      let u = record_up s e p q r in
      let one = lists_one p (klv 16 p r.field) (rule_record 0 s e p (omega arith) r.key r.field r.long (omega (arith, r.ends, r.within))) in
      let i : NoneFrom (past (klv 16 p r.field)) (past (klv 16 p r.field)) = rw r.ends (follow_counted q f) in
      rw one ((omega arith, r.plain, i.0), i.1)

  -- the list from a place behind p starts behind p: bytes are passed
  not_behind : (p q : ℕ) → p < q → p < e → NoneFrom p q → ⊥
  unfolding told_from saying NonePassed last_end
  not_behind p q h l n = go (walked 0 s e q) refl
    where
      go : (w : Walked) → walked 0 s e q ≡ w → ⊥
      go (Found k) w = let f = walk-fits 0 s e q k w in let j = rw (found-one q k w) at n.0 in omega (arith, f.0, j.0)
      go (Stopped r) w = let j = rw (stopped q r w) at n.1 in omega arith
      go (Lost r) w = let j = rw (lost q r w) at n.1 in omega arith

  counted-within : (fuel p : ℕ) → e - p < fuel → NoneFrom p p → Follow s e p e
  unfolding told_from saying NonePassed last_end
  counted-within zero p h n = absurd (omega arith)
  counted-within (suc fuel) p h n = go (rules 0 s e p) (rule 0 s e p) refl (counted-within fuel)
    where
      at_the_end : rules 0 s e p ≡ Stop → Follow s e p e
      at_the_end t = let z : p ≡ e = rw (stops p t) at n.1 in rw z none

      behind : (q : ℕ) → p < q → p < e → rules 0 s e p ≡ Search q → Follow s e p e
      behind q l m t = absurd (not_behind p q l m (rw (moves_on p q t) at n))

      go : (t : Turn) → Rule 0 s e p t → rules 0 s e p ≡ t → ((m : ℕ) → e - m < fuel → NoneFrom m m → Follow s e m e) → Follow s e p e
      go t (at-end l) x ih = at_the_end x
      go t (no_key l k) x ih = behind (p + 1) (omega arith) (omega arith) x
      go t (cut_off l k c) x ih = at_the_end x
      go t (no_length l k m) x ih = behind (p + 17) (omega arith) (omega arith) x
      go t (whole l k f c m) x ih =
          let j = rw (lists_one p (klv 16 p f) x) at n in
          let i = ih (past (klv 16 p f)) (omega arith) (j.0.2, j.1) in
          more (record { key = k; field = f; long = c; plain = j.0.1; ends = refl; within = follow_up s e (past (klv 16 p f)) e i }) i
      go t (waits l k f c m w) x ih = absurd (omega arith)
      go t (late l k f c m w) x ih = behind (p + 16 + f.size) (omega arith) (omega arith) x

  pub counted_follow : (p : ℕ) → NoneFrom p p → Follow s e p e
  counted_follow p = counted-within (suc (e - p)) p (omega arith)
