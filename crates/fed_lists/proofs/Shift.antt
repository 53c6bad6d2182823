-- The finished list from a place on is that of the bytes from there on, moved by the place. Assumes nothing.
use Prim.Native.Nat.{ℕ, zero, suc, ◌+◌, ◌-◌, ◌≤◌, ◌<◌}
use mathlib.Core.Path.{◌≡◌, refl, sym, ap, ap₂, ◌∙◌}
use mathlib.Core.List.{List, ◌∷◌, map}
use native.Mathlib.Omega.{arith}
use lib.ListN.{length, take, drop, length-drop}
use lib.Seq.{drop-drop}
use Rattle.lengths.specs.declared.Field.{Field}
use Rattle.lengths.specs.Length.{length_at}
use Rattle.lengths.proofs.Laws.{taken}
use Rattle.klv.specs.declared.Klv.{Klv}
use Rattle.klv.specs.Item.{klv, Item, item}
use Rattle.walk.specs.declared.Turn.{Turn}
use Rattle.walk.specs.declared.Turn.TheVariants.{Stop, Search, Record}
use Rattle.walk.specs.Rules.{rules}
use Rattle.walk.proofs.Laws.{rules_moves, rules_record, rule_end, rule_no_key, rule_cut, rule_none, rule_record, rule_late, Rule, at-end, no_key, cut_off, no_length, whole, waits, late, rule}
use Rattle.records.specs.Records.{finished_list_by}
use Rattle.records.proofs.Lists.{Onward}
use Rattle.certain.proofs.Held.{fin_stop, fin_search, fin_record}
use Rattle.fed_bytes.proofs.Moved.{key_moved, length_moved}
use Rattle.fed_lists.specs.Run.{moved_klv, moved_item}

-- `next` is where walking goes on after a record: from one further on, further on

module _ (next : Item → ℕ) (on : Onward next) (moves : (v : ℕ) (i : Item) → next (moved_item v i) ≡ v + next i) (v : ℕ) (s : List ℕ) where
  abbrev d : List ℕ
  d = drop v s

  len_d : length d ≡ length s - v
  len_d = length-drop v s

  -- the rules, at the moved place
  data Moved : Turn → Turn → Type 0 where
    m_stop : Moved Stop Stop
    m_search : (p q : ℕ) → q ≡ v + p → Moved (Search p) (Search q)
    m_record : (k : Klv) (l : Klv) → l ≡ moved_klv v k → Moved (Record k) (Record l)

  rules_d : (p : ℕ) → Moved (rules 0 d (length d) p) (rules 0 s (length s) (v + p))
  rules_d p = go (rules 0 s (length s) (v + p)) (rule 0 s (length s) (v + p))
    where
      at16 : length_at d (p + 16) ≡ length_at s (v + p + 16)
      at16 = let a : v + (p + 16) ≡ v + p + 16 = omega arith in length_moved v s (p + 16) ∙ ap (length_at s) a

      room : 17 ≤ length s - (v + p) → 17 ≤ length d - p
      room h = rw len_d (omega arith)

      klvs : (f : Field) → klv 16 (v + p) f ≡ moved_klv v (klv 16 p f)
      klvs f = let a : v + p + 16 + f.size ≡ v + (p + 16 + f.size) = omega arith in rw a

      go : (t : Turn) → Rule 0 s (length s) (v + p) t → Moved (rules 0 d (length d) p) t
      go t (at-end h) = rw (rule_end 0 d (length d) p (rw len_d (omega arith))) m_stop
      go t (no_key h k) = rw (rule_no_key 0 d (length d) p (room h) (key_moved v s p ∙ k)) (m_search (p + 1) (v + p + 1) (omega arith))
      go t (cut_off h k l) = rw (rule_cut 0 d (length d) p (room h) (key_moved v s p ∙ k) (at16 ∙ l)) m_stop
      go t (no_length h k l) = rw (rule_none 0 d (length d) p (room h) (key_moved v s p ∙ k) (at16 ∙ l)) (m_search (p + 17) (v + p + 17) (omega arith))
      go t (whole h k f l m) =
          rw (rule_record 0 d (length d) p (room h) (key_moved v s p ∙ k) f (at16 ∙ l) (rw len_d (omega arith))) (m_record (klv 16 p f) (klv 16 (v + p) f) (klvs f))
      go t (waits h k f l m w) = absurd (omega (arith, taken s (v + p + 16) f l))
      go t (late h k f l m w) =
          rw (rule_late 0 d (length d) p (room h) (key_moved v s p ∙ k) f (at16 ∙ l) (rw len_d (omega arith)) (omega (arith, taken s (v + p + 16) f l)))
          (m_search (p + 16 + f.size) (v + p + 16 + f.size) (omega arith))

  item_d : (k : Klv) → item 16 s (moved_klv v k) ≡ moved_item v (item 16 d k)
  item_d k = ap (λ (l : List ℕ). let i : Item = record { klv = moved_klv v k; key = l } in i) (ap (take 16) (sym (drop-drop k.at v s)))

  fin_d : (k p : ℕ) → length s - (v + p) < k → finished_list_by next s (length s) (v + p) ≡ map (moved_item v) (finished_list_by next d (length d) p)
  fin_d zero p h = absurd (omega arith)
  fin_d (suc k) p h = go (rules 0 d (length d) p) (rules 0 s (length s) (v + p)) (rules_d p) refl refl (fin_d k)
    where
      Ih : Type 0
      Ih = (q : ℕ) → length s - (v + q) < k → finished_list_by next s (length s) (v + q) ≡ map (moved_item v) (finished_list_by next d (length d) q)

      go : (t u : Turn) → Moved t u → rules 0 d (length d) p ≡ t → rules 0 s (length s) (v + p) ≡ u → Ih
          → finished_list_by next s (length s) (v + p) ≡ map (moved_item v) (finished_list_by next d (length d) p)
      go t u m_stop e f ih = fin_stop next on s (v + p) f ∙ ap (map (moved_item v)) (sym (fin_stop next on d p e))
      go t u (m_search r q z) e f ih =
          fin_search next on s (v + p) q f ∙ ap (finished_list_by next s (length s)) z
          ∙ ih r (omega (arith, rules_moves 0 s (length s) (v + p) q f)) ∙ ap (map (moved_item v)) (sym (fin_search next on d p r e))
      go t u (m_record r l z) e f ih =
          fin_record next on s (v + p) l f
          ∙ ap₂ (λ (i : Item) (n : List Item). i ∷ n) same
          (ap (finished_list_by next s (length s)) (ap next same ∙ moves v (item 16 d r)) ∙ ih (next (item 16 d r)) (omega (arith, later)))
          ∙ ap (map (moved_item v)) (sym (fin_record next on d p r e))
        where
          same : item 16 s l ≡ moved_item v (item 16 d r)
          same = ap (item 16 s) z ∙ item_d r

          -- it goes on behind the place of the key
          later : (v + p < v + next (item 16 d r)) × (v + p < length s)
          later =
              let g = rules_record 0 s (length s) (v + p) l f in
              let y : l.value ≡ v + r.value = ap (λ (k : Klv). k.value) z in
              omega (arith, on (item 16 d r))

  pub from-there : finished_list_by next s (length s) v ≡ map (moved_item v) (finished_list_by next d (length d) 0)
  from-there = let z : v + 0 ≡ v = omega arith in rw z at (fin_d (suc (length s - (v + 0))) 0 (omega arith))
