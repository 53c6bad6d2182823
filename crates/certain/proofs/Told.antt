-- Demand 3, and what follows from it, of whatever is told of a walk's records. Assumes nothing.
use Prim.Native.Nat.{ℕ, ◌+◌, ◌-◌}
use mathlib.Core.Path.{◌≡◌, sym, ap, ◌∙◌}
use mathlib.Core.List.{List, [], ◌++◌, append-nil, append_assoc}
use native.Mathlib.Omega.{arith}
use native.Mathlib.Nat.{le_refl}
use native.Mathlib.Decide.{dec_lt}
use mathlib.Core.Logic.{by_cases}
use lib.ListN.{length, length-append, get_or-append, get_or-eq_default}
use Rattle.parts.specs.Bytes.{Bytes}
use Rattle.steps.specs.Tells.{Said, told_from}
use Rattle.steps.proofs.Tells.{told-append}
use Rattle.klv.specs.Item.{Item}
use Rattle.walk.specs.declared.Turn.{Turn}
use Rattle.walk.specs.declared.Turn.TheVariants.{Stop}
use Rattle.walk.specs.Rules.{rules}
use Rattle.walk.proofs.Laws.{rule_end, rule_cut, Rule, at-end, no_key, cut_off, no_length, whole, waits, late, rule}
use Rattle.records.specs.Records.{finished_list_by, arriving_list_by, finished_told, arriving_told, waits_told}
use Rattle.records.proofs.Lists.{Onward}
use Rattle.certain.specs.Certain.{File, Certain, CertainLists}
use Rattle.certain.proofs.Held.{fin_stop, held}
use Rattle.certain.proofs.Longest.{Teller, longest-told}
use Rattle.certain.proofs.GoingOn.{goes_on_by}

-- a file that starts with more bytes starts with the first of them
fewer : (limit : ℕ) (a x f : List ℕ) → File limit (a ++ x) f → File limit a f
fewer limit a x f file =
    record { rest = x ++ file.rest; starts = file.starts ∙ append_assoc a x file.rest; bytes = file.bytes; within = file.within }

first-bytes : (a x : List ℕ) → Bytes (a ++ x) → Bytes a
first-bytes a x b i =
    by_cases (dec_lt i (length a))
    (λ h. rw (get_or-append a x 0 i h) at (b i))
    (λ h. rw (get_or-eq_default a 0 {n = i} (omega arith)) (omega arith))

module _ (next : Item → ℕ) (on : Onward next) (a : List ℕ) where
  -- a value that is waited for would have to end within what has arrived, where it would be whole
  none_waited : (w : ℕ) → rules (length a) a (length a) w ≡ Stop → finished_list_by next a (length a) w ≡ []
  none_waited w t = go (rules (length a) a (length a) w) (rule (length a) a (length a) w) t
    where
      go : (u : Turn) → Rule (length a) a (length a) w u → u ≡ Stop → finished_list_by next a (length a) w ≡ []
      go u (at-end h) e = fin_stop next on a w (rule_end 0 a (length a) w h)
      go u (no_key h k) e = absurd (let z : ◌≡◌ {A = ℕ} 0 1 = cc in omega arith)
      go u (cut_off h k l) e = fin_stop next on a w (rule_cut 0 a (length a) w h k l)
      go u (no_length h k l) e = absurd (let z : ◌≡◌ {A = ℕ} 0 1 = cc in omega arith)
      go u (whole h k f l m) e = absurd (let z : ◌≡◌ {A = ℕ} 0 1 = cc in omega arith)
      go u (waits h k f l m n) e = absurd (omega arith)
      go u (late h k f l m n) e = absurd (let z : ◌≡◌ {A = ℕ} 0 1 = cc in omega arith)

  nothing-more_by : (p : ℕ) → arriving_list_by next (length a) a p ≡ finished_list_by next a (length a) p
  nothing-more_by p =
      let i = held next on (length a) a p in
      let whole = rw append-nil at (i.rest [] (rw append-nil (le_refl (length a)))) in
      rw append-nil at (rw (none_waited i.w i.waits) at whole)

-- the same from cursors that count as others, if one where the walk waits counts as itself
pub counting_as : {A C : Type 0} {listed : List ℕ → ℕ → C → List A} {arrived : ℕ → List ℕ → C → List A} {waits : ℕ → List ℕ → C → C} (like : C → C)
    → ((limit : ℕ) (a : List ℕ) (k : C) → like (waits limit a (like k)) ≡ waits limit a (like k)) → CertainLists listed arrived waits
    → CertainLists (λ f e k. listed f e (like k)) (λ limit a k. arrived limit a (like k)) (λ limit a k. waits limit a (like k))
counting_as {arrived = arrived} like itself c =
    record {
      certain = λ limit a k. c.certain limit a (like k);
      never_unsaid = λ limit a x k. c.never_unsaid limit a x (like k);
      goes_on = λ limit a x k fits. ap (λ (j : _). arrived limit a (like k) ++ arrived limit (a ++ x) j) (itself limit a k) ∙ c.goes_on limit a x (like k) fits;
      nothing-more = λ a k. c.nothing-more a (like k);
    }

module _ {S B : Type 0} (next : Item → ℕ) (say : S → Item → Said S B) (teller : Teller next say) where
  sure : Certain (finished_told next say) (arriving_told next say)
  sure limit a k bytes fits = longest-told next say teller limit a fits k bytes

  pub certain-told : CertainLists (finished_told next say) (arriving_told next say) (waits_told next say)
  certain-told =
      record {
        certain = sure;
        never_unsaid = λ limit a x k bytes fits.
            (sure limit (a ++ x) k bytes fits).longest (arriving_told next say limit a k)
            (λ f file. (sure limit a k (first-bytes a x bytes) (omega (arith, length-append a x))).begins f (fewer limit a x f file));
        goes_on = λ limit a x k fits.
            sym (told-append say k.carried (arriving_list_by next limit a k.at) (arriving_list_by next limit (a ++ x) (waits_told next say limit a k).at))
            ∙ ap (told_from say k.carried) (goes_on_by next teller.on limit a x fits k.at);
        nothing-more = λ a k. ap (told_from say k.carried) (nothing-more_by next teller.on a k.at);
      }
