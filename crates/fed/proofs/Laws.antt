-- Answers in code, by what they say. Assumes nothing.
use Rattle.std.specs.Prelude.{Option, Some, None, is_some}
use Prim.Native.Nat.{ℕ}
use mathlib.Core.Path.{◌≡◌, refl}
use mathlib.Core.List.{List}
use mathlib.Core.Bool.{false, true≢false}
use native.Mathlib.Omega.{arith}
use Rattle.steps.specs.Told.{ToldAt, found, nothing}
use Rattle.klv.specs.declared.Klv.{Klv}
use Rattle.klv.specs.Item.{Item}
use Rattle.fed_states.specs.declared.State.{State}
use Rattle.steps.specs.Passed.{Passed}
use Rattle.fed_bytes.specs.Feed.{Taken, after, up_to}
use Rattle.fed.specs.Told.{found_told}

module _ {C D : Type 0} (label : List ℕ) where
  pub told-found : (x : Option (Klv × ℕ)) (c : C) (a : Passed Item) (d : C) → found_told label c x ≡ found a d → (c ≡ d) × ((e : D) → found_told label e x ≡ found a e)
  told-found (Some (k, n)) c a d e = (cc, λ e2. cc)
  told-found None c a d e = absurd (let z : ◌≡◌ {A = ℕ} 0 1 = cc in omega arith)

pub told-nothing : {C : Type 0} (label : List ℕ) (x : Option (Klv × ℕ)) (c d : C) → found_told label c x ≡ nothing d → c ≡ d
told-nothing label (Some (k, n)) c d e = absurd (let z : ◌≡◌ {A = ℕ} 0 1 = cc in omega arith)
told-nothing label None c d e = cc

pub after-told : {C : Type 0} (label : List ℕ) (x : Option (Klv × ℕ)) (c : C) → after (found_told label c x) ≡ c
unfolding after
after-told label (Some (k, n)) c = refl
after-told label None c = refl

-- an answer that is no record goes on with the rest
pub no_record : (label : List ℕ) (x : Option (Klv × ℕ)) (s : State) (rest : State → ToldAt Taken (Passed Item)) (n : ℕ) → is_some x ≡ false
    → up_to rest n (found_told label s x) ≡ rest s
unfolding up_to
no_record label None s rest n o = refl
no_record label (Some (k, p)) s rest n o = absurd (true≢false o)
