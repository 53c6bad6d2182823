-- What the gate says decides the status and the place. Assumes nothing.
use Prim.Native.Nat.{ℕ, ◌≤◌}
use mathlib.Core.Path.{◌≡◌, refl, sym}
use mathlib.Core.List.{List, [], ◌∷◌}
use borrow.Author.Tests.{le-leb}
use Rattle.steps.specs.Told.{Told, nothing, refused, number}
use Rattle.host_checks.specs.Places.{gate_places}

module _ (t : Told ℕ) (out : List ℕ) where
  pub is-accepted : (e : ℕ) → nothing e ≡ t → (0 ≡ number t) × (0 ∷ [] ≡ gate_places t out)
  unfolding number gate_places
  is-accepted e x = rw (sym x) (refl, refl)

  pub is-past-buffer : refused 1 0 ≡ t → (1 ≡ number t) × (out ≡ gate_places t out)
  unfolding number gate_places
  is-past-buffer x = rw (sym x) (refl, refl)

  pub is-broken : (n p : ℕ) → 10 ≤ n → refused n p ≡ t → (n ≡ number t) × (p ∷ [] ≡ gate_places t out)
  unfolding number gate_places
  is-broken n p h x = rw (sym x) (refl, simp (le-leb _ _ h))
