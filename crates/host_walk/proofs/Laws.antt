-- What a step says decides the status and the places.
use Prim.Native.Nat.{ℕ}
use mathlib.Core.Path.{◌≡◌, refl, sym}
use mathlib.Core.List.{List, [], ◌∷◌}
use Rattle.steps.specs.Told.{Told, found, nothing, number}
use Rattle.klv.specs.Item.{Item}
use Rattle.host_walk.specs.Places.{klv_places, item_places}

module _ (t : Told Item) (out : List ℕ) where
  pub is_found : (i : Item) (q : ℕ) → found i q ≡ t → (0 ≡ number t) × (klv_places i.klv q ≡ item_places t out)
  unfolding number item_places
  is_found i q e = rw (sym e) (refl, refl)

  pub is-nothing : (q : ℕ) → nothing q ≡ t → (0 ≡ number t) × (0 ∷ 0 ∷ 0 ∷ 0 ∷ q ∷ 0 ∷ 0 ∷ [] ≡ item_places t out)
  unfolding number item_places
  is-nothing q e = rw (sym e) (refl, refl)
