-- The list of items goes as its steps say, and an answer says which. Assumes nothing.
use Rattle.std.specs.Prelude.{Option, Some, None}
use Rattle.klv.specs.declared.Klv.{Klv}
use Rattle.items.specs.declared.Run.{Run}
use Rattle.items.specs.declared.Local.{Local}
use Prim.Native.Nat.{ℕ}
use mathlib.Core.Path.{◌≡◌, refl}
use mathlib.Core.List.{List}
use mathlib.Core.Bool.{Bool}
use native.Mathlib.Omega.{arith}
use lib.ListN.{length}
use Rattle.steps.specs.Listed.{before, list_from}
use Rattle.steps.proofs.Laws.{Moves, listed}
use Rattle.klv.specs.Item.{item}
use Rattle.items.specs.Items.{item_step}
use Rattle.items.specs.Told.{told, local_told}
use Rattle.items.proofs.Laws.{item-fits}

pub item_moves : (key : ℕ) (ber : Bool) (s : List ℕ) → Moves (item_step key ber s) (length s)
item_moves key ber s p i next e = omega (arith, item-fits key ber s p i next e)

-- each step gives the next of its list, and the end comes exactly at the list's end
pub item-listed : (key : ℕ) (ber : Bool) (s : List ℕ) (p : ℕ)
    → list_from (item_step key ber s) (length s) p ≡ before (list_from (item_step key ber s) (length s)) (item_step key ber s p)
item-listed key ber s = listed (item_step key ber s) (length s) (item_moves key ber s)

-- two answers that say the same are the same
pub told_once : (s : List ℕ) (p : ℕ) (a b : Option (Klv × Run)) → told s p a ≡ told s p b → a ≡ b
told_once s p (Some (k, m)) (Some (l, n)) e =
    let x : item 16 s k ≡ item 16 s l = cc in
    let y : m.at ≡ n.at = cc in
    λ i. Some ((x i).klv, record { at = y i })
told_once s p (Some (k, m)) None e = let z : ◌≡◌ {A = ℕ} 0 1 = cc in absurd (omega arith)
told_once s p None (Some (l, n)) e = let z : ◌≡◌ {A = ℕ} 0 1 = cc in absurd (omega arith)
told_once s p None None e = refl

pub local_once : (tag : ℕ) (s : List ℕ) (p : ℕ) (a b : Option (Klv × Local)) → local_told tag s p a ≡ local_told tag s p b → a ≡ b
local_once tag s p (Some (k, m)) (Some (l, n)) e =
    let x : item tag s k ≡ item tag s l = cc in
    let y : m.at ≡ n.at = cc in
    λ i. Some ((x i).klv, record { at = y i })
local_once tag s p (Some (k, m)) None e = let z : ◌≡◌ {A = ℕ} 0 1 = cc in absurd (omega arith)
local_once tag s p None (Some (l, n)) e = let z : ◌≡◌ {A = ℕ} 0 1 = cc in absurd (omega arith)
local_once tag s p None None e = refl
