-- What was put is what is read. Assumes nothing.
use Prim.Native.Nat.{ℕ, zero, suc, ◌+◌, ◌*◌, ◌/◌, ◌%◌, ◌≤◌}
use mathlib.Core.Path.{◌≡◌, refl, sym, ap, ◌∙◌}
use mathlib.Core.List.{List, [], ◌∷◌, ◌++◌}
use native.Mathlib.Omega.{arith}
use lib.ListN.{length, get_or, take, drop, length-drop}
use lib.Seq.{take-suc, take-add, take_all, get_or-drop}
use Rattle.parts.specs.Bytes.{Bytes}
use Rattle.parts.specs.Number.{number_at}
use Rattle.host_fed_states.specs.Places.{bytes_of}
use Rattle.host_fed_states.specs.Read.{ReadBack}
use Rattle.host_fed_states.proofs.Searches.{flag-mark}

-- The bytes of the number that bytes hold are those
pub bytes_back : (l : List ℕ) (p n : ℕ) → Bytes l → p + n ≤ length l → bytes_of n (number_at l p n) ≡ take n (drop p l)
unfolding bytes_of number_at
bytes_back l p zero b h = refl
bytes_back l p (suc n) b h =
    let x = number_at l p n in
    let y = get_or l (p + n) 0 in
    let s = b (p + n) in
    let d : (x * 256 + y) / 256 ≡ x = omega arith in
    let m : (x * 256 + y) % 256 ≡ y = omega arith in
    let k = length-drop p l in
    rw (d, m, bytes_back l p n b (omega arith)) (ap (λ (z : ℕ). take n (drop p l) ++ (z ∷ [])) (sym (get_or-drop p l n 0)) ∙ sym (take-suc (drop p l) n 0 (omega arith)))

pub one_byte : (l : List ℕ) (p : ℕ) → get_or l p 0 ≡ number_at l p 1
unfolding number_at
one_byte l p = let z : p + 0 ≡ p = omega arith in rw z (omega arith)

pub read_back : ReadBack
read_back st k = rw (flag-mark st.known, flag-mark st.live, label, ber) refl
  where
    label : bytes_of 8 (number_at st.label 0 8) ++ bytes_of 8 (number_at st.label 8 8) ≡ st.label
    label =
        let n = k.sixteen in
        rw (bytes_back st.label 0 8 k.label (omega arith), bytes_back st.label 8 8 k.label (omega arith)) (sym (take-add 8 8 st.label) ∙ take_all 16 st.label (omega arith))

    ber : bytes_of 1 (get_or st.ber 0 0) ++ bytes_of 8 (number_at st.ber 1 8) ≡ st.ber
    ber =
        let n = k.nine in
        rw (one_byte st.ber 0, bytes_back st.ber 0 1 k.ber (omega arith), bytes_back st.ber 1 8 k.ber (omega arith)) (sym (take-add 1 8 st.ber) ∙ take_all 9 st.ber (omega arith))
