-- The bytes that have ever come, as far as a piece is taken: each of its bytes stands where the walk meets it. Assumes nothing.
use Prim.Native.Nat.{ℕ, zero, suc, ◌+◌, ◌-◌, ◌≤◌, ◌<◌, max}
use mathlib.Core.Path.{◌≡◌, refl, sym, ap, ◌∙◌}
use mathlib.Core.List.{List, [], ◌∷◌, ◌++◌, append-nil, append_assoc}
use mathlib.Core.Logic.{by_cases}
use native.Mathlib.Omega.{arith}
use native.Mathlib.Decide.{dec_lt}
use lib.ListN.{length, get_or, take, drop, length-append, length-take, length-drop, get_or-append}
use lib.Seq.{get_or-append-add, get_or-take, get_or-drop, take-add}
use Rattle.fed_frame_lists.specs.Run.{Agrees, joined}

-- what is new of a piece that is taken up to t
taken_new : (d t : ℕ) (l : List ℕ) → drop d (take t l) ≡ take (t - d) (drop d l)
taken_new zero t l = let z : t - 0 ≡ t = omega arith in rw z
taken_new (suc d) zero l = let z : 0 - suc d ≡ 0 = omega arith in rw z
taken_new (suc d) (suc t) [] = go (suc t - suc d)
  where
    go : (m : ℕ) → ◌≡◌ {A = List ℕ} [] (take m [])
    go zero = refl
    go (suc m) = refl
taken_new (suc d) (suc t) (b ∷ l) = let z : suc t - suc d ≡ t - d = omega arith in taken_new d t l ∙ rw z

module _ (a : List ℕ) (q : ℕ) (piece : List ℕ) (there : q ≤ length a) (agrees : Agrees a q piece) where
  -- the bytes that have come, with t bytes of the piece
  abbrev pub come : ℕ → List ℕ
  come t = joined a q (take t piece)

  abbrev old : ℕ
  old = length a - q

  come_so : (t : ℕ) → come t ≡ a ++ take (t - old) (drop old piece)
  come_so t = ap (λ (l : List ℕ). a ++ l) (taken_new old t piece)

  pub come-none : come 0 ≡ a
  come-none = come_so 0 ∙ (let z : 0 - old ≡ 0 = omega arith in rw (z, append-nil a))

  -- more of it only adds to them
  abbrev pub added : ℕ → ℕ → List ℕ
  added t u = take (u - old - (t - old)) (drop (t - old) (drop old piece))

  pub come-more : (t u : ℕ) → t ≤ u → come u ≡ come t ++ added t u
  come-more t u h =
      let z : u - old ≡ (t - old) + (u - old - (t - old)) = omega arith in
      come_so u
      ∙ ap (λ (m : ℕ). a ++ take m (drop old piece)) z
      ∙ ap (λ (l : List ℕ). a ++ l) (take-add (t - old) (u - old - (t - old)) (drop old piece))
      ∙ sym (append_assoc a (take (t - old) (drop old piece)) (take (u - old - (t - old)) (drop (t - old) (drop old piece))))
      ∙ ap (λ (l : List ℕ). l ++ take (u - old - (t - old)) (drop (t - old) (drop old piece))) (sym (come_so t))

  pub come-length : (t : ℕ) → t ≤ length piece → length (come t) ≡ max (length a) (q + t)
  come-length t h =
      ap length (come_so t) ∙ length-append a (take (t - old) (drop old piece))
      ∙ omega (arith, length-take (t - old) (drop old piece), length-drop old piece)

  -- the byte that comes at a place stands there
  pub come_byte : (t : ℕ) → t < length piece → get_or (come (t + 1)) (q + t) 0 ≡ get_or piece t 0
  come_byte t h =
      rw (come_so (t + 1))
      (by_cases (dec_lt (q + t) (length a)) (λ m. get_or-append a (take (t + 1 - old) (drop old piece)) 0 (q + t) m ∙ sym (agrees t h m))
      (λ m. let z : q + t ≡ length a + (t - old) = omega arith in
      let y : old + (t - old) ≡ t = omega arith in
      ap (λ (i : ℕ). get_or (a ++ take (t + 1 - old) (drop old piece)) i 0) z
      ∙ get_or-append-add a (take (t + 1 - old) (drop old piece)) (t - old) 0
      ∙ get_or-take (t + 1 - old) (drop old piece) (t - old) 0 (omega arith)
      ∙ get_or-drop old piece (t - old) 0
      ∙ ap (λ (i : ℕ). get_or piece i 0) y))
