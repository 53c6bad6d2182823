-- What is answered goes by the list and the room alone, so every script of calls is answered in columns as in rows. Assumes nothing.
use Prim.Native.Nat.{ℕ, ◌^◌, ◌<◌}
use mathlib.Core.Path.{◌≡◌, refl, sym, ap, ◌∙◌}
use mathlib.Core.List.{List, [], ◌∷◌, ◌++◌}
use mathlib.Core.Bool.{false}
use Rattle.index.specs.declared.Entry.{Entry}
use Rattle.index.specs.declared.Layout.{Layout}
use Rattle.std.specs.Prelude.{Result, Ok, Err}
use Rattle.index.specs.declared.IndexError.{IndexError}
use Rattle.index.specs.Places.{entries}
use Rattle.index.specs.Index.{written, room_of, list_of, find_of, add_of, after_add}
use Rattle.index_layouts.specs.Scripts.{Call, adds, asks, used_after, told}
use Rattle.index_lists.proofs.Adding.{add_list}
use Rattle.index_lists.proofs.Indexes.{room-kept}

module _ (l m : Layout) (b c : List ℕ) (room : room_of b ≡ room_of c) (n : ℕ) (same : list_of l b n ≡ list_of m c n) where
  pub look_same : (pos : ℕ) → find_of l b n pos ≡ find_of m c n pos
  unfolding find_of
  look_same pos = rw (same, room)

  pub add_same : (e : Entry) → add_of l b n e ≡ add_of m c n e
  unfolding add_of
  add_same e = rw (same, room)

  -- and the lists stay the same
  pub after_same : (e : Entry) → e.len < 2 ^ 64 → list_of l (after_add l b n e) (used_after (add_of l b n e) n) ≡ list_of m (after_add m c n e) (used_after (add_of m c n e) n)
  unfolding written used_after
  after_same e h = go (add_of l b n e) refl
    where
      left : (r : Result ℕ IndexError) → add_of l b n e ≡ r → written r l false (room_of b) b n e ≡ b → written r m false (room_of c) c n e ≡ c → used_after r n ≡ n
          → list_of l (after_add l b n e) (used_after (add_of l b n e) n) ≡ list_of m (after_add m c n e) (used_after (add_of m c n e) n)
      left r x u v k = let y : add_of m c n e ≡ r = sym (add_same e) ∙ x in rw (x, y, u, v, k) same

      go : (r : Result ℕ IndexError) → add_of l b n e ≡ r → list_of l (after_add l b n e) (used_after (add_of l b n e) n) ≡ list_of m (after_add m c n e) (used_after (add_of m c n e) n)
      go (Ok k) x =
          let y : add_of m c n e ≡ Ok k = sym (add_same e) ∙ x in
          let p = (add_list l b n e k h x).1 in
          let q = (add_list m c n e k h y).1 in
          let u : used_after (add_of l b n e) n ≡ k = rw x in
          let v : used_after (add_of m c n e) n ≡ k = rw y in
          rw (u, v) (p ∙ ap (λ (es : List Entry). es ++ (e ∷ [])) same ∙ sym q)
      go (Err r) x = left (Err r) x refl refl refl

-- every script of calls is answered alike
pub told_same : (l m : Layout) (b c : List ℕ) → room_of b ≡ room_of c → (n : ℕ) → list_of l b n ≡ list_of m c n → (cs : List Call) → told l b n cs ≡ told m c n cs
unfolding told
told_same l m b c room n same [] = refl
told_same l m b c room n same (asks pos ∷ cs) = rw (look_same l m b c room n same pos, told_same l m b c room n same cs)
told_same l m b c room n same (adds e h ∷ cs) =
    let s : list_of l (after_add l b n e) (used_after (add_of l b n e) n) ≡ list_of m (after_add m c n e) (used_after (add_of l b n e) n) =
    after_same l m b c room n same e h ∙ ap (λ (r : Result ℕ IndexError). list_of m (after_add m c n e) (used_after r n)) (sym (add_same l m b c room n same e))
    in
    let i = told_same l m (after_add l b n e) (after_add m c n e) (room-kept l b n e ∙ room ∙ sym (room-kept m c n e)) (used_after (add_of l b n e) n) s cs in
    rw (i, add_same l m b c room n same e)

-- from an empty index on
pub scripts_same : (l m : Layout) (b c : List ℕ) → room_of b ≡ room_of c → (cs : List Call) → told l b 0 cs ≡ told m c 0 cs
unfolding entries
scripts_same l m b c room cs = told_same l m b c room 0 refl cs
