-- Every script of calls on a shared room is answered in columns as in rows. Assumes nothing.
use Prim.Native.Nat.{ℕ, ◌/◌, ◌^◌, ◌<◌}
use mathlib.Core.Path.{◌≡◌, refl, sym, ap, ◌∙◌}
use mathlib.Core.List.{List, [], ◌∷◌, ◌++◌}
use mathlib.Core.Bool.{Bool, true, false, not}
use native.Mathlib.Omega.{arith}
use lib.ListN.{length}
use Rattle.index.specs.declared.Entry.{Entry}
use Rattle.index.specs.declared.Layout.{Layout}
use Rattle.std.specs.Prelude.{Result, Ok, Err}
use Rattle.index.specs.declared.IndexError.{IndexError}
use Rattle.index.specs.Places.{entries}
use Rattle.index.specs.Index.{written}
use Rattle.shared_index.specs.declared.Room.{Room}
use Rattle.shared_index.specs.declared.SharedError.{SharedError}
use Rattle.shared_index.specs.Rooms.{file_of, changed, is_second, is_open, is_sound, set_up_of, opened_of, closed_of}
use Rattle.shared_index.specs.Shared.{entries_of, added_as, added_to, find_of, add_of, after_add}
use Rattle.shared_index.proofs.Laws.{add_short, add_not, add_in}
use Rattle.shared_lists.specs.Scripts.{Call, open_file, close-file, add-to, ask, room_after, told}
use Rattle.shared_lists.proofs.Rooms.{changed-own, changed-whole, changed-other, set-up-tells, opened-tells, closed-tells}
use Rattle.shared_lists.proofs.Keeps.{own-more, other-kept, after-length}

-- a refusal leaves the buffer
pub refused_leaves : (l : Layout) (b : List ℕ) (r : Room) (file : ℕ) (e : Entry) → ((n : Room) → add_of l b r file e ≡ Ok n → ⊥) → after_add l b r file e ≡ b
unfolding added_as written
refused_leaves l b r file e never = by_sound (is_sound r (length b)) refl
  where
    by_answer : (a : Result ℕ IndexError) → added_to l b (is_second file) r e ≡ a → added_as (is_second file) r a ≡ add_of l b r file e
        → written a l (is_second file) r.whole b (file_of (is_second file) r).used e ≡ after_add l b r file e → after_add l b r file e ≡ b
    by_answer (Ok k) a y w = absurd (never _ (sym y))
    by_answer (Err f) a y w = sym w

    by_open : is_sound r (length b) ≡ true → (v : Bool) → is_open r file ≡ v → after_add l b r file e ≡ b
    by_open s false o = sym (add_not l b r file e s o).1
    by_open s true o = let d = add_in l b r file e s o in by_answer (added_to l b (is_second file) r e) refl d.0 d.1

    by_sound : (v : Bool) → is_sound r (length b) ≡ v → after_add l b r file e ≡ b
    by_sound false s = sym (add_short l b r file e s).1
    by_sound true s = by_open s (is_open r file) refl

-- two buffers with the same room and the same lists
record Same (l m : Layout) (b c : List ℕ) (r : Room) : Type 0 where
  room : length b / 16 ≡ length c / 16
  list : (second : Bool) → entries_of l second r b ≡ entries_of m second r c

either : (P : Bool → Type 0) (second : Bool) → P second → P (not second) → (s : Bool) → P s
either P false p q false = p
either P false p q true = q
either P true p q false = q
either P true p q true = p

module _ (l m : Layout) (b c : List ℕ) (r : Room) (same : Same l m b c r) where
  sound_same : is_sound r (length b) ≡ is_sound r (length c)
  unfolding is_sound
  sound_same = rw same.room refl

  find_same : (file pos : ℕ) → find_of l b r file pos ≡ find_of m c r file pos
  unfolding find_of
  find_same file pos = rw (sound_same, same.list (is_second file)) refl

  add_same : (file : ℕ) (e : Entry) → add_of l b r file e ≡ add_of m c r file e
  unfolding add_of
  add_same file e = rw (sound_same, same.list (is_second file)) refl

  after_same : (file : ℕ) (e : Entry) → e.len < 2 ^ 64 → Same l m (after_add l b r file e) (after_add m c r file e) (room_after (add_of l b r file e) r)
  unfolding room_after
  after_same file e h = go (add_of l b r file e) refl
    where
      left : (x : Result Room SharedError) → add_of l b r file e ≡ x → ((n : Room) → x ≡ Ok n → ⊥) → room_after x r ≡ r → Same l m (after_add l b r file e) (after_add m c r file e) (room_after x r)
      left x a never k =
          rw (k, refused_leaves l b r file e (λ n y. never n (sym a ∙ y)), refused_leaves m c r file e (λ n y. never n (sym a ∙ add_same file e ∙ y))) same

      go : (x : Result Room SharedError) → add_of l b r file e ≡ x → Same l m (after_add l b r file e) (after_add m c r file e) (room_after x r)
      go (Ok n) a =
          let y : add_of m c r file e ≡ Ok n = sym (add_same file e) ∙ a in
          record {
            room = rw (after-length l b r file e n a, after-length m c r file e n y) same.room;
            list = either (λ s. entries_of l s n (after_add l b r file e) ≡ entries_of m s n (after_add m c r file e)) (is_second file)
                (own-more l b r file e n h a ∙ ap (λ (es : List Entry). es ++ (e ∷ [])) (same.list (is_second file)) ∙ sym (own-more m c r file e n h y))
                (other-kept l b r file e n h a ∙ same.list (not (is_second file)) ∙ sym (other-kept m c r file e n h y));
          }
      go (Err f) a = left (Err f) a (λ n y. let z : ◌≡◌ {A = ℕ} 0 1 = cc in omega arith) refl

  -- opening and closing: one list is empty, the other as it was
  emptied_same : (second opened : Bool) (n : Room) → n ≡ changed second r opened 0 → Same l m b c n
  unfolding entries
  emptied_same second opened n x =
      rw x
      (record {
        room = same.room;
        list = either (λ s. entries_of l s (changed second r opened 0) b ≡ entries_of m s (changed second r opened 0) c) second
            (rw (changed-own r opened 0 second) refl)
            (rw (changed-other r opened 0 second, changed-whole r opened 0 second) (same.list (not second)));
      })

  opened-same : (file : ℕ) → Same l m b c (room_after (opened_of r file) r)
  unfolding room_after
  opened-same file = go (opened_of r file) refl
    where
      go : (x : Result Room SharedError) → opened_of r file ≡ x → Same l m b c (room_after x r)
      go (Ok n) a = emptied_same (is_second file) true n (opened-tells r file n a)
      go (Err f) a = same

  closed_same : (file : ℕ) → Same l m b c (room_after (closed_of r file) r)
  unfolding room_after
  closed_same file = go (closed_of r file) refl
    where
      go : (x : Result Room SharedError) → closed_of r file ≡ x → Same l m b c (room_after x r)
      go (Ok n) a = emptied_same (is_second file) false n (closed-tells r file n a)
      go (Err f) a = same

told_same : (l m : Layout) (b c : List ℕ) (r : Room) → Same l m b c r → (cs : List Call) → told l b r cs ≡ told m c r cs
unfolding told
told_same l m b c r s [] = refl
told_same l m b c r s (open_file f ∷ cs) = rw (told_same l m b c (room_after (opened_of r f) r) (opened-same l m b c r s f) cs)
told_same l m b c r s (close-file f ∷ cs) = rw (told_same l m b c (room_after (closed_of r f) r) (closed_same l m b c r s f) cs)
told_same l m b c r s (ask f pos ∷ cs) = rw (told_same l m b c r s cs, find_same l m b c r s f pos)
told_same l m b c r s (add-to f e h ∷ cs) =
    rw (told_same l m (after_add l b r f e) (after_add m c r f e) (room_after (add_of l b r f e) r) (after_same l m b c r s f e h) cs, add_same l m b c r s f e)

-- from a room that is set up on
pub scripts_same : (l m : Layout) (b c : List ℕ) → length b / 16 ≡ length c / 16 → (x y : ℕ) (r : Room) → set_up_of (length b / 16) x y ≡ Ok r → (cs : List Call) → told l b r cs ≡ told m c r cs
unfolding entries
scripts_same l m b c h x y r u cs =
    let t = set-up-tells (length b / 16) x y r u in
    told_same l m b c r (record { room = h; list = λ s. rw (t.empty s) refl }) cs
