-- L10's sentences hold of every buffer that adding made. Assumes nothing.
use Prim.Native.Nat.{ℕ, ◌/◌, ◌≤◌, ◌<◌}
use mathlib.Core.Path.{◌≡◌, refl, sym, ap}
use mathlib.Core.Bool.{Bool, false}
use mathlib.Core.List.{List}
use native.Mathlib.Omega.{arith}
use lib.ListN.{length}
use lib.Seq.{length-sets}
use lib.Dec.{ltb}
use borrow.Author.Tests.{ltb-true}
use Rattle.index.specs.declared.Entry.{Entry}
use Rattle.index.specs.declared.Layout.{Layout}
use Rattle.std.specs.Prelude.{Result, Ok, Err}
use Rattle.index.specs.declared.IndexError.{IndexError}
use Rattle.index.specs.Places.{entries}
use Rattle.index.specs.Lists.{look_in}
use Rattle.index.specs.Index.{written, room_of, list_of, find_of, add_of, after_add}
use Rattle.index.proofs.Narrowing.{logarithmic}
use Rattle.index.proofs.Laws.{find_in}
use Rattle.index_lists.specs.Apart.{Apart, Answers, Made, none, more}
use Rattle.index_lists.specs.Indexes.{MadeIn, begins, goes_on, Indexed}
use Rattle.index_lists.proofs.Adding.{add_tells, add-to, add_list, made_apart}
use Rattle.index_lists.proofs.Right.{answers}

-- adding leaves the room
pub written-length : (r : Result ℕ IndexError) (l : Layout) (down : Bool) (room : ℕ) (b : List ℕ) (n : ℕ) (e : Entry) → length (written r l down room b n e) ≡ length b
unfolding written
written-length (Ok k) l down room b n e = simp length-sets
written-length (Err r) l down room b n e = refl

pub room-kept : (l : Layout) (b : List ℕ) (n : ℕ) (e : Entry) → room_of (after_add l b n e) ≡ room_of b
room-kept l b n e = ap (λ (k : ℕ). k / 16) (written-length (add_of l b n e) l false (room_of b) b n e)

-- and a refusal the bytes
pub refused-left : (r : Result ℕ IndexError) (l : Layout) (down : Bool) (room : ℕ) (b : List ℕ) (n : ℕ) (e : Entry) → ((k : ℕ) → r ≡ Ok k → ⊥) → written r l down room b n e ≡ b
unfolding written
refused-left (Ok k) l down room b n e x = absurd (x k refl)
refused-left (Err r) l down room b n e x = refl

pub made_list : (l : Layout) (b : List ℕ) (n : ℕ) → MadeIn l b n → Made (list_of l b n)
unfolding entries
made_list l b' n' (begins b) = none
made_list l b' n' (goes_on b n e k m h x) = rw (add_list l b n e k h x).1 (more (list_of l b n) (ltb n (room_of b)) e k (made_list l b n m) (add-to l b n e k h x))

pub made_room : (l : Layout) (b : List ℕ) (n : ℕ) → MadeIn l b n → n ≤ room_of b
made_room l b' n' (begins b) = omega arith
made_room l b' n' (goes_on b n e k m h x) =
    let t = add_tells (ltb n (room_of b)) (list_of l b n) e k (add-to l b n e k h x) in
    let f : n < room_of b = ltb-true n (room_of b) t.room in
    omega (arith, (add_list l b n e k h x).0, room-kept l b n e)

module _ (l : Layout) (b : List ℕ) (n : ℕ) (made : MadeIn l b n) where
  -- starts ascend and spans stay apart
  pub index_apart : Apart (list_of l b n)
  index_apart = made_apart (list_of l b n) (made_list l b n made)

  -- asking is asking the list, and answers the first record that covers the position, or nothing where none does
  pub index_look : (pos : ℕ) → find_of l b n pos ≡ Ok (look_in (list_of l b n) pos)
  index_look pos = sym (find_in l b n pos (made_room l b n made))

  pub index_answers : (pos : ℕ) → (find_of l b n pos ≡ Ok (look_in (list_of l b n) pos)) × Answers (list_of l b n) pos (look_in (list_of l b n) pos)
  index_answers pos = (index_look pos, answers (list_of l b n) (made_list l b n made) pos)

pub indexed : Indexed
indexed = record {
  added = add_list;
  left = λ l b n e x. refused-left (add_of l b n e) l false (room_of b) b n e x;
  apart = index_apart;
  answers = index_answers;
  logarithmic = λ t f n h. sym (logarithmic t f 0 n h);
}
