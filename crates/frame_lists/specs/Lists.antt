-- What a camera's walk shows, whole: docs/RULES.md, "Frame walks".
use Rattle.std.specs.Prelude.{ℕ, ◌+◌, ◌-◌, ◌≡◌, List, [], ◌∷◌, ◌++◌, false, cond}
use Rattle.steps.specs.Passed.{Passed}
use Rattle.klv.specs.Item.{Item}
use Rattle.records.specs.Records.{finished_list_by, finished_from}
use Rattle.frame_walks.specs.declared.Camera.{Camera}
use Rattle.frame_walks.specs.declared.Kind.{Kind}
use Rattle.frame_walks.specs.declared.Kind.TheVariants as kinds
use Rattle.frame_walks.specs.Kinds.{kind, over_long, goes_on_at}
use Rattle.frame_walks.specs.Frames.{carried, Shown, framed, given, frame, counted}

-- frames are numbered in order: a frame's number is how many came before it, from n on; a given value takes none. Each comes with
-- the bytes between g, where walking last went on, and its own start
unfoldable pub numbered : Camera → ℕ → ℕ → Item → Kind → (ℕ → List (Passed Shown)) → List (Passed Shown)
numbered c g n i kinds.Frame again = counted (carried g n) i (framed (frame c n i)) ∷ again (n + 1)
numbered c g n i kinds.Given again = counted (carried g n) i (given i.klv) ∷ again n
numbered c g n i kinds.Other again = again n

unfoldable pub shown : Camera → ℕ → ℕ → List Item → List (Passed Shown)
shown c g n [] = []
shown c g n (i ∷ l) = numbered c g n i (kind c i) (λ m. shown c (goes_on_at c i) m l)

-- a camera's walk of s with the end e, whole: the frames, and what is given beside them, in file order
abbrev pub frames_of : Camera → List ℕ → ℕ → List (Passed Shown)
frames_of c s e = shown c 0 0 (finished_list_by (goes_on_at c) s e 0)

-- Frames are counted over demand 2's list

-- none of these records is over-long
unfoldable pub AllRead : Camera → List Item → Type 0
AllRead c [] = Unit {0}
AllRead c (i ∷ l) = (over_long c i ≡ false) × AllRead c l

-- the records up to and including the first that is over-long
unfoldable pub up_to_over_long : Camera → List Item → List Item
up_to_over_long c [] = []
up_to_over_long c (i ∷ l) = i ∷ cond (over_long c i) [] (up_to_over_long c l)

-- up to and including its first over-long record the walk shows what that list has; and all of it, where none is over-long
pub record Counted (c : Camera) (s : List ℕ) (e : ℕ) : Type 0 where
  pub begins : (r : List (Passed Shown)) × (shown c 0 0 (up_to_over_long c (finished_from s e 0)) ++ r ≡ frames_of c s e)
  pub whole : AllRead c (finished_from s e 0) → frames_of c s e ≡ shown c 0 0 (finished_from s e 0)

abbrev pub CountedOverRecords : Type 0
CountedOverRecords = (c : Camera) (s : List ℕ) (e : ℕ) → Counted c s e
