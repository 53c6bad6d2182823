-- Demand 3: for bytes A that have arrived, within the operator's limit, the records listed are the longest list with
-- which the finished list of every file that starts with A within the limit begins.
use Rattle.std.specs.Prelude.{ℕ, ◌≤◌, ◌≡◌, List, ◌++◌, length}
use Rattle.parts.specs.Bytes.{Bytes}
use Rattle.steps.specs.Told.{found}
use Rattle.steps.specs.Next.{Cursor}
use Rattle.steps.specs.Passed.{Passed}
use Rattle.klv.specs.Item.{Item}
use Rattle.walk.specs.Passed.{arriving_passing}
use Rattle.records.specs.Records.{finished_from, arriving_from, waits_at}
use Rattle.records.specs.Passed.{finished_passed, arriving_passed, waits_passed}

-- a file, of bytes, that starts with a and is no longer than the limit; a itself is one, where it is within the limit
pub record File (limit : ℕ) (a f : List ℕ) : Type 0 where
  pub rest : List ℕ
  pub starts : f ≡ a ++ rest
  pub bytes : Bytes f
  pub within : length f ≤ limit

-- one list begins another
abbrev pub Begins : {A : Type 0} → List A → List A → Type 0
Begins {A} l m = (r : List A) × (l ++ r ≡ m)

-- a list begins the list of every file that starts with a within the limit
abbrev pub BeginsAll : {A : Type 0} → (List ℕ → List A) → ℕ → List ℕ → List A → Type 0
BeginsAll list_of limit a l = (f : List ℕ) → File limit a f → Begins l (list_of f)

-- and every list of which that holds begins it
pub record Longest {A : Type 0} (list_of : List ℕ → List A) (limit : ℕ) (a : List ℕ) (l : List A) : Type 0 where
  pub begins : BeginsAll list_of limit a l
  pub longest : (m : List A) → BeginsAll list_of limit a m → Begins m l

-- Of the lists of any walk, from any cursor c: `listed f e` is the list of the finished walk of f with the end e, `arrived
-- limit a` that of the arriving walk, `waits limit a` the cursor where it waits

-- Demand 3
abbrev pub Certain : {A C : Type 0} → (List ℕ → ℕ → C → List A) → (ℕ → List ℕ → C → List A) → Type 0
Certain {A} {C} listed arrived =
    (limit : ℕ) (a : List ℕ) (c : C) → Bytes a → length a ≤ limit → Longest (λ f. listed f (length f) c) limit a (arrived limit a c)

-- More bytes never unsay what is listed
abbrev pub NeverUnsaid : {A C : Type 0} → (ℕ → List ℕ → C → List A) → Type 0
NeverUnsaid {A} {C} arrived =
    (limit : ℕ) (a x : List ℕ) (c : C) → Bytes (a ++ x) → length (a ++ x) ≤ limit → Begins (arrived limit a c) (arrived limit (a ++ x) c)

-- Going on from the cursor where the walk of a waits gives what walking anew gives
abbrev pub GoesOn : {A C : Type 0} → (ℕ → List ℕ → C → List A) → (ℕ → List ℕ → C → C) → Type 0
GoesOn {A} {C} arrived waits =
    (limit : ℕ) (a x : List ℕ) (c : C) → length (a ++ x) ≤ limit → arrived limit a c ++ arrived limit (a ++ x) (waits limit a c) ≡ arrived limit (a ++ x) c

-- Where the limit is a's own length nothing more can come: the list is a's finished list
abbrev pub NothingMore : {A C : Type 0} → (List ℕ → ℕ → C → List A) → (ℕ → List ℕ → C → List A) → Type 0
NothingMore {A} {C} listed arrived = (a : List ℕ) (c : C) → arrived (length a) a c ≡ listed a (length a) c

pub record CertainLists {A C : Type 0} (listed : List ℕ → ℕ → C → List A) (arrived : ℕ → List ℕ → C → List A) (waits : ℕ → List ℕ → C → C) : Type 0 where
  pub certain : Certain listed arrived
  pub never_unsaid : NeverUnsaid arrived
  pub goes_on : GoesOn arrived waits
  pub nothing-more : NothingMore listed arrived

-- The records, from 0 or from any place
abbrev pub CertainRecords : Type 0
CertainRecords = CertainLists finished_from arriving_from waits_at

-- and with the bytes passed before each (docs/RULES.md, "L9. The bytes that were passed"), from any cursor
abbrev pub CertainPassed : Type 0
CertainPassed = CertainLists finished_passed arriving_passed waits_passed

-- A record that a step gave stays the next one, count included, whatever has come since, and walking goes on from its cursor
abbrev pub StaysNext : Type 0
StaysNext =
    (limit : ℕ) (a x : List ℕ) (k : Cursor ℕ) (c : Passed Item) (q : Cursor ℕ) → length (a ++ x) ≤ limit → arriving_passing limit a k ≡ found c q
    → arriving_passing limit (a ++ x) k ≡ found c q
