-- What a step's answer says, each case by the number and values of docs/RULES.md, "What a call can say"; k is the cursor that the
-- step was given.
use Rattle.std.specs.Prelude.{ℕ, List, Result, Ok, Err}
use Rattle.steps.specs.Told.{ToldAt, found, nothing, refused}
use Rattle.steps.specs.Next.{Cursor, cursor}
use Rattle.steps.specs.Passed.{Passed}
use Rattle.klv.specs.Item.{Item, item}
use Rattle.walk.specs.declared.WalkError.{WalkError}
use Rattle.walk.specs.declared.WalkError.TheVariants.{ShortBuffer, OverLimit}
use Rattle.walk.specs.declared.Way.{Way}
use Rattle.walk.specs.declared.Way.TheVariants.{Finished, Arriving}
use Rattle.walk.specs.declared.Cursor as at
use Rattle.walk.specs.declared.Step.{Step}
use Rattle.walk.specs.declared.Step.TheVariants as step
use Rattle.walk.specs.Passed.{finished_passing, arriving_passing}

-- a cursor's place, and the one where walking last went on
abbrev pub cursor_of : at.Cursor → Cursor ℕ
cursor_of c = cursor c.at c.since

-- 1: the end is larger than the buffer; 2: more arrived bytes than the limit
abbrev pub refused_by : WalkError → ℕ
refused_by ShortBuffer = 1
refused_by OverLimit = 2

abbrev pub told : List ℕ → Cursor ℕ → Result Step WalkError → ToldAt (Cursor ℕ) (Passed Item)
told s k (Ok (step.Record r m c)) = found (record { it = item 16 s r; passed = m }) (cursor_of c)
told s k (Ok (step.Rests c)) = nothing (cursor_of c)
told s k (Err e) = refused (refused_by e) k

-- A step of either walk, and its refusal

unfoldable pub step_on : Way → List ℕ → Cursor ℕ → ToldAt (Cursor ℕ) (Passed Item)
step_on (Finished e) s k = finished_passing s e k
step_on (Arriving limit) a k = arriving_passing limit a k

unfoldable pub refusal : Way → ℕ
refusal (Finished e) = 1
refusal (Arriving limit) = 2
