-- The definitions compute these numbers. Assumes nothing.
use Prim.Native.Nat.{ℕ, ◌+◌, ◌<◌}
use mathlib.Core.Path.{◌≡◌, refl, ap, ◌∙◌}
use mathlib.Core.List.{List, ◌++◌}
use mathlib.Core.Logic.{by_cases}
use native.Mathlib.Omega.{arith}
use native.Mathlib.Decide.{dec_lt, ℕ_discrete}
use lib.ListN.{length, get_or, set, length-set}
use lib.Seq.{get_or-set_same}
use lib.Dec.{lit<, lit≤}
use Rattle.parts.specs.Number.{number_at}
use Rattle.parts.specs.Answer.{is, none}
use Rattle.primer.specs.Primer.{entries_in}
use Rattle.primer.specs.LastWins.{place}
use Rattle.primer_table.specs.Table.{filled_by, table_of}
use Rattle.primer_table.proofs.Laws.{held_none, held_other, held_label}
use Rattle.worked.specs.LastTag.{head, twice}
use Rattle.worked.specs.PrimerTable.{Has, PrimerTable}

abbrev s : List ℕ
s = head 2 18 ++ twice

first : Has 0x3c0a 0 (is 10)
unfolding number_at entries_in
first table h e = held_label s table 0x3c0a h (rw e (lit< tt)) (rw e refl) ∙ ap (λ (n : ℕ). is (place n + 2)) e

second : Has 0x3c0a 1 (is 28)
unfolding number_at entries_in
second table h e = held_label s table 0x3c0a h (rw e (lit< tt)) (rw e refl) ∙ ap (λ (n : ℕ). is (place n + 2)) e

third : Has 0x3c0a 2 none
unfolding number_at entries_in
third table h e = held_none s table 0x3c0a h (rw e (lit≤ tt))

-- both entries have the other tag
tags : (n : ℕ) → n < 2 → number_at s (place n) 2 ≡ 0x3c0a
unfolding number_at
tags n h = by_cases (ℕ_discrete n 0) (λ e. rw e refl) (λ m. let e : n ≡ 1 = omega arith in rw e refl)

other : (n : ℕ) → Has 0x3c0b n none
unfolding number_at entries_in
other n table h e =
    by_cases (dec_lt (get_or table 0x3c0b 0) 2)
    (λ l. held_other s table 0x3c0b h l (λ x. omega (arith, tags (get_or table 0x3c0b 0) l)))
    (λ l. held_none s table 0x3c0b h (omega arith))

filled : (table : List ℕ) → length table ≡ 65536 → get_or (table_of s table) 0x3c0a 0 ≡ 1
unfolding number_at entries_in filled_by table_of
filled table l = get_or-set_same (set table 0x3c0a 0) 0x3c0a 1 0 (omega (arith, length-set table 0x3c0a 0))

pub primer_table : PrimerTable
primer_table = record { first = first; second = second; third = third; other = other; filled = filled }
