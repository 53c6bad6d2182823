-- Which values open: docs/RULES.md, "L4. An outline".
use Rattle.std.specs.Prelude.{ℕ, zero, suc, List, Bool, false, true, cond, ◌&&◌, get_or, eqb, Option, Some, None}
use Rattle.labels.specs.Label.{codes_items}
use Rattle.items.specs.declared.Coding.{Coding}

abbrev pub coding : ℕ → Bool → Coding
coding tag ber = record { tag = tag; ber = ber }

-- a set's tags and lengths by byte 5 of its label: 53h has 2 and 2, 13h 2 and BER, 43h 1 and 2
unfoldable pub coding_by : ℕ → Coding
coding_by b = cond (eqb b 0x53) (coding 2 false) (cond (eqb b 0x13) (coding 2 true) (coding 1 false))

-- the value under a set's label opens as a set, and no other
unfoldable pub set_of : List ℕ → Option Coding
set_of label = cond (codes_items label) (Some (coding_by (get_or label 5 0))) None

-- in a set with tags of 1, a 43h one, the value under the tag 88h opens as a run
unfoldable pub is_run : Coding → List ℕ → Bool
is_run c tag = eqb c.tag 1 && eqb (get_or tag 0 0) 0x88

-- where levels are left: what would go deeper is a leaf
unfoldable pub set_in : ℕ → List ℕ → Option Coding
set_in zero label = None
set_in (suc left) label = set_of label

unfoldable pub runs_in : ℕ → Coding → List ℕ → Bool
runs_in zero c tag = false
runs_in (suc left) c tag = is_run c tag
