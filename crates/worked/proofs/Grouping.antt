-- The definitions compute these. Assumes nothing.
use mathlib.Core.Path.{refl}
use Rattle.labels.specs.Label.{first_agree, agree_but, codes_items}
use Rattle.tally.specs.Groups.{same_group}
use Rattle.worked.specs.Grouping.{Grouping}

pub grouping : Grouping
unfolding first_agree agree_but codes_items same_group
grouping = (refl, refl, refl, refl, refl)
