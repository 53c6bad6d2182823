-- The definitions compute these. Assumes nothing.
use mathlib.Core.Path.{refl}
use Rattle.parts.specs.Number.{number_at}
use Rattle.labels.specs.Label.{beginning, first_agree, agree_but, partition_kind}
use Rattle.lengths.specs.Length.{held_at, length_by, length_at}
use Rattle.random_index.specs.Index.{by_length, pairs_behind, pack_size, index_of, pair_step}
use Rattle.worked.specs.RandomIndex.{Accepted, Refused, RandomIndex}

accepted : Accepted
unfolding number_at beginning first_agree agree_but partition_kind held_at length_by length_at by_length pairs_behind pack_size index_of pair_step
accepted = (refl, refl, refl, refl, refl, refl, refl)

refused : Refused
unfolding number_at first_agree agree_but held_at length_by length_at by_length pairs_behind pack_size index_of
refused = (refl, refl, refl, refl, refl, refl, refl, refl, refl, refl, refl, refl, refl)

pub random-index : RandomIndex
random-index = (accepted, refused)
