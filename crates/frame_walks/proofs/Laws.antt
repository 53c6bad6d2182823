-- What a record is to Canon's walk, where a walk goes on, and how it counts. Assumes nothing.
use Rattle.std.proofs.Common.{◌≡◌, ℕ, suc, ◌+◌, ◌^◌, ◌<◌, ◌≤◌, Bool, true, false, cond, List, arith, le-leb}
use borrow.Author.Tests.{lt-leb}
use Rattle.labels.specs.Label.{same_label}
use Rattle.klv.specs.Item.{past}
use Rattle.records.proofs.Lists.{Onward}
use Rattle.frame_walks.specs.declared.Kind.TheVariants.{Given}
use Rattle.frame_walks.specs.declared.Camera.{Camera}
use Rattle.frame_walks.specs.Kinds.{sony_kind, canon_kind, over_long, goes_on_at}
use Rattle.frame_walks.specs.Labels.{package_metadata, sequence_info}
use Rattle.frame_walks.specs.Frames.{after}

-- Canon's kinds

module _ (label : List ℕ) (len : ℕ) where
  pub canon_long : 1048576 < len → canon_kind label len ≡ sony_kind label
  unfolding canon_kind
  canon_long h = simp (lt-leb _ _ h)

  module _ (h : len ≤ 1048576) where
    pub canon_package : same_label label package_metadata ≡ true → canon_kind label len ≡ Given
    unfolding canon_kind
    canon_package p = simp (le-leb _ _ h, p)

    module _ (p : same_label label package_metadata ≡ false) where
      pub canon_sequence : same_label label sequence_info ≡ true → canon_kind label len ≡ Given
      unfolding canon_kind
      canon_sequence q = simp (le-leb _ _ h, p, q)

      pub canon_other : same_label label sequence_info ≡ false → canon_kind label len ≡ sony_kind label
      unfolding canon_kind
      canon_other q = simp (le-leb _ _ h, p, q)

-- walking goes on no earlier than at the value
pub goes-onward : (c : Camera) → Onward (goes_on_at c)
unfolding goes_on_at
goes-onward c i = go (over_long c i)
  where
    go : (b : Bool) → i.klv.value ≤ cond b i.klv.value (past i.klv)
    go true = omega arith
    go false = omega arith

-- in 64 bits a number counts on by one
pub counts : (n m : ℕ) → n + suc m < 2 ^ 64 → after n ≡ n + 1
counts n m h = omega arith
