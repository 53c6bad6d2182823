-- L11's sentences hold. Assumes nothing.
use mathlib.Core.Path.{sym}
use Rattle.shared_index.proofs.Laws.{set-over}
use Rattle.shared_lists.specs.Shares.{Shares}
use Rattle.shared_lists.proofs.Rooms.{shares_exactly, close_frees}
use Rattle.shared_lists.proofs.Keeps.{own-more, other-kept, close_leaves}
use Rattle.shared_lists.proofs.Sees.{find_is, find_answers, find_alike, number_alike, never_full, full_when, full-only}
use Rattle.shared_lists.proofs.Layouts.{refused_leaves, scripts_same}

pub shares : Shares
shares = record {
  set-up = shares_exactly;
  not-set-up = λ whole a c h. sym (set-over whole a c h);
  below = never_full;
  full-only = full-only;
  full_when = full_when;
  own = own-more;
  other = other-kept;
  left = refused_leaves;
  closed = close_leaves;
  freed = close_frees;
  answers = λ l r b m file o pos. (find_is l r b m file o pos, find_answers l r b m file o pos);
  asked_alike = find_alike;
  added_alike = number_alike;
  in-columns = scripts_same;
}
