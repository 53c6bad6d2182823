-- `outline_lines::add_item` adds the level, the key and the length, with what stands between them.
use Rattle.outline_lines.specs.Lines.{item_line}
use Rattle.outline_lines.proofs.Adding.{◌▸◌}
use Rattle.outline_lines.proofs.add_item.Goals as goal

pub returns : goal.returns
unfolding item_line
returns c =
    c.add_decimal-a.ensures ▸ c.add_all-b.ensures ▸ c.add_hex-c.ensures ▸ c.add_all-d.ensures ▸ c.add_decimal-e.ensures ▸ c.add_all.ensures
