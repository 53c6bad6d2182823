-- `arri_mini::encoder_at` meets its contract: its test is the definition's.
use Rattle.std.proofs.Common.{rules}
use Rattle.arri_mini.specs.Dynamic.{encoder_at}
use Rattle.arri_mini.proofs.encoder_at.Goals as goal

pub returns-then-v-eq65535 : goal.returns-then-v-eq65535
unfolding encoder_at
returns-then-v-eq65535 c = search rules

pub returns : goal.returns
unfolding encoder_at
returns c = search rules
