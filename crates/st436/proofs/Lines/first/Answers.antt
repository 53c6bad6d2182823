-- `st436::Lines::first` meets its contract: lines follow the count.
use Rattle.st436.proofs.Lines.first.Goals as goal

pub returns : goal.returns
returns c = cc
