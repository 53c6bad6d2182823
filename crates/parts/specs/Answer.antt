-- What a call that looks for one thing says, either way with the number 0: docs/RULES.md, "What a call can say".

pub data Answer (A : Type 0) : Type 0 where
  is : A → Answer A
  none : Answer A
