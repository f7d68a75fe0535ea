-- What is said of a rule or a reason.
use Rattle.std.specs.Prelude.{ℕ, List}
use Rattle.mr_why.specs.declared.said.Said.{Said}

-- a sentence, what usually causes it, what to do next, and the smallest example
pub record Words : Type 0 where
  pub what : List ℕ
  pub cause : List ℕ
  pub next : List ℕ
  pub example : List ℕ

-- these words, as the code lends them
abbrev pub words_of : Said → Words
words_of s = record { what = s.what.now; cause = s.cause.now; next = s.next.now; example = s.example.now }
