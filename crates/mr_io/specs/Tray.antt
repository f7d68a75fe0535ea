-- Bytes taken in memory, with a limit to each write and to all of them.
use Rattle.std.specs.Prelude.{ℕ, List}

-- the bytes taken so far, the most that are ever taken, the most that one write takes, and how many writes failed
pub record TrayState : Type 0 where
  pub taken : List ℕ
  pub room : ℕ
  pub step : ℕ
  pub faults : ℕ
