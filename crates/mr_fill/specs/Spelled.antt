-- What a word of an order spells, by its bytes.
use Rattle.std.specs.Prelude.{◌≡◌, ℕ, List, ◌∷◌, ◌++◌, None, Some}
use Rattle.mr_fill.specs.Orders.{count_of, thread_of, turn_on}
use Rattle.mr_fill.specs.declared.order.Turns.{Turns}

-- `T` is one turn of thread T; `T*N` so many, once at least; and in `T>W` thread W gets the lock that the
-- step gives up.
pub data Spells (line : ℕ) : List ℕ → Turns → Type 0 where
  one :
      (t : List ℕ) (thread : ℕ) → thread_of t ≡ Some thread
      → Spells line t (record { turn = turn_on line thread None; count = 1 })
  many :
      (t n : List ℕ) (thread count : ℕ) → thread_of t ≡ Some thread → count_of n ≡ Some count
      → Spells line (t ++ 42 ∷ n) (record { turn = turn_on line thread None; count = count })
  gives :
      (t w : List ℕ) (thread receiver : ℕ) → thread_of t ≡ Some thread → thread_of w ≡ Some receiver
      → Spells line (t ++ 62 ∷ w) (record { turn = turn_on line thread (Some receiver); count = 1 })
