-- What is kept while steps are placed: of each thread the earliest step that is not.
use Rattle.std.specs.Prelude.{◌≡◌, ◌≢◌, ℕ, ◌<◌, ◌≤◌, ◌^◌, not, List, length, nat_lt}
use Rattle.std.specs.List.{filter}
use Rattle.mr_event.specs.Footprint.{Footprint}
use Rattle.mr_event.specs.Order.{places, thread_at}
use Rattle.mr_clocks.specs.Whole.{AreFronts, front_of}
use Rattle.mr_witness.specs.Shuffled.{above_threads}

-- k is the first step of the thread from a place on, or the number of steps where there is none
pub record IsNextOf (run : List Footprint) (thread from k : ℕ) : Type 0 where
  pub behind : from ≤ k
  pub within : k ≤ length run
  pub own : k < length run → thread_at run k ≡ thread
  pub none : (a : ℕ) → from ≤ a → a < k → thread_at run a ≢ thread

-- the steps that are not placed, in recorded order: those that are not before their thread's front
abbrev pub left_of : List Footprint → List ℕ → List ℕ
left_of run fronts = filter (λ k. not (nat_lt k (front_of run fronts (thread_at run k)))) (places (length run))

-- each thread has a front, which is a step of it or past the run
pub record IsBoard (run : List Footprint) (fronts : List ℕ) : Type 0 where
  pub threads : length fronts ≡ above_threads run
  pub few : length fronts ≤ 2 ^ 32
  pub own : AreFronts run fronts
