-- Memos: what was found for earlier steps, so that a step that does the same needs no search, whomever it woke. A memo
-- has a step, a stamp, the places of all rows that the step asks but those of its own thread alone, and of those in
-- which it is noted. The stamp is one more than the number of rows that there were, which keep their keys, and their
-- threads where the keys aren't shared, or 0 where there is no step.
use Rattle.std.specs.Prelude.{◌≡◌, ℕ, ◌+◌, ◌<◌, ◌≤◌, List, [], length, slice_index_or, IsTrue}
use Rattle.mr_event.specs.Footprint.{Footprint}
use Rattle.mr_event.specs.Order.{no_step}
use Rattle.mr_clocks.specs.declared.rows.Row.{Row}
use Rattle.mr_clocks.specs.Keys.{asks}
use Rattle.mr_clocks.specs.Rows.{AreAllAsked, ArePlaces, IsListed, IsOwn, row_at}

-- what stands past the end of the memos
abbrev pub no_memo : Footprint × ℕ × List ℕ × List ℕ
no_memo = (no_step, 0, [], [])

abbrev pub memo_at : List (Footprint × ℕ × List ℕ × List ℕ) → ℕ → Footprint × ℕ × List ℕ × List ℕ
memo_at memos x = slice_index_or memos x no_memo

-- a memo tells all rows that a step asks, and those in which it is noted
pub record IsMemoOf (rows : List Row) (step : Footprint) (memo : Footprint × ℕ × List ℕ × List ℕ) : Type 0 where
  pub stamp : memo.1 ≡ length rows + 1
  pub asked : AreAllAsked step rows memo.2
  pub noted : ArePlaces step rows memo.3

-- a memo isn't newer than the rows, and is one of its step among the rows that there were
pub record IsMemo (rows : List Row) (memo : Footprint × ℕ × List ℕ × List ℕ) : Type 0 where
  pub low : memo.1 ≤ length rows + 1
  pub asked : (x : ℕ) → x + 1 < memo.1 → (IsOwn (row_at rows x) memo.0.thread → ⊥)
      → IsTrue (asks memo.0 (row_at rows x).key) → IsListed memo.2 x
  pub noted : 0 < memo.1 → ArePlaces memo.0 rows memo.3

abbrev pub AreMemos : List Row → List (Footprint × ℕ × List ℕ × List ℕ) → Type 0
AreMemos rows memos = (x : ℕ) → x < length memos → IsMemo rows (memo_at memos x)
