-- What was found for late accesses. The ranges of rows never change, so a memo serves until a row comes, and
-- then for all rows but those that came.
use Rattle.std.specs.Prelude.{◌≡◌, ℕ, ◌<◌, ◌≤◌, List, length, slice_index_or, IsTrue}
use Rattle.mr_base.specs.Accesses.{conflicts}
use Rattle.mr_rust_order.specs.declared.memos.Memo.{Memo}
use Rattle.mr_rust_order.specs.declared.rows.Row.{Row}
use Rattle.mr_rust_order.specs.Marks.{IsListed}
use Rattle.mr_rust_order.specs.Rows.{row_at}

-- a memo has the rows that conflict with its access, of the first ones that it counts
pub record IsMemo (rows : List Row) (m : Memo) : Type 0 where
  pub within : m.count ≤ length rows
  pub met : (x : ℕ) → x < m.count → IsTrue (conflicts (row_at rows x).range m.access) → IsListed m.found.items x

-- as many memos as there are places for them
pub record AreMemos (rows : List Row) (memos : List Memo) : Type 0 where
  pub room : 1024 ≤ length memos
  pub each : (s : ℕ) (d : Memo) → s < length memos → IsMemo rows (slice_index_or memos s d)
