-- What an analysis of a run holds.
use Rattle.std.specs.Prelude.{ℕ, List}
use Rattle.mr_event.specs.Footprint.{Footprint}
use Rattle.mr_rust_order.specs.declared.analysis.Analysis.{Analysis}
use Rattle.mr_rust_order.specs.Channels.{AreChannels, to_joiners, to_lock, to_thread}
use Rattle.mr_rust_order.specs.Marks.{AreMarked}
use Rattle.mr_rust_order.specs.Memos.{AreMemos}
use Rattle.mr_rust_order.specs.Rows.{AreRows}

-- it holds the channels of the first n steps of a run, and their rows, each of which is marked, and memos
pub record Tracks (run : List Footprint) (n : ℕ) (a : Analysis) : Type 0 where
  pub threads : AreChannels run n to_thread a.threads.items
  pub locks : AreChannels run n to_lock a.locks.items
  pub ended : AreChannels run n to_joiners a.ended.items
  pub rows : AreRows run n a.rows.items
  pub marked : AreMarked a.index.shelves.items a.index.marks.keys a.rows.items
  pub memos : AreMemos a.rows.items a.memos.items
