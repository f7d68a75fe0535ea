-- The names that most proofs of this crate cite, passed on from one place. Declares nothing.
pub use Rattle.std.proofs.Common.{◌&&◌, ◌+◌, ◌++◌, ◌-◌, ◌<◌, ◌==◌, [], ◌^◌, All, ap, arith, Bool, cond, false, get_or, inl, inr, IsTrue, length, List, MatchOption, max, nat_le, None, not, OnOk, Option, refl, set, slice_index, Some, subst, suc, sym, take, true, zero, ◌||◌, ℕ, ◌↔◌, ◌∙◌, ◌∷◌, ◌≡◌, ◌≢◌, ◌≤◌, ◌⊎◌}
pub use Rattle.std.proofs.lemmas.Bool.{and_from, and_parts, both_ways, eq-eqb, false≢true, le-leb, leb-true, lt-ltb, ltb-true, ne_eqb, not-true, or_cases, or_left, or_right}
pub use Rattle.std.proofs.lemmas.List.{get_or-set_other, get_or-set_same, get_or_append_left, get_or_push, get_or_read, length-set, length_push, take_all, take_more}
pub use Rattle.std.proofs.lemmas.Result.{on_ok_weaker}
pub use Rattle.std.specs.List.{Contains, list_any}
pub use native.Mathlib.Decide.{dec_lt, ℕ_discrete}
pub use Rattle.mr_base.specs.Accesses.{conflicts, overlaps, races}
unfoldable pub use Rattle.mr_base.specs.Accesses.{some_conflict, some_race}
pub use Rattle.mr_base.specs.declared.access.Access.{Access}
pub use Rattle.mr_base.specs.declared.thread.Event.{Event}
pub use Rattle.mr_base.specs.declared.thread.Event.TheVariants.{Acquire, CreateLock, Join, Quiet, Release, Spawn}
pub use Rattle.mr_event.specs.Footprint.{Footprint}
pub use Rattle.mr_event.specs.Footprints.{spawns}
unfoldable pub use Rattle.mr_event.specs.Footprints.{wakes}
pub use Rattle.mr_event.specs.Order.{step_at, thread_at}
pub use Rattle.mr_event.specs.declared.footprint.Pair.{Pair}
pub use Rattle.mr_rust_order.specs.Channels.{AreChannels, AreSent, clock_at, IsThreadClock, to_joiners, to_lock, to_thread, told_by}
pub use Rattle.mr_rust_order.specs.Clocks.{IsClockBefore, IsClockBehind, IsJoin, IsRaised, IsUnder, Reaches}
pub use Rattle.mr_rust_order.specs.Loads.{AreJoined, AreMet, counts, is_load, IsLatestStore, IsReadOf, takes}
pub use Rattle.mr_rust_order.specs.Marks.{AreKept, AreMarked, has_mark, IsListed, IsMarked, IsOnShelf, IsPlaceFor, mark_of, no_shelf, shelf_at}
pub use Rattle.mr_rust_order.specs.Memos.{AreMemos, IsMemo}
pub use Rattle.mr_rust_order.specs.Order.{AreRaces, AreRacesBelow, Edge, HappensBefore, has_byte, HasNoRace, is_atomic_load, is_atomic_store, is_plain_store, is_store, IsGreatestRace, IsRace, IsReadBy, Makes, releases}
pub use Rattle.mr_rust_order.specs.Order.Edge.{handed_over, in_thread, joined, started, stored}
pub use Rattle.mr_rust_order.specs.Order.HappensBefore.{chain, edge}
pub use Rattle.mr_rust_order.specs.Partners.{is_partner, IsPartnerBy}
pub use Rattle.mr_rust_order.specs.Rows.{AreNoted, AreRows, IsPut, IsRow, IsTop, Passes, row_at}
pub use Rattle.mr_rust_order.specs.Tracked.{Tracks}
pub use Rattle.mr_rust_order.specs.declared.index.Mark.{Mark}
pub use Rattle.mr_rust_order.specs.declared.index.Shelf.{Shelf}
pub use Rattle.mr_rust_order.specs.declared.memos.Memo.{Memo}
pub use Rattle.mr_rust_order.specs.declared.rows.Row.{Row}
