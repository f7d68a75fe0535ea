-- The names that most proofs of this crate cite, passed on from one place. Declares nothing.
pub use Rattle.std.proofs.Common.{◌&&◌, ◌+◌, ◌++◌, ◌-◌, ◌<◌, ◌==◌, [], ◌^◌, ap, ap₂, arith, Bool, cond, false, get_or, inl, inr, IsFalse, IsTrue, length, length-append, length-take, List, map, MatchOption, max, nat_lt, None, Option, refl, rules, set, slice_index, Some, subst, suc, sym, take, true, vec_capacity, vec_len, ◌||◌, ℕ, ◌↔◌, ◌∙◌, ◌∷◌, ◌≡◌, ◌≢◌, ◌≤◌, ◌⊎◌}
pub use Rattle.std.proofs.lemmas.Bool.{and_from, and_parts, both_ways, cases_Bool, eq-eqb, eqb-true, false≢true, or_cases, or_left, or_right}
pub use Rattle.std.proofs.lemmas.List.{get_or-map, get_or-set_other, get_or-set_same, get_or-take, get_or_append_left, get_or_default, get_or_push, get_or_read, length-map, length-set, length_push, take-take, take_all}
pub use Rattle.std.proofs.lemmas.List.Elements.{Contains-append_left, Contains-append_right}
pub use Rattle.std.proofs.lemmas.List.Folds.{Any-from_list_any, list_any_at}
pub use Rattle.std.specs.List.{Contains, list_any}
pub use native.Mathlib.Decide.{dec_lt, ℕ_discrete}
pub use Rattle.mr_base.specs.Accesses.{conflicts, overlaps, races}
unfoldable pub use Rattle.mr_base.specs.Accesses.{some_race}
pub use Rattle.mr_base.specs.declared.access.Access.{Access}
pub use Rattle.mr_base.specs.declared.byte.AllocId.{AllocId}
pub use Rattle.mr_base.specs.declared.thread.Event.{Event}
pub use Rattle.mr_base.specs.declared.thread.Event.TheVariants.{Acquire, CreateLock, Join, Quiet, Release, Spawn}
pub use Rattle.mr_event.proofs.Ordered.{any_weaker, Edge-before, HappensBefore-before}
pub use Rattle.mr_event.proofs.Read.{step_read}
pub use Rattle.mr_event.specs.Footprint.{Footprint}
pub use Rattle.mr_event.specs.Footprints.{lock_of, same_number, spawns}
unfoldable pub use Rattle.mr_event.specs.Footprints.{depends, wakes}
pub use Rattle.mr_event.specs.Likeness.{DoTheSame}
pub use Rattle.mr_event.specs.Order.{Edge, HappensBefore, HasNoPartner, RacePair, step_at, Sync, thread_at}
unfoldable pub use Rattle.mr_event.specs.Order.{no_step}
pub use Rattle.mr_event.specs.Order.Edge.{in_thread, woken}
pub use Rattle.mr_event.specs.Order.HappensBefore.{chain, edge}
pub use Rattle.mr_clocks.specs.Clocks.{AreClocks, AreLatest, AreUnder, clock_at, Follows, IsClockOf, IsMade, IsNumbered, IsPart, IsUnder}
pub use Rattle.mr_clocks.specs.Keys.{asks, creates, end_asked, end_noted, event_asked, event_noted, has_row, IsExact, joins, made_keys, range_keys, same_access, same_bool, spawns_some, starts, touched_keys}
pub use Rattle.mr_clocks.specs.Marks.{AreKept, AreMarked, has_mark, IsMarked, IsOnShelf, mark_of, no_shelf, shelf_at}
pub use Rattle.mr_clocks.specs.Memos.{AreMemos, IsMemo, IsMemoOf, memo_at, no_memo}
pub use Rattle.mr_clocks.specs.Rows.{AreAllAsked, AreLinks, AreLonger, ArePartly, ArePlaces, AreRows, HaveKeysOf, IsAsked, IsBelow, IsGrown, IsIn, IsKept, IsListed, IsOfRow, IsPlaceBeyond, IsPlaceKnown, IsPlaceSeen, IsRow, IsRowFor, link_at, no_link, no_row, row_at, step_of}
pub use Rattle.mr_clocks.specs.Skips.{AreAmong, AreSkips, IsServing, IsSkip, IsWalking, skip_at}
pub use Rattle.mr_clocks.specs.Spans.{AreSpansFor, IsReached, span_at, span_of}
pub use Rattle.mr_clocks.specs.Tracked.{IsNext, Tracks}
pub use Rattle.mr_clocks.specs.Wakers.{AreExtended, AreSyncsUnder, AreWakers, wakes_nobody}
pub use Rattle.mr_clocks.specs.Whole.{front_of, IsNeeded, IsNeededBy, IsUpTo}
pub use Rattle.mr_clocks.specs.declared.index.Shelf.{Shelf}
pub use Rattle.mr_clocks.specs.declared.keys.Key.{Key}
pub use Rattle.mr_clocks.specs.declared.keys.Key.TheVariants.{Creation, Joins, Lock, Made, Range, Spawning, Starts, Touched, Wakes}
pub use Rattle.mr_clocks.specs.declared.rows.Link.{Link}
pub use Rattle.mr_clocks.specs.declared.rows.Row.{Row}
pub use Rattle.mr_clocks.specs.declared.spans.Span.{Span}
