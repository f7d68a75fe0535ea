-- The names that most proofs of this crate cite, passed on from one place. Declares nothing.
pub use Rattle.std.proofs.Common.{◌+◌, ◌++◌, ◌-◌, ◌<◌, [], ap, arith, Bool, false, get_or, inl, inr, IsTrue, length, List, refl, slice_index_or, subst, suc, sym, take, true, vec_len, zero, ℕ, ◌↔◌, ◌∙◌, ◌∷◌, ◌≡◌, ◌≢◌, ◌≤◌, ◌⊎◌}
pub use Rattle.std.proofs.lemmas.Bool.{and_parts, both_ways, cases_order, false≢true, or_cases, or_left, or_right}
pub use Rattle.std.specs.List.{list_any}
pub use native.Mathlib.Decide.{dec_lt, ℕ_discrete}
pub use Rattle.mr_base.specs.Accesses.{races}
unfoldable pub use Rattle.mr_base.specs.Accesses.{some_conflict, some_race}
pub use Rattle.mr_base.specs.declared.access.Access.{Access}
pub use Rattle.mr_event.specs.Clocks.{AreClocks, Follows, IsClock}
pub use Rattle.mr_event.specs.Footprint.{Footprint}
unfoldable pub use Rattle.mr_event.specs.Footprints.{depends, wakes}
pub use Rattle.mr_event.specs.Order.{Edge, HappensBefore, HasNoPartner, IsGreatestPartner, IsPredicted, IsPredictedBelow, places, RacePair, Races, step_at, Sync, thread_at}
unfoldable pub use Rattle.mr_event.specs.Order.{no_step}
pub use Rattle.mr_event.specs.Order.Edge.{dependent, in_thread, woken}
pub use Rattle.mr_event.specs.Order.HappensBefore.{chain, edge}
pub use Rattle.mr_event.specs.Predicted.{has_edge, predicted_below}
unfoldable pub use Rattle.mr_event.specs.Predicted.{happens_before, predicted, race_pair}
pub use Rattle.mr_event.specs.declared.footprint.Pair.{Pair}
