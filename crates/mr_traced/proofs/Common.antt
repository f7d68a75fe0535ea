-- The names that most proofs of this crate cite, passed on from one place. Declares nothing.
pub use Rattle.std.proofs.Common.{◌&&◌, ◌+◌, ◌++◌, ◌-◌, ◌<◌, [], ◌^◌, All, ap, ap₂, arith, Bool, Bor, codes, cond, Contains, count_by, decimal, false, flat_map, get_or, IfOk, IfSome, length, List, map, max, None, Ok, Option, refl, Result, slice_get, Some, subst, sym, take, take_all, true, true≢false, ℕ, ◌∙◌, ◌∷◌, ◌≡◌, ◌≤◌}
pub use Rattle.std.proofs.lemmas.List.Elements.{All-contains, All-map}
pub use Rattle.std.proofs.lemmas.Option.{none-some, same_Some}
pub use Rattle.std.specs.BTreeMap.{BTreeMap, get, IsOrdered}
pub use Rattle.std.specs.List.{AllByRecursion, Any, filter, find, range_with_len}
pub use Rattle.std.specs.List.Sorted.{IsStrictlySortedBy}
pub use Rattle.std.specs.Map.{values_of}
pub use Rattle.std.specs.declared.cmp.Ordering.TheVariants.{Equal, Less}
pub use Rattle.mr_event.specs.Footprint.{Footprint}
pub use Rattle.mr_event.specs.declared.footprint.Pair.{Pair}
pub use Rattle.mr_listing.proofs.Appended.{behind, last_behind}
pub use Rattle.mr_listing.specs.declared.pairs.Group.{Group}
pub use Rattle.mr_trace.proofs.TraceLaws.{trace_again}
pub use Rattle.mr_trace.specs.Reading.{Place}
unfoldable pub use Rattle.mr_trace.specs.Reading.{trace_of}
pub use Rattle.mr_traced.specs.Answers.{Tells, TellsBy}
pub use Rattle.mr_traced.specs.Drawn.{drawn_step, drawn_steps, IsPictureText}
pub use Rattle.mr_traced.specs.Groups.{AreGroups, both_cmp, both_of, count_of, group_at, grouped, is_at, raised, same_both}
pub use Rattle.mr_traced.specs.Orders.{count_either, IsOrdersText, machine_text}
pub use Rattle.mr_traced.specs.Places.{name_in, named, site_in}
unfoldable pub use Rattle.mr_traced.specs.Places.{named_of}
pub use Rattle.mr_traced.specs.Races.{group_text, IsRacesText}
pub use Rattle.mr_traced.specs.Seen.{run_in, Seen, seen}
unfoldable pub use Rattle.mr_traced.specs.Seen.{seen_bare, seen_in}
pub use Rattle.mr_traced.specs.Steps.{IsStepsText, step_text}
pub use Rattle.mr_traced.specs.declared.count.Both.{Both}
