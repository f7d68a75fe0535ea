-- The names that most proofs of this crate cite, passed on from one place. Declares nothing.
pub use Rattle.std.proofs.Common.{◌+◌, ◌++◌, ◌<◌, ◌==◌, [], ap, ap₂, arith, Bool, codes, cond, count_by, false, flat_map, get_or, if◌then◌else◌, inl, inr, length, List, nat_lt, None, not, OnOk, Option, refl, slice_get, Some, subst, suc, sym, take, true, ℕ, ◌∙◌, ◌∷◌, ◌≡◌, ◌≤◌}
pub use Rattle.std.proofs.lemmas.Bool.{eq-eqb, ne_eqb}
pub use Rattle.std.specs.List.{Contains, find}
pub use Rattle.mr_event.specs.Footprint.{Footprint}
pub use Rattle.mr_event.specs.declared.footprint.Pair.{Pair}
pub use Rattle.mr_listing.proofs.Appended.{behind, last_behind}
pub use Rattle.mr_listing.specs.Races.{group_line, ranked, same_places}
pub use Rattle.mr_listing.specs.Seen.{Seen, seen}
pub use Rattle.mr_listing.specs.declared.pairs.Group.{Group}
unfoldable pub use Rattle.mr_rust_order.specs.Tests.{rust_races}
pub use Rattle.mr_two_orders.specs.Pairs.{first_of, IsRising, partner}
pub use Rattle.mr_two_orders.specs.Texts.{by_rust, count_in, machine_text}
