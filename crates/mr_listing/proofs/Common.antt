-- The names that most proofs of this crate cite, passed on from one place. Declares nothing.
pub use Rattle.std.proofs.Common.{◌&&◌, ◌+◌, ◌++◌, ◌<◌, ◌==◌, [], All, ap, append-nil, append_assoc, ap₂, arith, Bool, codes, cond, decimal, drop, false, flat_map, get_or, if◌then◌else◌, length, List, map, min, nat_le, nat_lt, None, not, OnOk, Option, option_copied, refl, rules, slice_get, Some, subst, suc, sym, take, true, zero, ◌||◌, ℕ, ◌∙◌, ◌∷◌, ◌≡◌, ◌≤◌}
pub use Rattle.std.proofs.lemmas.Bool.Decides.{nat_tests}
pub use Rattle.std.proofs.lemmas.List.{take_more, take_rest}
pub use Rattle.std.proofs.lemmas.List.Elements.{filter_agree}
pub use Rattle.std.proofs.lemmas.List.Sorted.{IsPartitionedBy-leb, IsPartitionedBy-ltb, IsPartitionPoint-from_clause, ranks_by}
pub use Rattle.std.specs.Cmp.{IsStrictWeakOrder}
pub use Rattle.std.specs.List.{filter, list_any, prefix_len, range_with_len}
pub use Rattle.std.specs.List.Sorted.{IsNonDecreasingBy, IsPermutation, IsSortedBy, IsStableBy, ties}
pub use Rattle.std.specs.Ordering.{is_eq, is_lt, nat_cmp}
pub use Rattle.mr_event.specs.declared.footprint.Pair.{Pair}
pub use Rattle.mr_labels.proofs.Growing.{appended_next}
pub use Rattle.mr_labels.specs.declared.step.Stand.{Stand}
pub use Rattle.mr_listing.specs.Accesses.{bytes_text, line_at}
pub use Rattle.mr_listing.specs.Freed.{freed_pairs, id_pair}
pub use Rattle.mr_listing.specs.Partners.{ArePartners, partner_line, partners_at}
pub use Rattle.mr_listing.specs.Races.{before_of, by_count, first_group, group_of, groups, numbered_group, same_places, same_stand}
pub use Rattle.mr_listing.specs.Seen.{Seen, seen}
pub use Rattle.mr_listing.specs.Sorted.{place_index, with_numbers}
pub use Rattle.mr_listing.specs.Spots.{cut_text, is_inside, spot_text, statement_text}
pub use Rattle.mr_listing.specs.Steps.{print_line}
pub use Rattle.mr_listing.specs.declared.pairs.Group.{Group}
pub use Rattle.mr_listing.specs.declared.partners.Partner.{Partner}
pub use Rattle.mr_listing.specs.declared.sorted.Numbered.{Numbered}
