-- The names that most proofs of this crate cite, passed on from one place. Declares nothing.
pub use Rattle.std.proofs.Common.{◌&&◌, ◌+◌, ◌-◌, ◌<◌, ◌==◌, [], ◌^◌, ap, arith, Bool, cond, Err, false, fold, inl, inr, IsSome, IsSomeAnd, length, List, None, Ok, OnErr, Option, refl, replicate, Result, Some, subst, sym, true, ℕ, ◌∙◌, ◌∷◌, ◌≡◌, ◌≢◌, ◌⊎◌}
pub use Rattle.std.proofs.lemmas.Bool.{and_parts, false_from_ne_true, true≢false}
pub use Rattle.std.proofs.lemmas.Option.{none-some, same_Some}
pub use Rattle.std.specs.Cmp.{nat_cmp_total, tied_itself}
pub use Rattle.std.specs.FinMap.Entries.{below_all, by_order, find, is_sorted, put}
pub use Rattle.std.specs.List.{AllByRecursion}
pub use Rattle.std.specs.Option.{option_copied_mut, option_map}
pub use Rattle.std.specs.Ordering.{eq_by_cmp, is_eq, is_lt, nat_cmp}
pub use Rattle.std.specs.declared.cmp.Ordering.{Ordering}
pub use Rattle.std.specs.declared.cmp.Ordering.TheVariants.{Equal, Greater, Less}
pub use Rattle.mr_base.specs.Pairs.{is_meeting}
pub use Rattle.mr_base.specs.declared.byte.AbstractByte.{AbstractByte}
pub use Rattle.mr_base.specs.declared.byte.AllocId.{AllocId}
pub use Rattle.mr_base.specs.declared.byte.Pointer.{Pointer}
pub use Rattle.mr_mem.specs.Memory.{allocated, Allocation, first_overlapped, found, freed_of, fresh, id_cmp, inside, is_leak, Memory, pick_fault, put_at, Range, Ranges, refusal, then_give, unless, with_range, without_life}
unfoldable pub use Rattle.mr_mem.specs.Memory.{free_fault, freed, range_fault, ranges_of}
pub use Rattle.mr_mem.specs.Spans.{IsFree, IsLeast, IsOverlapped, lesser_of, Puts, span_at, Taken}
pub use Rattle.mr_mem.specs.Stored.{allocation_of, entries_of, IsStored, memory_of}
pub use Rattle.mr_mem.specs.declared.memory.Stored.{Stored}
pub use Rattle.mr_mem.specs.declared.spans.Span.{Span}
