-- The names that most proofs of this crate cite, passed on from one place. Declares nothing.
pub use Rattle.std.proofs.Common.{◌+◌, ◌++◌, ◌-◌, ◌<◌, ◌==◌, [], Any, ap, append-nil, arith, Bool, cond, Contains, drop, Err, false, if◌then◌else◌, inl, inr, length, List, None, Ok, Option, refl, Result, slice_get, slice_set, Some, subst, subst₂, suc, sym, take, true, zero, ℕ, ◌∙◌, ◌∷◌, ◌≡◌, ◌≢◌, ◌≤◌, ◌⊎◌}
pub use Rattle.std.proofs.lemmas.Bool.{both_ways, cases_eq, cases_lt, le-leb}
pub use Rattle.std.proofs.lemmas.List.Elements.{Contains-append_left, Contains-append_right, Contains-push, Contains-push_cases}
pub use Rattle.std.proofs.lemmas.Option.{same_Some}
pub use Rattle.mr_base.proofs.ScriptSwaps.{goes_on, same_state, same_value}
pub use Rattle.mr_base.specs.Script.{◌>>=◌, Ask, Broken, Done, IllFormed, on, Outcome, Refused, run, Undefined, Went}
pub use Rattle.mr_base.specs.declared.access.Access.{Access}
pub use Rattle.mr_base.specs.declared.byte.AbstractByte.{AbstractByte}
pub use Rattle.mr_base.specs.declared.byte.AbstractByte.TheVariants.{Uninit}
pub use Rattle.mr_base.specs.declared.byte.AllocId.{AllocId}
pub use Rattle.mr_base.specs.declared.byte.Kind.{Kind}
pub use Rattle.mr_base.specs.declared.byte.Kind.TheVariants.{Function, Heap, Stack, Static}
pub use Rattle.mr_base.specs.declared.byte.Pointer.{Pointer}
pub use Rattle.mr_base.specs.declared.reached.Reaching.TheVariants.{Changes, Moves, Refers}
pub use Rattle.mr_base.specs.declared.reason.Reason.{Reason}
pub use Rattle.mr_base.specs.declared.reason.Reason.TheVariants.{DanglingReference, DeadAllocation}
pub use Rattle.mr_eval.specs.MemoryQueries.{Allocate, changing, Free, memory_answer, MemoryQuery, MemoryReply, MemoryScript, Modify, next_id, number_bytes, Reading, reading_part, replacing, Write}
pub use Rattle.mr_eval.specs.Reads.{accessing, answered, Check, named, Read, reading, ReadScript, Refer, seeing, Seen, touching}
pub use Rattle.mr_eval.specs.Tally.{seen_of, start_tally, Tally, with_seen}
pub use Rattle.mr_mem.proofs.Identities.{get_here, get_there}
pub use Rattle.mr_mem.specs.Memory.{aligned, allocated, Allocation, bytes_at, checked, found, fresh, inside, is_multiple, kind_number, Memory, read, then_give, written}
unfoldable pub use Rattle.mr_mem.specs.Memory.{free_fault, freed}
pub use Rattle.mr_plan.specs.Places.{AtMemory, byte_at, ByteAt, Covers, header_of, HeaderOf, in_memory, MemoryPlace, ReadsMemory, StoresAt, WritesMemory}
pub use Rattle.mr_plan.specs.Storage.{AreHeld, Slot}
