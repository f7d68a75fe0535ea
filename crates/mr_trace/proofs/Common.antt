-- The names that most proofs of this crate cite, passed on from one place. Declares nothing.
pub use Rattle.std.proofs.Common.{◌+◌, ◌++◌, ◌-◌, ◌<◌, ◌==◌, [], ◌^◌, All, ap, append_assoc, arith, Bool, drop, eqb, Err, false, get_or, inl, inr, length, List, nat_le, Ok, refl, Result, subst, suc, sym, take, true, zero, ◌||◌, ℕ, ◌∙◌, ◌∷◌, ◌≡◌, ◌≤◌, ◌⊎◌}
pub use Rattle.std.proofs.lemmas.Bool.{cases_lt, le-ltb, lt-ltb, ne_eqb}
pub use Rattle.std.proofs.lemmas.List.{append-nil, length-append, length-take, take-append-drop, take_all, take_at}
pub use Rattle.std.proofs.lemmas.List.Elements.{All-more, All-nil}
pub use Rattle.std.proofs.lemmas.Result.{err_from_is_err_and, on_ok_weaker}
pub use Rattle.std.specs.Int.{from_bool}
pub use Rattle.std.specs.List.{AllByRecursion, flat_map}
pub use Rattle.mr_base.specs.declared.access.Access.{Access}
pub use Rattle.mr_base.specs.declared.byte.AllocId.{AllocId}
pub use Rattle.mr_base.specs.declared.thread.Event.{Event}
pub use Rattle.mr_base.specs.declared.thread.Event.TheVariants.{Acquire, CreateLock, Join, Quiet, Release, Spawn}
pub use Rattle.mr_event.specs.Footprint.{Footprint}
pub use Rattle.mr_trace.specs.Reading.{◌>>=◌, Fault}
unfoldable pub use Rattle.mr_trace.specs.Reading.{access_at, counted_at, event_at, event_by, identity_at, number_at, races_of, repeated_at, rising_at, run_at, step_at, trace_of, woken_at}
pub use Rattle.mr_trace.specs.Spelling.{access_fields, AccessFits, any, Byte, bytes_in, bytes_of, counted, event_fields, Field, field, Fits, id_fields, IdFits, IsRun, IsWithin, kind_of, list_fields, Long, magic, rising_fields, Size, thread, value_of, woken_fields, Word}
unfoldable pub use Rattle.mr_trace.specs.Spelling.{run_fields, spelling, step_fields, text}
