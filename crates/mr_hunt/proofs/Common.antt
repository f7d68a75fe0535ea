-- The names that most proofs of this crate cite, passed on from one place. Declares nothing.
pub use Rattle.std.proofs.Common.{◌&&◌, ◌+◌, ◌++◌, ◌-◌, ◌<◌, ◌==◌, [], ◌^◌, All, ap, ap₂, arith, Bool, codes, cond, false, flat_map, get_or, inl, inr, length, List, map, None, not, Option, refl, Some, subst, suc, sym, take, true, zero, ◌||◌, ℕ, ◌∙◌, ◌∷◌, ◌≡◌, ◌≤◌, ◌⊎◌}
pub use Rattle.std.proofs.lemmas.Result.{IfOk-weaker}
pub use Rattle.std.specs.List.{list_any, range_with_len}
unfoldable pub use Rattle.mr_auto.specs.Drawing.{drawn_schedule}
unfoldable pub use Rattle.mr_auto.specs.StartRuns.{steps_of}
pub use Rattle.mr_event.specs.declared.footprint.Pair.{Pair}
pub use Rattle.mr_replay.specs.Stands.{stands_of}
pub use Rattle.mr_sched.specs.declared.schedule.Schedule.{Schedule}
pub use Rattle.mr_step.specs.PlanRuns.{Config, Printed}
pub use Rattle.mr_hunt.specs.Aims.{aim_of, is_between, is_met, is_print}
pub use Rattle.mr_hunt.specs.Ends.{ends_of, race_at, same_end, verdict_number}
pub use Rattle.mr_hunt.specs.Table.{counted, is_listed, IsTable, joined, new_row, numbers, once, table_of}
pub use Rattle.mr_hunt.specs.declared.counting.Row.{Row}
pub use Rattle.mr_hunt.specs.declared.ends.End.{End}
