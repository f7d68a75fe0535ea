-- The names that most proofs of this crate cite, passed on from one place. Declares nothing.
pub use Rattle.std.proofs.Common.{◌+◌, ◌++◌, ◌-◌, ◌<◌, ◌==◌, [], ap, ap₂, arith, Bool, codes, decimal, false, flat_map, get_or, if◌then◌else◌, length, List, map, None, Ok, OnOk, Option, option_copied, refl, slice_get, Some, subst, suc, sym, take, zero, ℕ, ◌∙◌, ◌∷◌, ◌≡◌, ◌≤◌}
pub use Rattle.std.proofs.lemmas.List.{map-append, take_more}
pub use Rattle.std.specs.List.{find, range_with_len}
pub use Rattle.mr_labels.proofs.Growing.{appended_next}
pub use Rattle.mr_sched.specs.declared.schedule.Entry.{Entry}
pub use Rattle.mr_step.specs.Answers.{fault_of}
pub use Rattle.mr_step.specs.FrameFrames.{Look}
pub use Rattle.mr_step.specs.PlanLegal.{Fault}
pub use Rattle.mr_step.specs.PlanMachine.{needs, State}
pub use Rattle.mr_step.specs.Standing.{Standing}
pub use Rattle.mr_step.specs.StartRuns.{program_fault}
pub use Rattle.mr_step.specs.ThreadSteps.{Own, thread_step}
pub use Rattle.mr_next.specs.Culprits.{breaks_with, culprit_of, is_of_pick}
pub use Rattle.mr_next.specs.Prospects.{prospect_in, want_of}
pub use Rattle.mr_next.specs.Texts.{numbered_text, numbered_thread, numbered_want}
