-- The names that most proofs of this crate cite, passed on from one place. Declares nothing.
pub use Rattle.std.proofs.Common.{◌&&◌, ◌+◌, ◌++◌, ◌<◌, [], ◌^◌, ap, append_assoc, arith, Bool, bytes_eq, codes, cond, decimal, drop, eqb, Err, false, flat_map, get_or, IfOk, if◌then◌else◌, inl, inr, length, List, ltb, map, None, not, Ok, Option, option_and_then, option_copied, option_map, refl, replicate, Result, slice_index_or, Some, subst, suc, sym, take, true, zero, ℕ, ◌∙◌, ◌∷◌, ◌≡◌, ◌≢◌, ◌≤◌, ◌⊎◌}
pub use Rattle.std.proofs.lemmas.Bool.{and_parts, cases_Bool, cases_lt, eq-eqb, eqb-false, eqb-true, false≢true, le-ltb, lt-ltb, ltb-false, ltb-true, ne_eqb, not-true}
pub use Rattle.std.proofs.lemmas.Fmt.{decimal_digit, decimal_is_IsNumeral}
pub use Rattle.std.proofs.lemmas.List.{append-nil, nil_from_length}
pub use Rattle.std.proofs.lemmas.Option.{cond_some}
pub use Rattle.std.specs.List.{AllByRecursion, join_with_byte}
pub use Rattle.std.specs.Str.Parse.{AllDigits, digits_value}
pub use Rattle.mr_sched.specs.Faults.{IsUnbroken, Lines}
pub use Rattle.mr_sched.specs.Reading.{Fault, Gives, header_then, line_then, on_entries, parts_after, parts_at, starred_of, start_then, version_of}
unfoldable pub use Rattle.mr_sched.specs.Reading.{body_of, entries_from, entry_of, group_of, lines_schedule, number_of, picks_of, start_of}
pub use Rattle.mr_sched.specs.Spelling.{ended, entry_line, EntryFits, Extends, spaced, start_line}
pub use Rattle.mr_sched.specs.Versions.{are_together, AreLines, begun_to, entries_in, entry_count, group_line, GroupFits, groups_behind, groups_of, groups_text, header_in, is_joined, joins, last_entry, line_in}
unfoldable pub use Rattle.mr_sched.specs.Versions.{text_in}
pub use Rattle.mr_sched.specs.declared.fault.TheConstants.{BAD_LINE, TOO_LONG}
pub use Rattle.mr_sched.specs.declared.schedule.Entry.{Entry}
pub use Rattle.mr_sched.specs.declared.version.Group.{Group}
pub use Rattle.mr_sched.specs.declared.version.Version.{Version}
pub use Rattle.mr_sched.specs.declared.version.Version.TheVariants.{One, Two}
