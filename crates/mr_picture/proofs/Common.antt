-- The names that most proofs of this crate cite, passed on from one place. Declares nothing.
pub use Rattle.std.proofs.Common.{◌&&◌, ◌*◌, ◌+◌, ◌++◌, ◌-◌, ◌<◌, ◌==◌, [], ◌^◌, All, ap, append-nil, append_assoc, arith, Bool, codes, decimal, drop, false, flat_map, get_or, IfOk, if◌then◌else◌, inl, inr, IsTrue, length, List, map, max, nat_le, nat_lt, None, not, OnOk, Option, refl, slice_get, Some, subst, suc, sym, take, true, zero, ◌||◌, ℕ, ◌↔◌, ◌∙◌, ◌∷◌, ◌≡◌, ◌≤◌, ◌⊎◌}
pub use Rattle.std.proofs.lemmas.Bool.{and_from, and_parts, cases_Bool, eq-eqb, eqb-true, false≢true, ne_eqb}
pub use Rattle.std.proofs.lemmas.Bool.Decides.{nat_tests}
pub use Rattle.std.proofs.lemmas.List.{drop_all, length-append}
pub use Rattle.std.proofs.lemmas.List.Elements.{All-weaker, Contains-append_cases, Contains-append_right, filter-append}
pub use Rattle.std.specs.List.{Contains, filter, list_any, range_with_len}
pub use Rattle.mr_event.proofs.Ordered.{HappensBefore-before}
pub use Rattle.mr_event.proofs.Tests.{any_range_at, happens_before_is}
pub use Rattle.mr_event.specs.Footprint.{Footprint}
pub use Rattle.mr_event.specs.Order.{Edge, HappensBefore, thread_at}
pub use Rattle.mr_event.specs.Predicted.{greatest_below}
unfoldable pub use Rattle.mr_event.specs.Predicted.{happens_before}
pub use Rattle.mr_event.specs.declared.footprint.Pair.{Pair}
pub use Rattle.mr_listing.specs.Seen.{Seen, seen}
pub use Rattle.mr_rust_order.specs.Tracked.{Tracks}
pub use Rattle.mr_svg.specs.Svg.{Mark}
pub use Rattle.mr_svg.specs.declared.shape.Point.{Point}
pub use Rattle.mr_svg.specs.declared.shape.Shape.TheVariants.{Bend, Diamond, Dot, Square, Words}
pub use Rattle.mr_picture.specs.Arrows.{arrow_from, arrows, arrows_to, lies_between}
pub use Rattle.mr_picture.specs.Column.{column_marks, column_name, column_place, column_race, kept_mark, kept_marks, kept_number, left_mark, left_marks, left_number, left_title, rows_marks}
pub use Rattle.mr_picture.specs.Drawn.{drawn_steps, sketch_of}
pub use Rattle.mr_picture.specs.Ends.{behind_line, first_line, head_marks, line_marks, part_mark, tail_mark, title_mark}
pub use Rattle.mr_picture.specs.Grid.{row_y, rows_end, tail_count}
pub use Rattle.mr_picture.specs.Lanes.{ends, first_that, lane_mark, lane_marks, name_mark, starts}
pub use Rattle.mr_picture.specs.Legend.{arrow_entry, entry, legend_marks, legend_row, middle, race_entry, sample, words_mark}
pub use Rattle.mr_picture.specs.Links.{arrow_between, arrow_mark, beside, corner_of, drawn_races, foot_place, is_wake, race_between, race_mark}
pub use Rattle.mr_picture.specs.Marks.{drawn_marks, round_marks}
pub use Rattle.mr_picture.specs.Picture.{scene_text}
pub use Rattle.mr_picture.specs.Scene.{done_in, IsRace, IsSmall, near_in, race_in, Scene, scene_in, scene_of, Sketch, takes_one}
pub use Rattle.mr_picture.specs.Span.{holds_race, is_in, races_in, steps_in}
pub use Rattle.mr_picture.specs.Steps.{did_mark, mark_of, number_mark, row_marks, stand_mark, step_mark, step_marks}
pub use Rattle.mr_picture.specs.Texts.{cut_at}
pub use Rattle.mr_picture.specs.Way.{leads, next_step, way, way_within}
pub use Rattle.mr_picture.specs.Witness.{is_left_out, is_other, left_out, witness_steps}
pub use Rattle.mr_picture.specs.Written.{as_written}
pub use Rattle.mr_picture.specs.declared.scene.Drawn.{Drawn}
pub use Rattle.mr_picture.specs.declared.span.Span.{Span}
