-- The names that most proofs of this crate cite, passed on from one place. Declares nothing.
pub use Rattle.std.proofs.Common.{◌+◌, ◌++◌, ◌-◌, ◌<◌, [], ap, append_assoc, arith, Bool, cond, drop, drop-drop, Equal, Err, false, get_or, Greater, inl, inr, length, length-append, length-drop, length-take, Less, List, map, min, nat_cmp, None, Ok, OnOk, Option, option_copied, option_map, Ordering, refl, replicate, Result, slice_get, Some, subst, suc, sym, take, take-take, take_all, true, zero, ℕ, ◌∙◌, ◌∷◌, ◌≡◌, ◌≢◌, ◌≤◌, ◌⊎◌, ⊎_elim}
pub use Rattle.std.proofs.lemmas.Bool.{both_ways, cases_eq, cases_lt, cases_order}
pub use Rattle.std.proofs.lemmas.List.{append-nil, drop-append-le, drop-map, drop-replicate, drop_all, get_or_default, length-map, length-replicate, map-append, replicate-append-replicate, take-append-drop, take-append-le, take-map, take-replicate, take_more, with_items_is}
pub use Rattle.std.proofs.lemmas.Option.{same_Some}
pub use Rattle.std.proofs.lemmas.Result.{IfOk-weaker, on_err_weaker, on_ok_weaker}
pub use Rattle.std.specs.BTreeMap.{is_at}
pub use Rattle.std.specs.List.Sorted.{IsStrictlySortedBy}
pub use Rattle.std.specs.Map.{keys_of, values_of}
pub use Rattle.mr_base.specs.declared.byte.AbstractByte.{AbstractByte}
pub use Rattle.mr_base.specs.declared.byte.AbstractByte.TheVariants.{Init, Uninit}
pub use Rattle.mr_base.specs.declared.byte.AllocId.{AllocId}
pub use Rattle.mr_runs.specs.Contents.{marked_piece, piece_of_content}
pub use Rattle.mr_runs.specs.Exchanged.{begins, first_mark, IsBegun, IsEnded, IsExchanged, IsPushed, IsSettled, last_mark, numbers_of, one_piece, staked, together, unstaked}
pub use Rattle.mr_runs.specs.Lent.{IsLent, lent_pieces}
pub use Rattle.mr_runs.specs.Numbers.{AreOf, IsInPlace, number_of, TakesNumbers, with_numbers_at, with_provenance}
pub use Rattle.mr_runs.specs.Pieces.{AreMaximal, bytes_of_piece, bytes_of_pieces, InitPiece, IsApartFrom, mark_of, piece_len, SeenPiece, UninitPiece}
pub use Rattle.mr_runs.specs.Placed.{begun_from, bytes_in, found, Holds, IsPlaced, IsReplaced, IsTiled, total_len}
pub use Rattle.mr_runs.specs.Ranges.{with_range_replaced}
pub use Rattle.mr_runs.specs.Seen.{seen_piece}
pub use Rattle.mr_runs.specs.Stamped.{entries_of, IsApart, IsChanged, IsSame, IsSound, IsStamped, IsStampedAnew, stamped, stamped_entry, stamped_piece, without_number}
pub use Rattle.mr_runs.specs.Windows.{clipped_piece, first_piece, first_pieces, piece_past, pieces_past}
pub use Rattle.mr_runs.specs.declared.kept.Kept.{Kept}
pub use Rattle.mr_runs.specs.declared.kept.Kept.TheVariants.{Split, Whole}
pub use Rattle.mr_runs.specs.declared.mark.Mark.{Mark}
