-- The names that most proofs of this crate cite, passed on from one place. Declares nothing.
pub use Rattle.std.proofs.Common.{◌+◌, ◌++◌, [], ap, append-nil, arith, drop, flat_map, List, map, nat_le, None, Option, refl, Some, subst, suc, sym, zero, ℕ, ◌∙◌, ◌∷◌, ◌≡◌, ◌≤◌}
pub use Rattle.std.specs.List.{filter, range_with_len}
pub use Rattle.mr_labels.specs.Index.{first_holding, has_bytes, is_apart}
pub use Rattle.mr_labels.specs.Names.{function_name, global_name}
pub use Rattle.mr_labels.specs.Table.{found_at, row_at, start_id}
pub use Rattle.mr_labels.specs.declared.rows.Allocation.{Allocation}
