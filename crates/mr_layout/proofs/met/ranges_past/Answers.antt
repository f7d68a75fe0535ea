use Rattle.mr_layout.proofs.Common.{◌∙◌, arith, nat_le, ◌+◌, ℕ}
use Rattle.std.proofs.Common.{rules}
use Rattle.std.proofs.lemmas.List.{take_rest}
use Rattle.std.proofs.lemmas.List.Sorted.{IsPartitionPoint-from_clause, IsPartitionedBy-leb}
use Rattle.mr_layout.proofs.RunLaws.{ends_rise, past_point}
use Rattle.mr_layout.proofs.met.ranges_past.Goals as goal

pub returns : goal.returns
returns c =
    let parted = IsPartitionedBy-leb (λ (r : ℕ × ℕ). r.0 + r.1) c.args.ranges.now c.args.at (ends_rise 0 c.args.ranges.now c.requires) in
    let point = IsPartitionPoint-from_clause (λ (r : ℕ × ℕ). nat_le (r.0 + r.1) c.args.at) _ _ c.partition_point-first.ensures.partitioned parted (λ a r q k. search rules) in
    take_rest c.args.ranges.now c.partition_point-first.result ∙ past_point c.args.at c.args.ranges.now _ (omega arith) (λ k d l. point.0 k d (omega arith) l) (λ k d l m. point.1 k d l m)
