use Rattle.mr_labels.proofs.Common.{◌∙◌, arith, nat_le, ◌+◌, Allocation}
use Rattle.std.proofs.Common.{rules}
use Rattle.std.proofs.lemmas.List.{take_rest}
use Rattle.std.proofs.lemmas.List.Sorted.{IsPartitionPoint-from_clause, IsPartitionedBy-leb}
use Rattle.mr_labels.proofs.IndexLaws.{ends_rise, past_point}
use Rattle.mr_labels.proofs.index.rows_past.Goals as goal

pub returns : goal.returns
returns c =
    let parted = IsPartitionedBy-leb (λ (r : Allocation). r.start + r.size) c.args.index.now c.args.addr
    (ends_rise 0 c.args.index.now c.requires) in
    let point = IsPartitionPoint-from_clause (λ (r : Allocation). nat_le (r.start + r.size) c.args.addr) _ _
    c.partition_point-first.ensures.partitioned parted (λ a r q k. search rules) in
    take_rest c.args.index.now c.partition_point-first.result
    ∙ past_point c.args.addr c.args.index.now _ (omega arith) (λ k d l. point.0 k d (omega arith) l)
    (λ k d l m. point.1 k d l m)
