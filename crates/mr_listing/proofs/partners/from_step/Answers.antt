use Rattle.mr_listing.proofs.Common.{◌∙◌, arith, rules, nat_lt, take_rest, IsPartitionPoint-from_clause, IsPartitionedBy-ltb, Partner}
use Rattle.mr_listing.proofs.PartnerLaws.{failing}
use Rattle.mr_listing.proofs.partners.from_step.Goals as goal

pub returns : goal.returns
returns c =
    let parted = IsPartitionedBy-ltb (λ (p : Partner). p.step) c.args.sorted.now c.args.number c.requires in
    let point = IsPartitionPoint-from_clause (λ (p : Partner). nat_lt p.step c.args.number) _ _
    c.partition_point-first.ensures.partitioned parted (λ a r q k. search rules) in
    take_rest c.args.sorted.now c.partition_point-first.result
    ∙ failing (λ (p : Partner). nat_lt p.step c.args.number) c.args.sorted.now c.partition_point-first.result
    (λ k d l m. point.0 k d (omega arith) l) (λ k d l m. point.1 k d l m)
