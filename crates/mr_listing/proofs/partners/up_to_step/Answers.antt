use Rattle.mr_listing.proofs.Common.{arith, rules, nat_le, IsPartitionPoint-from_clause, IsPartitionedBy-leb, Partner}
use Rattle.mr_listing.proofs.PartnerLaws.{passing}
use Rattle.mr_listing.proofs.partners.up_to_step.Goals as goal

pub returns : goal.returns
returns c =
    let parted = IsPartitionedBy-leb (λ (p : Partner). p.step) c.args.sorted.now c.args.number c.requires in
    let point = IsPartitionPoint-from_clause (λ (p : Partner). nat_le p.step c.args.number) _ _
    c.partition_point-end.ensures.partitioned parted (λ a r q k. search rules) in
    passing (λ (p : Partner). nat_le p.step c.args.number) c.args.sorted.now c.partition_point-end.result
    (λ k d l m. point.0 k d (omega arith) l) (λ k d l m. point.1 k d l m)
