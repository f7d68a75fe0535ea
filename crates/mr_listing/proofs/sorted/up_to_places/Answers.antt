use Rattle.mr_listing.proofs.Common.{arith, rules, nat_le, IsPartitionPoint-from_clause, IsPartitionedBy-leb, seen, place_index, Numbered}
use Rattle.mr_listing.proofs.PartnerLaws.{passing}
use Rattle.mr_listing.proofs.sorted.up_to_places.Goals as goal

pub returns : goal.returns
returns c =
    let s = seen c.args.shown.now in
    let parted = IsPartitionedBy-leb (place_index s c.args.pair) c.args.sorted.now 1 c.requires in
    let point = IsPartitionPoint-from_clause (λ (n : Numbered). nat_le (place_index s c.args.pair n) 1) _ _
    c.partition_point-end.ensures.partitioned parted (λ a r q k. search rules) in
    passing (λ (n : Numbered). nat_le (place_index s c.args.pair n) 1) c.args.sorted.now c.partition_point-end.result
    (λ k d l m. point.0 k d (omega arith) l) (λ k d l m. point.1 k d l m)
