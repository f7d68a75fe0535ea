use Rattle.mr_two_orders.proofs.Common.{◌∙◌, ap, arith, sym, nat_lt, Pair, first_of}
use Rattle.std.proofs.Common.{rules}
use Rattle.std.proofs.lemmas.List.Sorted.{IsPartitionPoint-from_clause, IsPartitionedBy-ltb}
use Rattle.mr_two_orders.proofs.PairLaws.{partner_at, rising_steps}
use Rattle.mr_two_orders.proofs.partner.partner.Goals as goal

pub returns : goal.returns
returns c =
    let pairs = c.args.pairs.now in
    let step = c.args.step in
    let parted = IsPartitionedBy-ltb (λ (p : Pair). p.second) pairs step (rising_steps pairs c.requires) in
    let point = IsPartitionPoint-from_clause (λ (p : Pair). nat_lt p.second step) _ _ c.partition_point-place.ensures.partitioned
    parted (λ a r q k. search rules) in
    c.first_of.ensures ∙ ap (first_of step) c.pair_at.ensures
    ∙ sym (partner_at pairs step c.partition_point-place.result (λ k d l m. point.0 k d (omega arith) l)
    (λ k d l m. point.1 k d l m) c.requires)
