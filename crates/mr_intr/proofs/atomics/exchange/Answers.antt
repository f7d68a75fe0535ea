use Rattle.mr_intr.proofs.Common.{int_size, seen, tally_of, exchanged}
use Rattle.mr_intr.proofs.AtomicRuns.{exchange_made, handed_on, modify_fault, modify_unstored}
use Rattle.mr_intr.proofs.atomics.exchange.Goals as goal

pub returns-in_err-found-clause-told : goal.returns-in_err-found-clause-told
returns-in_err-found-clause-told c =
    let s = c.args.s.now in
    handed_on c.from_residual.result c.in_err-found.field-0.0 _ _ _ c.from_residual.ensures.1
    (modify_fault s.memory (tally_of s) c.args.p (int_size c.args.int) (exchanged c.args.expected c.args.new) c.in_err-found.field-0.0 (seen c.load_number.new.notes) _ c.load_number.new.notes.refused c.in_err-found.ensures.told)

pub returns-in_err-store_number-clause-told : goal.returns-in_err-store_number-clause-told
returns-in_err-store_number-clause-told c =
    let s = c.args.s.now in
    let k = c.in_ok-found.found in
    let f = c.in_err-store_number.field-0.0 in
    handed_on c.from_residual-in_err-store_number.result f _ _ _ c.from_residual-in_err-store_number.ensures.1
    (modify_unstored s.memory (tally_of s) c.args.p (int_size c.args.int) (exchanged c.args.expected c.args.new) k (seen c.load_number.new.notes) c.in_ok-found.ensures.told c.args.new
    (exchange_made c.args.expected c.args.new k c.if-found-expected.true) f c.store_number.new.m (seen c.store_number.new.notes) _ c.store_number.new.notes.refused c.in_err-store_number.ensures)
