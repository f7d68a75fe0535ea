use Rattle.mr_intr.proofs.Common.{List, Some, ap, refl, option_copied, slice_get, Val, int_size, Modify, begun, exchanged}
use Rattle.mr_ast.specs.declared.program.Intrinsic.TheVariants as intrinsic
use Rattle.mr_value.specs.declared.val.Val.TheVariants as val
use Rattle.mr_intr.proofs.AtomicRuns.{does_handed, exchange_read, new_small, place_value}
use Rattle.mr_intr.proofs.OperatedLaws.{done_as, fault_as, memory_fault, memory_went}
use Rattle.mr_intr.proofs.Arguments.{exchange_takes, wide_int}
use Rattle.mr_intr.proofs.atomics.compare_exchange.Goals as goal

pub pointer_at-p-requires : goal.pointer_at-p-requires
pointer_at-p-requires c =
    let takes = exchange_takes c.args.args.now c.requires.0 _ c.requires.1 in
    record { pointer = takes.pointer; is = ap (λ (l : List Val). slice_get l 0) takes.is }

pub bits_at-expected-requires : goal.bits_at-expected-requires
bits_at-expected-requires c =
    let takes = exchange_takes c.args.args.now c.requires.0 _ c.requires.1 in
    record { number = takes.expected; is = ap (λ (l : List Val). slice_get l 1) takes.is; small = wide_int takes.int takes.expected takes.expected_small }

pub bits_at-new-requires : goal.bits_at-new-requires
bits_at-new-requires c =
    let takes = exchange_takes c.args.args.now c.requires.0 _ c.requires.1 in
    record { number = takes.new; is = ap (λ (l : List Val). slice_get l 2) takes.is; small = wide_int takes.int takes.new takes.small }

pub integer_of-requires : goal.integer_of-requires
integer_of-requires c =
    let takes = exchange_takes c.args.args.now c.requires.0 _ c.requires.1 in
    record { int = takes.int; is = takes.gives }

pub exchange-requires : goal.exchange-requires
exchange-requires c = new_small c.args.args.now c.requires.0 (option_copied c.args.place) c.integer_of.result c.bits_at-new.result c.integer_of.ensures c.requires.1 c.bits_at-new.ensures

pub returns-clause-done : goal.returns-clause-done
returns-clause-done c =
    λ types picks x out.
    let s = c.args.s.now in
    let p = c.pointer_at-p.result in
    let int = c.integer_of.result in
    let new = c.exchange.new.s in
    let run = exchange_read c.args.args.now types (option_copied c.args.place) picks (begun s x) p c.pointer_at-p.ensures int c.requires.0 c.integer_of.ensures c.bits_at-expected.result c.bits_at-new.result c.requires.1 c.bits_at-expected.ensures c.bits_at-new.ensures in
    let done = memory_went intrinsic.CompareExchange (Modify p (int_size int) (exchanged c.bits_at-expected.result c.bits_at-new.result)) (λ n. Some (val.Int n)) s x new out c.in_ok-found.found c.in_ok-found.ensures.told (refl, refl) in
    done_as intrinsic.CompareExchange new x out out _ _ run c.quiet.result _ c.quiet.ensures done

pub returns-clause-value : goal.returns-clause-value
returns-clause-value c = place_value (option_copied c.args.place) c.integer_of.result c.in_ok-found.found c.quiet.result c.integer_of.ensures c.quiet.ensures c.in_ok-found.ensures.small

pub returns-in_err-found-clause-done : goal.returns-in_err-found-clause-done
returns-in_err-found-clause-done c =
    λ types picks x out.
    let s = c.args.s.now in
    let p = c.pointer_at-p.result in
    let int = c.integer_of.result in
    let new = c.exchange.new.s in
    let f = c.in_err-found.field-0.0 in
    let run = exchange_read c.args.args.now types (option_copied c.args.place) picks (begun s x) p c.pointer_at-p.ensures int c.requires.0 c.integer_of.ensures c.bits_at-expected.result c.bits_at-new.result c.requires.1 c.bits_at-expected.ensures c.bits_at-new.ensures in
    does_handed intrinsic.CompareExchange c.from_residual.result f _ new x out c.from_residual.ensures.1
    (fault_as intrinsic.CompareExchange new x out out _ _ run f (memory_fault intrinsic.CompareExchange (Modify p (int_size int) (exchanged c.bits_at-expected.result c.bits_at-new.result)) (λ n. Some (val.Int n)) s x new out f c.in_err-found.ensures.told))
