use Rattle.mr_parse.proofs.Common.{sym, arith, err_from_is_err_and, field_form, fields_form, variant_form, variants_form, read}
use Rattle.mr_parse.proofs.Walk.LoopLaws.{comma_pushed_goes_on, comma_pushed_stops, comma_is_done, comma_is_past}
use Rattle.mr_parse.proofs.reader.Reader.+types.Goals as goal

pub some_fields-returns-then-not-is_next : goal.some_fields-returns-then-not-is_next
some_fields-returns-then-not-is_next t c =
    comma_is_done c.args.room c.args.scope.now (λ k. field_form) c.loop.fields c.left-most.result c.loop.counter c.loop.self (read c.args.room c.args.scope.now fields_form c.args.self.now) c.loop.invariant (sym c.if-not-is_next.ensures)

pub some_fields-returns-in_err-fields : goal.some_fields-returns-in_err-fields
some_fields-returns-in_err-fields t c =
    let p = err_from_is_err_and c.from_residual-in_err-fields.result c.from_residual-in_err-fields.ensures.1 in
    rw (p.1, p.2) (comma_pushed_stops c.args.room c.args.scope.now (λ k. field_form) c.loop.fields c.left-most.result c.loop.counter c.loop.self (read c.args.room c.args.scope.now fields_form c.args.self.now) c.loop.invariant
    c.field-in-loop.result c.expect.new.self c.field-in-loop.new.self c.in_err-fields.field-0.0 (omega arith) (sym c.if-not-is_next.ensures) c.in_ok-expect.ensures c.field-in-loop.ensures c.in_err-fields.ensures)

pub some_fields-loop-preserved : goal.some_fields-loop-preserved
some_fields-loop-preserved t c =
    comma_pushed_goes_on c.args.room c.args.scope.now (λ k. field_form) c.loop.fields c.left-most.result c.loop.counter c.loop.self (read c.args.room c.args.scope.now fields_form c.args.self.now) c.loop.invariant
    c.field-in-loop.result c.expect.new.self c.field-in-loop.new.self _ (omega arith) (sym c.if-not-is_next.ensures) c.in_ok-expect.ensures c.field-in-loop.ensures c.in_ok-fields.ensures

pub some_fields-returns : goal.some_fields-returns
some_fields-returns t c =
    comma_is_past c.args.room c.args.scope.now (λ k. field_form) c.loop.fields c.left-most.result c.loop.counter c.loop.self (read c.args.room c.args.scope.now fields_form c.args.self.now) c.loop.invariant (omega arith)

pub some_variants-returns-then-not-is_next : goal.some_variants-returns-then-not-is_next
some_variants-returns-then-not-is_next t c =
    comma_is_done c.args.room c.args.scope.now (λ k. variant_form) c.loop.variants c.left-most.result c.loop.counter c.loop.self (read c.args.room c.args.scope.now variants_form c.args.self.now) c.loop.invariant (sym c.if-not-is_next.ensures)

pub some_variants-returns-in_err-variants : goal.some_variants-returns-in_err-variants
some_variants-returns-in_err-variants t c =
    let p = err_from_is_err_and c.from_residual-in_err-variants.result c.from_residual-in_err-variants.ensures.1 in
    rw (p.1, p.2) (comma_pushed_stops c.args.room c.args.scope.now (λ k. variant_form) c.loop.variants c.left-most.result c.loop.counter c.loop.self (read c.args.room c.args.scope.now variants_form c.args.self.now) c.loop.invariant
    c.variant-in-loop.result c.expect.new.self c.variant-in-loop.new.self c.in_err-variants.field-0.0 (omega arith) (sym c.if-not-is_next.ensures) c.in_ok-expect.ensures c.variant-in-loop.ensures c.in_err-variants.ensures)

pub some_variants-loop-preserved : goal.some_variants-loop-preserved
some_variants-loop-preserved t c =
    comma_pushed_goes_on c.args.room c.args.scope.now (λ k. variant_form) c.loop.variants c.left-most.result c.loop.counter c.loop.self (read c.args.room c.args.scope.now variants_form c.args.self.now) c.loop.invariant
    c.variant-in-loop.result c.expect.new.self c.variant-in-loop.new.self _ (omega arith) (sym c.if-not-is_next.ensures) c.in_ok-expect.ensures c.variant-in-loop.ensures c.in_ok-variants.ensures

pub some_variants-returns : goal.some_variants-returns
some_variants-returns t c =
    comma_is_past c.args.room c.args.scope.now (λ k. variant_form) c.loop.variants c.left-most.result c.loop.counter c.loop.self (read c.args.room c.args.scope.now variants_form c.args.self.now) c.loop.invariant (omega arith)
