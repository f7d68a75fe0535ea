use Rattle.mr_parse.proofs.Common.{sym, arith, codes, err_from_is_err_and, global_form, globals_form, is_word, read}
use Rattle.mr_parse.proofs.Walk.LoopLaws.{goes_on, stops, is_done, is_past}
use Rattle.mr_parse.proofs.program.globals.Goals as goal

pub returns-then-not-is_next : goal.returns-then-not-is_next
returns-then-not-is_next c =
    is_done (λ k. read c.args.room c.args.scope.now (global_form k)) (is_word (codes "global")) c.loop-k.globals c.turns-most.result c.loop-k.k c.loop-k.reader (read c.args.room c.args.scope.now globals_form c.args.reader.now) c.loop-k.invariant (sym c.if-not-is_next.ensures)

pub returns-in_err-global : goal.returns-in_err-global
returns-in_err-global c =
    let p = err_from_is_err_and c.from_residual.result c.from_residual.ensures.1 in
    rw (p.1, p.2) (stops (λ k. read c.args.room c.args.scope.now (global_form k)) (is_word (codes "global")) c.loop-k.globals c.turns-most.result c.loop-k.k c.loop-k.reader (read c.args.room c.args.scope.now globals_form c.args.reader.now) c.loop-k.invariant
    c.in_err-global.field-0.0 (omega arith) (sym c.if-not-is_next.ensures) c.in_err-global.ensures)

pub loop-k-preserved : goal.loop-k-preserved
loop-k-preserved c =
    rw c.in_ok-push.ensures.ok (goes_on (λ k. read c.args.room c.args.scope.now (global_form k)) (is_word (codes "global")) c.loop-k.globals c.turns-most.result c.loop-k.k c.loop-k.reader (read c.args.room c.args.scope.now globals_form c.args.reader.now) c.loop-k.invariant
    c.in_ok-global.field-0 c.global.new.reader (omega arith) (sym c.if-not-is_next.ensures) c.in_ok-global.ensures)

pub returns : goal.returns
returns c =
    is_past (λ k. read c.args.room c.args.scope.now (global_form k)) (is_word (codes "global")) c.loop-k.globals c.turns-most.result c.loop-k.k c.loop-k.reader (read c.args.room c.args.scope.now globals_form c.args.reader.now) c.loop-k.invariant (omega arith)
