use Rattle.mr_lex.proofs.Common.{sym, ap, ◌∙◌, subst, inr, arith, Ok, Err, lexed, Gives}
use Rattle.mr_lex.proofs.ReadingLaws.{lexes_lexed, fault_lexed}
use Rattle.mr_lex.proofs.ScanLaws.{is_next, scanned_next, scanned_lexes, scanned_stops}
use Rattle.mr_lex.proofs.scan.scan.Goals as goal

pub returns-in-Err : goal.returns-in-Err
returns-in-Err c =
    let text = c.args.text.now in
    let place = c.loop-place.place in
    let stop = scanned_stops text c.loop-place.spans.items place c.in-Err.code c.requires c.loop-place.invariant c.loop-place-test.true c.in-Err.ensures in
    subst (λ fault. Gives (Err fault) (lexed text)) (sym c.fault.ensures) (fault_lexed text _ (inr stop))

pub behind-place-requires-clause-some : goal.behind-place-requires-clause-some
behind-place-requires-clause-some c =
    (is_next c.args.text.now c.loop-place.place.at c.in-Ok.found c.loop-place-test.true c.in-Ok.ensures).some

pub behind-place-requires-clause-one_line : goal.behind-place-requires-clause-one_line
behind-place-requires-clause-one_line c =
    (is_next c.args.text.now c.loop-place.place.at c.in-Ok.found c.loop-place-test.true c.in-Ok.ensures).one_line

pub loop-place-smaller : goal.loop-place-smaller
loop-place-smaller c =
    let next = is_next c.args.text.now c.loop-place.place.at c.in-Ok.found c.loop-place-test.true c.in-Ok.ensures in
    omega (arith, c.behind-place.ensures.at, next.some, next.within)

pub loop-place-preserved : goal.loop-place-preserved
loop-place-preserved c =
    let next = is_next c.args.text.now c.loop-place.place.at c.in-Ok.found c.loop-place-test.true c.in-Ok.ensures in
    scanned_next c.args.text.now c.loop-place.spans.items c.loop-place.place c.in-Ok.found _ c.behind-place.result
    c.loop-place.invariant next c.in_ok-add_token.ensures.ok c.behind-place.ensures.at c.behind-place.ensures.placed

pub returns : goal.returns
returns c =
    let text = c.args.text.now in
    let lexes = scanned_lexes text c.loop-place.spans.items c.loop-place.place c.requires c.loop-place.invariant c.loop-place-test.false in
    lexes_lexed text _ lexes ∙ ap Ok (sym c.new.ensures)
