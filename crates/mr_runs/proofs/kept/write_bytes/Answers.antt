use Rattle.mr_runs.proofs.Common.{◌≡◌, ◌∙◌, List, length, sym, ap, subst, arith, length-map, on_err_weaker, on_ok_weaker, AbstractByte, number_of, with_provenance, IsChanged}
use Rattle.mr_runs.proofs.KeptLaws.{changed_behind, on_err_always, same_trans}
use Rattle.mr_runs.proofs.kept.write_bytes.Goals as goal

pub put_piece-requires-clause-sound : goal.put_piece-requires-clause-sound
put_piece-requires-clause-sound c = (c.bytes_in_place.ensures.not_done c.if-bytes_in_place.false).sound

pub put_piece-requires-clause-inside : goal.put_piece-requires-clause-inside
put_piece-requires-clause-inside c =
    omega (arith, c.requires.inside, ap length (c.as_slice.ensures.value ∙ c.in_ok-numbers-in-Some.ensures), length-map c.args.bytes.now number_of)

pub put_piece-requires-clause-some : goal.put_piece-requires-clause-some
put_piece-requires-clause-some c =
    omega (arith, c.requires.some, ap length (c.as_slice.ensures.value ∙ c.in_ok-numbers-in-Some.ensures), length-map c.args.bytes.now number_of)

pub put_mixed-requires-clause-sound : goal.put_mixed-requires-clause-sound
put_mixed-requires-clause-sound c = (c.bytes_in_place.ensures.not_done c.if-bytes_in_place.false).sound

pub returns-in_err-numbers-in-Some-clause-err : goal.returns-in_err-numbers-in-Some-clause-err
returns-in_err-numbers-in-Some-clause-err c = on_err_always c.from_residual.result (c.bytes_in_place.ensures.not_done c.if-bytes_in_place.false)

pub returns-in_ok-numbers-in-Some-clause-ok : goal.returns-in_ok-numbers-in-Some-clause-ok
returns-in_ok-numbers-in-Some-clause-ok c =
    let bytes = c.args.bytes.now in
    let before = c.bytes_in_place.ensures.not_done c.if-bytes_in_place.false in
    let same : with_provenance c.in-Some.provenance c.as_slice.result.now ≡ bytes =
    ap (with_provenance c.in-Some.provenance) (c.as_slice.ensures.value ∙ c.in_ok-numbers-in-Some.ensures) ∙ sym c.in-Some.ensures.some.1 in
    on_ok_weaker c.put_piece.result
    (λ changed. changed_behind c.args.kept.now c.bytes_in_place.new.kept c.put_piece.new.kept c.args.len c.args.from bytes before
    (subst (λ (bs : List AbstractByte). IsChanged c.bytes_in_place.new.kept c.put_piece.new.kept c.args.len c.args.from bs) same changed))
    c.put_piece.ensures.ok

pub returns-in_ok-numbers-in-Some-clause-err : goal.returns-in_ok-numbers-in-Some-clause-err
returns-in_ok-numbers-in-Some-clause-err c =
    let before = c.bytes_in_place.ensures.not_done c.if-bytes_in_place.false in
    on_err_weaker c.put_piece.result (λ same. same_trans c.args.kept.now c.bytes_in_place.new.kept c.put_piece.new.kept c.args.len before same) c.put_piece.ensures.err

pub returns-in-None-clause-ok : goal.returns-in-None-clause-ok
returns-in-None-clause-ok c =
    let before = c.bytes_in_place.ensures.not_done c.if-bytes_in_place.false in
    on_ok_weaker c.put_mixed.result
    (λ changed. changed_behind c.args.kept.now c.bytes_in_place.new.kept c.put_mixed.new.kept c.args.len c.args.from c.args.bytes.now before changed)
    c.put_mixed.ensures.ok

pub returns-in-None-clause-err : goal.returns-in-None-clause-err
returns-in-None-clause-err c =
    let before = c.bytes_in_place.ensures.not_done c.if-bytes_in_place.false in
    on_err_weaker c.put_mixed.result (λ same. same_trans c.args.kept.now c.bytes_in_place.new.kept c.put_mixed.new.kept c.args.len before same) c.put_mixed.ensures.err
