use Rattle.mr_runs.proofs.Common.{on_err_weaker, on_ok_weaker, bytes_of_piece, seen_piece}
use Rattle.mr_runs.proofs.KeptLaws.{changed_behind, on_err_always, same_trans}
use Rattle.mr_runs.proofs.kept.put_piece.Goals as goal

pub set_apart-requires : goal.set_apart-requires
set_apart-requires c = (c.in_ok-put_if_whole.ensures.not_done c.if-branch.false).sound

pub put_if_apart-requires-clause-sound : goal.put_if_apart-requires-clause-sound
put_if_apart-requires-clause-sound c = c.in_ok-set_apart.ensures.same.sound

pub returns-in_err-set_apart-clause-err : goal.returns-in_err-set_apart-clause-err
returns-in_err-set_apart-clause-err c =
    on_err_always c.from_residual-in_err-set_apart.result
    (same_trans c.args.kept.now c.put_if_whole.new.kept c.set_apart.new.kept c.args.len (c.in_ok-put_if_whole.ensures.not_done c.if-branch.false) c.in_err-set_apart.ensures.same)

pub returns-clause-ok : goal.returns-clause-ok
returns-clause-ok c =
    let before = same_trans c.args.kept.now c.put_if_whole.new.kept c.set_apart.new.kept c.args.len (c.in_ok-put_if_whole.ensures.not_done c.if-branch.false) c.in_ok-set_apart.ensures.same in
    on_ok_weaker c.put_if_apart.result
    (λ changed. changed_behind c.args.kept.now c.set_apart.new.kept c.put_if_apart.new.kept c.args.len c.args.from (bytes_of_piece (seen_piece c.args.piece)) before changed)
    c.put_if_apart.ensures.ok

pub returns-clause-err : goal.returns-clause-err
returns-clause-err c =
    let before = same_trans c.args.kept.now c.put_if_whole.new.kept c.set_apart.new.kept c.args.len (c.in_ok-put_if_whole.ensures.not_done c.if-branch.false) c.in_ok-set_apart.ensures.same in
    on_err_weaker c.put_if_apart.result (λ same. same_trans c.args.kept.now c.set_apart.new.kept c.put_if_apart.new.kept c.args.len before same) c.put_if_apart.ensures.err
