use Rattle.mr_eval.proofs.Common.{sym, ◌∙◌, bytes_of_pieces, seen}
use Rattle.mr_eval.proofs.LoadRuns.{read_found, read_meaningless}
use Rattle.mr_eval.proofs.loading.read_typed.Goals as goal

pub returns-in-Some-clause-given : goal.returns-in-Some-clause-given
returns-in-Some-clause-given c =
    let bytes = bytes_of_pieces c.in_ok-view.view in
    rw (read_found c.args.m.now c.args.t.now c.args.p c.args.size c.args.align (seen c.args.notes.now) bytes (seen c.lend.new.notes) c.in-Some.v
    c.requires.size c.requires.align c.in_ok-view.ensures.given (sym c.in_ok-v.ensures.value ∙ c.in-Some.is))
    c.referred.ensures.given

pub returns-in-None-clause-given : goal.returns-in-None-clause-given
returns-in-None-clause-given c =
    read_meaningless c.args.m.now c.args.t.now c.args.p c.args.size c.args.align (seen c.args.notes.now) (bytes_of_pieces c.in_ok-view.view) (seen c.lend.new.notes)
    c.refuse.new.self.refused c.requires.size c.requires.align c.in_ok-view.ensures.given (sym c.in_ok-v.ensures.value ∙ c.in-None.is) c.refuse.ensures.last
