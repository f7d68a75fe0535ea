use Rattle.mr_parse.proofs.Common.{◌≡◌, Err, whole_of, words_of}
use Rattle.mr_parse.proofs.ParseLaws.{whole_stopped, whole_written}
use Rattle.mr_parse.proofs.parsing.body.Goals as goal

pub returns-in-Ok : goal.returns-in-Ok
returns-in-Ok c = whole_written c.args.scope.now (words_of c.args.tokens.now) _ c.in-Ok.ensures

pub returns-in-Err-At : goal.returns-in-Err-At
returns-in-Err-At c =
    let stopped : whole_of c.args.scope.now (words_of c.args.tokens.now) ≡ Err c.in-Err-At.stop = rw c.in-Err-At.field-0-is at c.in-Err-At.ensures in
    whole_stopped c.args.scope.now (words_of c.args.tokens.now) c.in-Err-At.stop c.told.result stopped c.told.ensures
