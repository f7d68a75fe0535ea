use Rattle.mr_parse.proofs.Common.{sym, subst, body_form, Gives, read}
use Rattle.mr_parse.specs.Views.{named}
use Rattle.mr_parse.proofs.FunctionLaws.{function_reads}
use Rattle.mr_parse.proofs.program.function.Goals as goal

pub returns : goal.returns
returns c =
    subst (Gives (λ f. (f, c.body.new.reader)) c.body.result) (sym (function_reads c.args.room c.args.scope.now c.args.k c.args.reader.now c.expect.new.self c.name.new.self c.in_ok-name.name c.in_ok-expect.ensures c.in_ok-name.ensures))
    (subst (λ s. Gives (λ f. (f, c.body.new.reader)) c.body.result (named c.in_ok-name.name (read c.args.room s body_form c.name.new.self))) c.in_ok-inside.ensures c.body.ensures)
