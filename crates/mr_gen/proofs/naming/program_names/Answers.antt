use Rattle.mr_gen.proofs.Common.{◌+◌, codes, ap, ◌∙◌, fold, with_text, counted_texts, first_texts}
use Rattle.mr_ast.specs.Words.{Texts}
use Rattle.mr_gen.proofs.NameLaws.{names_added}
use Rattle.mr_gen.proofs.naming.program_names.Goals as goal

pub returns : goal.returns
returns c =
    let workers = c.args.workers in
    let first = c.in_ok-add_each.ensures.all ∙ ap (λ (ts : Texts). fold with_text ts first_texts) c.new-names.ensures in
    let spawns = c.in_ok-add_counted.ensures.all ∙ ap (λ (ts : Texts). fold with_text ts (counted_texts (codes "c") workers)) first in
    let joins = c.in_ok-add_counted-2.ensures.all ∙ ap (λ (ts : Texts). fold with_text ts (counted_texts (codes "e") (workers + 1))) spawns in
    c.in_ok-add.ensures ∙ ap (λ (ts : Texts). with_text ts (codes "h")) joins ∙ names_added workers c.requires
