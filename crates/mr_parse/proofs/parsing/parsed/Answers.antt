use Rattle.mr_parse.proofs.Common.{◌≡◌, Err, ap, sym, ◌∙◌, program_in, words_of}
use Rattle.mr_lex.specs.Reading.{lexed}
use Rattle.mr_grammar.proofs.AsciiLaws.{few_tokens, texts_ascii}
use Rattle.mr_parse.proofs.ParseLaws.{bad_parsed, program_parsed, stop_parsed}
use Rattle.mr_parse.proofs.parsing.parsed.Goals as goal

pub program_in-requires-clause-few : goal.program_in-requires-clause-few
program_in-requires-clause-few c = few_tokens c.args.text.now c.in-Ok.tokens c.in-Ok.ensures.lexes

pub program_in-requires-clause-ascii : goal.program_in-requires-clause-ascii
program_in-requires-clause-ascii c = texts_ascii c.args.text.now c.in-Ok.tokens c.in-Ok.ensures.lexes

pub returns-in-Ok-program_in : goal.returns-in-Ok-program_in
returns-in-Ok-program_in c = program_parsed c.args.text.now c.in-Ok.tokens c.in-Ok-program_in.program c.in-Ok.ensures.exact c.in-Ok-program_in.ensures

pub returns-in-Err-At : goal.returns-in-Err-At
returns-in-Err-At c =
    let stopped : program_in (words_of c.in-Ok.tokens) ≡ Err c.in-Err-At.stop = rw c.in-Err-At.field-0-is at c.in-Err-At.ensures in
    stop_parsed c.args.text.now c.in-Ok.tokens c.in-Err-At.stop c.fault_at.result c.in-Ok.ensures.exact stopped c.fault_at.ensures

pub returns-in-Err-Bad : goal.returns-in-Err-Bad
returns-in-Err-Bad c =
    let bad : lexed c.args.text.now ≡ Err c.in-Err-Bad.fault = rw c.in-Err-Bad.field-0-is at c.in-Err-Bad.ensures.exact in
    bad_parsed c.args.text.now c.in-Err-Bad.fault bad ∙ sym (ap Err c.in-Err-Bad.fault-is)
