use Rattle.std.proofs.Common.{◌∙◌, ap, sym}
use Rattle.std.specs.Option.{option_map}
use Rattle.mr_lex.specs.Tokens.{lexeme_of}
use Rattle.mr_refusals.specs.Texts.{begins_at}
use Rattle.mr_refusals.proofs.FoundLaws.{found_here, not_here}
use Rattle.mr_refusals.proofs.texts.token_at.Goals as goal

pub loop-i-preserved : goal.loop-i-preserved
loop-i-preserved c =
    not_here (begins_at c.args.line c.args.col) c.args.tokens.now c.loop-i.i (lexeme_of c.in-Some.token) _
    (sym c.get.ensures ∙ ap (option_map lexeme_of) c.in-Some.is) (sym c.begins_at.ensures ∙ c.if-begins_at.false)
    c.loop-i.invariant

pub returns-then-begins_at : goal.returns-then-begins_at
returns-then-begins_at c =
    found_here (begins_at c.args.line c.args.col) c.args.tokens.now c.loop-i.i (lexeme_of c.in-Some.token) _
    (sym c.get.ensures ∙ ap (option_map lexeme_of) c.in-Some.is) (sym c.begins_at.ensures ∙ c.if-begins_at.true)
    c.loop-i.invariant
