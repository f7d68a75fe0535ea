use Rattle.mr_show.proofs.Common.{◌≡◌, List, subst, IfOk, Program}
use Rattle.mr_lex.specs.Tokens.{Lexeme}
use Rattle.mr_places.specs.Laid.{Laid, firsts_of}
use Rattle.mr_show.proofs.ShownLaws.{its_lexemes, no_program}
use Rattle.mr_show.proofs.placed.places_of.Goals as goal

pub unreachable-requires : goal.unreachable-requires
unreachable-requires c =
    no_program c.args.text.now _ c.args.p.now (rw c.in-Err-Bad.field-0-is at c.in-Err-Bad.ensures.exact) c.requires

pub returns-in-Ok : goal.returns-in-Ok
returns-in-Ok c =
    let L : List Lexeme → Program → Type 0 = λ lexemes p.
    IfOk c.new.result (λ (places : Laid). places ≡ record { lexemes = lexemes; firsts = firsts_of 0 p.functions }) in
    subst (λ (lexemes : List Lexeme). L lexemes c.args.p.now)
    (its_lexemes c.args.text.now c.in-Ok.tokens c.in-Ok.ensures.exact)
    (subst (λ (p : Program). L c.in-Ok.tokens p) c.program.ensures.same c.new.ensures)
