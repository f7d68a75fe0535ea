-- What an answer says that gives what reading gives.
use Rattle.mr_lex.proofs.Common.{◌≡◌, ℕ, List, subst, Result, Ok, Err, Lexeme, Lexes, AreInOrder, FirstFault, lexed, Gives}
use Rattle.std.specs.Prelude.{IfOk}
use Rattle.mr_lex.specs.declared.token.TextFault.{TextFault}
use Rattle.mr_lex.specs.declared.token.LexFault.{LexFault}
use Rattle.mr_lex.specs.declared.token.LexFault.TheVariants.{Bad}
use Rattle.mr_lex.proofs.ReadingLaws.{lexes_lexed, fault_lexed, lexed_lexes, lexed_fault}
use Rattle.mr_lex.proofs.RowLaws.{lexes_in_order}

module _ (text : List ℕ) where
  pub gives_lexes : (answer : Result (List Lexeme) LexFault) → Gives answer (lexed text) → IfOk answer (Lexes text)
  gives_lexes (Ok lexemes) gives = lexed_lexes text lexemes gives
  gives_lexes (Err fault) gives = tt

  pub gives_in_order : (answer : Result (List Lexeme) LexFault) → Gives answer (lexed text) → IfOk answer (AreInOrder text 0)
  gives_in_order (Ok lexemes) gives = lexes_in_order text lexemes (lexed_lexes text lexemes gives)
  gives_in_order (Err fault) gives = tt

  pub gives_only : (answer : Result (List Lexeme) LexFault) → Gives answer (lexed text) → (lexemes : List Lexeme) → Lexes text lexemes → Gives answer (Ok lexemes)
  gives_only answer gives lexemes lexes = subst (Gives answer) (lexes_lexed text lexemes lexes) gives

  pub gives_fault : (answer : Result (List Lexeme) LexFault) → Gives answer (lexed text) → (fault : TextFault) → answer ≡ Err (Bad fault) → FirstFault text fault
  gives_fault answer gives fault is =
      lexed_fault text fault (let is_gives = subst (λ a. Gives a (lexed text)) is gives in is_gives)

  pub gives_first : (answer : Result (List Lexeme) LexFault) → Gives answer (lexed text) → (fault : TextFault) → FirstFault text fault → Gives answer (Err fault)
  gives_first answer gives fault first = subst (Gives answer) (fault_lexed text fault first) gives
