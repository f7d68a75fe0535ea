-- What parsing answers, by what it computes.
use Rattle.mr_parse.proofs.Common.{◌≡◌, ℕ, List, Result, Ok, Err, ap, sym, ◌∙◌, Word, Scope, Stop, program_in, whole_of, words_of}
use Rattle.std.specs.Prelude.{IfOk, IsErrOf}
use Rattle.std.specs.Str.{IsAscii}
use Rattle.mr_ast.specs.declared.program.Program.{Program}
use Rattle.mr_ast.specs.ProgramGrammar.{ProgramBody}
use Rattle.mr_ast.specs.Shaped.{Shaped}
use Rattle.mr_lex.specs.declared.token.TextFault.{TextFault}
use Rattle.mr_lex.specs.Reading.{lexed}
use Rattle.mr_lex.specs.Tokens.{Lexeme}
use Rattle.mr_parse.specs.declared.fault.ParseFault.{ParseFault}
use Rattle.mr_parse.specs.declared.fault.ParseFault.TheVariants.{Text, Memory}
use Rattle.mr_grammar.specs.Denotes.{Denotes, definitions_in}
use Rattle.mr_words.specs.Defined.{text_at}
use Rattle.mr_grammar.specs.Faults.{FirstFault}
use Rattle.mr_words.specs.TextFaults.{fault_at}
use Rattle.mr_parse.specs.Gives.{ParseGives}
use Rattle.mr_words.specs.Naming.{IsSmall}
use Rattle.mr_grammar.specs.Parsing.{body_of, parsed}
use Rattle.mr_words.specs.Brackets.{told}
use Rattle.mr_grammar.proofs.Stops.BodyLaws.{body_writes}
use Rattle.mr_grammar.proofs.ParsingLaws.{denotes_parsed, fault_parsed, parsed_denotes, parsed_fault, of_program, of_tokens}
use Rattle.mr_grammar.proofs.Shape.ShapedLaws.{denoted_is_shaped}
use Rattle.mr_grammar.proofs.Shape.SmallLaws.{few_written, names_small}

-- the names of a program that was read can be held
pub small : (scope : Scope) (words : List Word) (body : ProgramBody) → ((n : ℕ) → IsAscii (text_at words n)) → body_of scope words ≡ Ok body → IsSmall (definitions_in words body)
small scope words body ascii e = names_small words body ascii (few_written scope words body (body_writes scope words body e))

-- what all of the words write is told
pub whole_written : (scope : Scope) (words : List Word) (body : ProgramBody) → whole_of scope words ≡ Ok body → body_of scope words ≡ Ok body
unfolding body_of
whole_written scope words body e = ap (λ r. elim r as (λ _. Result ProgramBody Stop) [ Ok x ↦ Ok x | Err s ↦ Err (told words s) ]) e

pub whole_stopped : (scope : Scope) (words : List Word) (s t : Stop) → whole_of scope words ≡ Err s → t ≡ told words s → body_of scope words ≡ Err t
unfolding body_of
whole_stopped scope words s t e is = ap (λ r. elim r as (λ _. Result ProgramBody Stop) [ Ok x ↦ Ok x | Err s ↦ Err (told words s) ]) e ∙ ap Err (sym is)

pub program_parsed : (text : List ℕ) (lexemes : List Lexeme) (p : Program) → lexed text ≡ Ok lexemes → program_in (words_of lexemes) ≡ Ok p → parsed text ≡ Ok p
unfolding parsed
program_parsed text lexemes p e f = ap (of_tokens text) e ∙ ap (of_program text lexemes) f

pub stop_parsed : (text : List ℕ) (lexemes : List Lexeme) (s : Stop) (fault : TextFault) → lexed text ≡ Ok lexemes → program_in (words_of lexemes) ≡ Err s → fault ≡ fault_at text lexemes s → parsed text ≡ Err fault
unfolding parsed
stop_parsed text lexemes s fault e f is = ap (of_tokens text) e ∙ ap (of_program text lexemes) f ∙ ap Err (sym is)

pub bad_parsed : (text : List ℕ) (fault : TextFault) → lexed text ≡ Err fault → parsed text ≡ Err fault
unfolding parsed
bad_parsed text fault e = ap (of_tokens text) e

module _ (text : List ℕ) where
  pub given_denoted : (answer : Result Program ParseFault) → ParseGives answer (parsed text) → IfOk answer (Denotes text)
  given_denoted (Ok p) gives = parsed_denotes text p gives
  given_denoted (Err fault) gives = tt

  pub given_shaped : (answer : Result Program ParseFault) → ParseGives answer (parsed text) → IfOk answer Shaped
  given_shaped (Ok p) gives = denoted_is_shaped text p (parsed_denotes text p gives)
  given_shaped (Err fault) gives = tt

  given_same : (answer : Result Program ParseFault) (found : Result Program TextFault) → parsed text ≡ found → ParseGives answer (parsed text) → ParseGives answer found
  given_same (Ok p) found e gives = sym e ∙ gives
  given_same (Err (Text fault)) found e gives = sym e ∙ gives
  given_same (Err Memory) found e gives = tt

  pub denoted_given : (answer : Result Program ParseFault) (p : Program) → ParseGives answer (parsed text) → Denotes text p → ParseGives answer (Ok p)
  denoted_given answer p gives d = given_same answer (Ok p) (denotes_parsed text p d) gives

  pub fault_given : (answer : Result Program ParseFault) (fault : TextFault) → ParseGives answer (parsed text) → FirstFault text fault → ParseGives answer (Err fault)
  fault_given answer fault gives f = given_same answer (Err fault) (fault_parsed text fault f) gives

  pub given_fault : (answer : Result Program ParseFault) (fault : TextFault) → ParseGives answer (parsed text) → IsErrOf answer (Text fault) → FirstFault text fault
  given_fault (Ok p) fault gives e = absurd (cc)
  given_fault (Err (Text other)) fault gives e = let same : other ≡ fault = cc in parsed_fault text fault (gives ∙ ap Err same)
  given_fault (Err Memory) fault gives e = absurd (cc)
