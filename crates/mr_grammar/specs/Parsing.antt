-- Parsing a text, computed: its tokens, its grammar, its names.
use Rattle.std.specs.Prelude.{ℕ, List, [], ◌∷◌, Result, Ok, Err}
use Rattle.mr_ast.specs.Limits.{max_open}
use Rattle.mr_ast.specs.declared.program.Program.{Program}
use Rattle.mr_ast.specs.Forms.{Word}
use Rattle.mr_ast.specs.Scope.{Scope}
use Rattle.mr_ast.specs.ProgramGrammar.{ProgramBody, program_form}
use Rattle.mr_lex.specs.Reading.{lexed}
use Rattle.mr_lex.specs.declared.token.TextFault.{TextFault}
use Rattle.mr_words.specs.declared.fault.Stop.{Stop}
use Rattle.mr_words.specs.Places.{words_of}
use Rattle.mr_grammar.specs.Denotes.{definitions_in, program_of}
use Rattle.mr_words.specs.Defined.{knowing, unknown}
use Rattle.mr_words.specs.TextFaults.{fault_at}
use Rattle.mr_grammar.specs.Reading.{◌>>=◌, read, stop}
use Rattle.mr_words.specs.Brackets.{told}

-- the program that the words write, where nothing is left behind it
abbrev pub ended : ProgramBody × List Word → Result ProgramBody Stop
ended (body, []) = Ok body
ended (body, w ∷ ws) = stop 4 (w ∷ ws)

-- what all of the words write
abbrev pub whole_of : Scope → List Word → Result ProgramBody Stop
whole_of scope words = read max_open scope program_form words >>= ended

unfoldable pub body_of : Scope → List Word → Result ProgramBody Stop
body_of scope words =
    elim (whole_of scope words) as (λ _. Result ProgramBody Stop) [ Ok body ↦ Ok body | Err s ↦ Err (told words s) ]

-- the program of the tokens
unfoldable pub program_in : List Word → Result Program Stop
program_in words = do
  shape ← body_of unknown words
  let d = definitions_in words shape in do
    body ← body_of (knowing d) words
    Ok (program_of d body)

-- the program of a text, or its first fault
unfoldable pub parsed : List ℕ → Result Program TextFault
parsed text = elim (lexed text) as (λ _. Result Program TextFault) [
  | Ok lexemes ↦ elim (program_in (words_of lexemes)) as (λ _. Result Program TextFault)
      [ Ok p ↦ Ok p | Err s ↦ Err (fault_at text lexemes s) ]
  | Err fault ↦ Err fault
]
