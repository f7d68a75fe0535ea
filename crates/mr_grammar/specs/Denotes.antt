-- What a text denotes.
use Rattle.std.specs.Prelude.{◌≡◌, ℕ, List, map, None, Ok}
use Rattle.std.specs.List.{AllByRecursion}
use Rattle.mr_ast.specs.Limits.{max_open}
use Rattle.mr_ast.specs.declared.program.Program.{Program}
use Rattle.mr_ast.specs.Forms.{Word, Mark}
use Rattle.mr_ast.specs.Scope.{Scope, Definitions, names_of}
use Rattle.mr_ast.specs.ProgramGrammar.{ProgramBody, program_form}
use Rattle.mr_ast.specs.Spelled.{Spelled}
use Rattle.mr_lex.specs.Tokens.{Lexeme}
use Rattle.mr_lex.specs.Reading.{lexed}
use Rattle.mr_words.specs.Places.{words_of}
use Rattle.mr_words.specs.Defined.{function_names_in, knowing, text_at, unknown}

-- the words of a row
abbrev pub words_in : List Mark → List Word
words_in marks = map (λ m. m.word) marks

-- no limit is broken
abbrev pub IsFine : List Mark → Type 0
IsFine marks = AllByRecursion (λ m. m.flaw ≡ None) marks

-- in a text, `max_open` brackets may be open
abbrev pub SpelledProgram : Scope → ProgramBody → List Mark → Type 0
SpelledProgram scope body marks = (height : ℕ) × Spelled height max_open scope program_form body marks

-- the words write the program, and none of them breaks a limit
pub record Writes (scope : Scope) (words : List Word) (body : ProgramBody) : Type 0 where
  pub marks : List Mark
  pub row : words ≡ words_in marks
  pub fine : IsFine marks
  pub written : SpelledProgram scope body marks

-- the names that a program defines, where each is written as its place
abbrev pub definitions_in : List Word → ProgramBody → Definitions
definitions_in words body = record {
  globals = map (λ g. text_at words g.name) body.globals;
  functions = map (function_names_in words) body.functions;
}

-- the program of these parts, whose names are those that are defined
abbrev pub program_of : Definitions → ProgramBody → Program
program_of d b =
    record { edition = b.edition; globals = b.globals; functions = b.functions; names = names_of d; start = b.start }

-- The words are in the grammar, whatever their names stand for; and where names stand for what the text itself
-- defines, they write the program. Each name is defined once in its space then, and each that is used is defined.
pub record Denotes (text : List ℕ) (p : Program) : Type 0 where
  pub lexemes : List Lexeme
  pub lexes : lexed text ≡ Ok lexemes
  pub shape : ProgramBody
  pub grammatical : Writes unknown (words_of lexemes) shape
  pub body : ProgramBody
  pub named : Writes (knowing (definitions_in (words_of lexemes) shape)) (words_of lexemes) body
  pub program : p ≡ program_of (definitions_in (words_of lexemes) shape) body
