-- The first fault of a text.
use Rattle.std.specs.Prelude.{◌≡◌, ℕ, ◌⊎◌, if◌then◌else◌, List, [], ◌∷◌, ◌++◌, length, Some, Ok, Err}
use Rattle.mr_ast.specs.Forms.{Word, Mark}
use Rattle.mr_ast.specs.Scope.{Scope}
use Rattle.mr_ast.specs.ProgramGrammar.{ProgramBody}
use Rattle.mr_lex.specs.Tokens.{Lexeme}
use Rattle.mr_lex.specs.Reading.{lexed}
use Rattle.mr_lex.specs.declared.token.TextFault.{TextFault}
use Rattle.mr_words.specs.declared.fault.Stop.{Stop}
use Rattle.mr_words.specs.Places.{words_of}
use Rattle.mr_grammar.specs.Denotes.{IsFine, SpelledProgram, Writes, definitions_in, words_in}
use Rattle.mr_words.specs.Defined.{knowing, unknown}
use Rattle.mr_words.specs.Brackets.{is_bracket_too_many}
use Rattle.mr_words.specs.TextFaults.{fault_at}

-- the code of a word with which no text can go on
abbrev pub code_of_unexpected : List Word → List Word → ℕ
code_of_unexpected front rest = if is_bracket_too_many front rest then 7 else 4

-- The row goes on with a word that breaks a limit.
pub record BreaksLimit (scope : Scope) (front : List Mark) (rest : List Word) (code : ℕ) : Type 0 where
  pub mark : Mark
  pub others : List Word
  pub next : rest ≡ mark.word ∷ others
  pub broken : mark.flaw ≡ Some code
  pub back : List Mark
  pub body : ProgramBody
  pub written : SpelledProgram scope body (front ++ mark ∷ back)

-- Some text goes on behind the row.
pub record GoesOn (scope : Scope) (front : List Mark) : Type 0 where
  pub back : List Mark
  pub body : ProgramBody
  pub written : SpelledProgram scope body (front ++ back)

-- No text of the grammar goes on with the first of the words; where there is none, no text ends there.
abbrev pub NothingFits : Scope → List Word → List Word → Type 0
NothingFits scope front [] =
    (body : ProgramBody) (marks : List Mark) → words_in marks ≡ front → SpelledProgram scope body marks → ⊥
NothingFits scope front (w ∷ ws) =
    (body : ProgramBody) (marks : List Mark) (behind : List Word) → words_in marks ≡ front ++ w ∷ behind
    → SpelledProgram scope body marks → ⊥

-- The first word at which the words leave the grammar or break a limit, where so many are left: those before
-- it are fine.
pub record BreaksFirst (scope : Scope) (words : List Word) (s : Stop) : Type 0 where
  pub front : List Mark
  pub rest : List Word
  pub whole : words ≡ words_in front ++ rest
  pub left : length rest ≡ s.left
  pub fine : IsFine front
  pub ending : BreaksLimit scope front rest s.code
      ⊎ ((s.code ≡ code_of_unexpected (words_in front) rest) × GoesOn scope front
      × NothingFits scope (words_in front) rest)

-- The first fault of a text: of its tokens, of the grammar, or of its names. Of an earlier walk the text has none then.
pub data FirstFault (text : List ℕ) (fault : TextFault) : Type 0 where
  OfTokens : lexed text ≡ Err fault → FirstFault text fault
  OfGrammar : (lexemes : List Lexeme) (s : Stop) → lexed text ≡ Ok lexemes → BreaksFirst unknown (words_of lexemes) s
      → fault ≡ fault_at text lexemes s → FirstFault text fault
  OfNames : (lexemes : List Lexeme) (s : Stop) (shape : ProgramBody) → lexed text ≡ Ok lexemes
      → Writes unknown (words_of lexemes) shape
      → BreaksFirst (knowing (definitions_in (words_of lexemes) shape)) (words_of lexemes) s
      → fault ≡ fault_at text lexemes s → FirstFault text fault
