-- Parsing a text gives the program that it denotes, or its first fault.
use Rattle.mr_grammar.proofs.Common.{◌≡◌, ◌⊎◌, inl, inr, ℕ, List, Result, Ok, Err, refl, ap, sym, ◌∙◌, subst, Program, Word, ProgramBody, Lexeme, Stop, words_of, Denotes, Writes, definitions_in, program_of, knowing, unknown, ◌>>=◌}
use Rattle.mr_lex.specs.Reading.{lexed}
use Rattle.mr_lex.specs.declared.token.TextFault.{TextFault}
use Rattle.mr_grammar.specs.Faults.{BreaksFirst, FirstFault, OfTokens, OfGrammar, OfNames}
use Rattle.mr_words.specs.TextFaults.{fault_at}
use Rattle.mr_grammar.specs.Parsing.{body_of, parsed, program_in}
use Rattle.mr_grammar.proofs.Stops.BodyLaws.{body_writes, writes_body, body_breaks, breaks_body}

-- The words are in the grammar whatever their names stand for, and where names stand for what the words define, they write the program.
pub record WritesProgram (words : List Word) (p : Program) : Type 0 where
  pub shape : ProgramBody
  pub grammatical : Writes unknown words shape
  pub body : ProgramBody
  pub named : Writes (knowing (definitions_in words shape)) words body
  pub program : p ≡ program_of (definitions_in words shape) body

-- the first fault of the words: of the grammar, or of the names
abbrev pub ProgramFault : List Word → Stop → Type 0
ProgramFault words s =
    BreaksFirst unknown words s ⊎ ((shape : ProgramBody) × Writes unknown words shape × BreaksFirst (knowing (definitions_in words shape)) words s)

-- what is read of the words where their names stand for what they define
abbrev named : List Word → ProgramBody → Result Program Stop
named words shape = body_of (knowing (definitions_in words shape)) words >>= (λ body. Ok (program_of (definitions_in words shape) body))

-- the program of the words, or their first fault
abbrev ProgramSaid : List Word → Result Program Stop → Type 0
ProgramSaid words (Ok p) = WritesProgram words p
ProgramSaid words (Err s) = ProgramFault words s

program_said : (words : List Word) → ProgramSaid words (program_in words)
unfolding program_in
program_said words = first (body_of unknown words) refl
  where
    second : (shape : ProgramBody) → body_of unknown words ≡ Ok shape → (answer : Result ProgramBody Stop) → body_of (knowing (definitions_in words shape)) words ≡ answer
        → ProgramSaid words (answer >>= (λ body. Ok (program_of (definitions_in words shape) body)))
    second shape at (Ok body) at_body = record {
      shape = shape;
      grammatical = body_writes unknown words shape at;
      body = body;
      named = body_writes (knowing (definitions_in words shape)) words body at_body;
      program = refl;
    }
    second shape at (Err s) stop = inr (shape, body_writes unknown words shape at, body_breaks (knowing (definitions_in words shape)) words s stop)

    first : (answer : Result ProgramBody Stop) → body_of unknown words ≡ answer → ProgramSaid words (answer >>= named words)
    first (Ok shape) at = second shape at (body_of (knowing (definitions_in words shape)) words) refl
    first (Err s) stop = inl (body_breaks unknown words s stop)

pub writes_program : (words : List Word) (p : Program) → WritesProgram words p → program_in words ≡ Ok p
unfolding program_in
writes_program words p w =
    ap (λ a. a >>= named words) (writes_body unknown words w.shape w.grammatical)
    ∙ ap (λ a. a >>= (λ body. Ok (program_of (definitions_in words w.shape) body))) (writes_body (knowing (definitions_in words w.shape)) words w.body w.named)
    ∙ ap Ok (sym w.program)

-- the first fault of the words
pub breaks_program : (words : List Word) (s : Stop) → ProgramFault words s → program_in words ≡ Err s
unfolding program_in
breaks_program words s (inl b) = ap (λ a. a >>= named words) (breaks_body unknown words s b)
breaks_program words s (inr (shape, w, b)) =
    ap (λ a. a >>= named words) (writes_body unknown words shape w)
    ∙ ap (λ a. a >>= (λ body. Ok (program_of (definitions_in words shape) body))) (breaks_body (knowing (definitions_in words shape)) words s b)

-- what parsing answers of the tokens, and of their program
abbrev pub of_program : List ℕ → List Lexeme → Result Program Stop → Result Program TextFault
of_program text lexemes found = elim found as (λ _. Result Program TextFault) [ Ok p ↦ Ok p | Err s ↦ Err (fault_at text lexemes s) ]

abbrev pub of_tokens : List ℕ → Result (List Lexeme) TextFault → Result Program TextFault
of_tokens text found = elim found as (λ _. Result Program TextFault) [ Ok lexemes ↦ of_program text lexemes (program_in (words_of lexemes)) | Err fault ↦ Err fault ]

-- what is parsed, or the text's first fault
abbrev TextSaid : List ℕ → Result Program TextFault → Type 0
TextSaid text (Ok p) = Denotes text p
TextSaid text (Err fault) = FirstFault text fault

text_said : (text : List ℕ) → TextSaid text (parsed text)
unfolding parsed
text_said text = go (lexed text) refl
  where
    of : (lexemes : List Lexeme) → lexed text ≡ Ok lexemes → (found : Result Program Stop) → ProgramSaid (words_of lexemes) found → TextSaid text (of_program text lexemes found)
    of lexemes at (Ok p) w = record { lexemes = lexemes; lexes = at; shape = w.shape; grammatical = w.grammatical; body = w.body; named = w.named; program = w.program }
    of lexemes at (Err s) (inl b) = OfGrammar lexemes s at b refl
    of lexemes at (Err s) (inr (shape, w, b)) = OfNames lexemes s shape at w b refl

    go : (found : Result (List Lexeme) TextFault) → lexed text ≡ found → TextSaid text (of_tokens text found)
    go (Ok lexemes) at = of lexemes at (program_in (words_of lexemes)) (program_said (words_of lexemes))
    go (Err fault) at = OfTokens at

-- What is parsed is what the text denotes.
pub parsed_denotes : (text : List ℕ) (p : Program) → parsed text ≡ Ok p → Denotes text p
parsed_denotes text p e = subst (TextSaid text) e (text_said text)

pub denotes_parsed : (text : List ℕ) (p : Program) → Denotes text p → parsed text ≡ Ok p
unfolding parsed
denotes_parsed text p d =
    let w : WritesProgram (words_of d.lexemes) p = record { shape = d.shape; grammatical = d.grammatical; body = d.body; named = d.named; program = d.program } in
    ap (of_tokens text) d.lexes ∙ ap (of_program text d.lexemes) (writes_program (words_of d.lexemes) p w)

-- Where nothing is parsed, the text's first fault is told.
pub parsed_fault : (text : List ℕ) (fault : TextFault) → parsed text ≡ Err fault → FirstFault text fault
parsed_fault text fault e = subst (TextSaid text) e (text_said text)

pub fault_parsed : (text : List ℕ) (fault : TextFault) → FirstFault text fault → parsed text ≡ Err fault
unfolding parsed
fault_parsed text fault (OfTokens e) = ap (of_tokens text) e
fault_parsed text fault (OfGrammar lexemes s at b same) =
    ap (of_tokens text) at ∙ ap (of_program text lexemes) (breaks_program (words_of lexemes) s (inl b)) ∙ ap Err (sym same)
fault_parsed text fault (OfNames lexemes s shape at w b same) =
    ap (of_tokens text) at ∙ ap (of_program text lexemes) (breaks_program (words_of lexemes) s (inr (shape, w, b))) ∙ ap Err (sym same)

-- A text denotes one program at most.
pub one_program : (text : List ℕ) (p q : Program) → Denotes text p → Denotes text q → p ≡ q
one_program text p q d e = let same = sym (denotes_parsed text p d) ∙ denotes_parsed text q e in cc

-- A text has one first fault at most.
pub one_first_fault : (text : List ℕ) (f g : TextFault) → FirstFault text f → FirstFault text g → f ≡ g
one_first_fault text f g a b = let same = sym (fault_parsed text f a) ∙ fault_parsed text g b in cc
