-- Each program that a text denotes is shaped.
use Rattle.mr_grammar.proofs.Common.{List, ℕ, ◌≡◌, [], ◌∷◌, suc, length, ◌∙◌, sym, refl, AllByRecursion, length-map, All-from_recursion, Function, Program, Word, ProgramBody, program_form, Definitions, function_names, ShapedFunction, SpelledPart, StandsIn, words_stand, knowing, function_names_in, unknown, words_of, Writes, definitions_in, program_of, Denotes}
use Rattle.mr_ast.specs.Shaped.{Shaped}
use Rattle.mr_words.specs.Defined.{text_at}
use Rattle.mr_grammar.proofs.Names.DefinedTwice.{FunctionTwice, Counted, counted, functions_twice, ProgramTwice, defined_twice}
use Rattle.mr_grammar.proofs.Names.TwoScopes.{EachTwo, each_length}
use Rattle.mr_grammar.proofs.Shape.ShapedPrograms.{BodyShaped, ensures_program}
use Rattle.mr_grammar.proofs.Walk.EnsureLaws.{EachFrom, Ensures}

-- the functions have as many locals and blocks as are defined in them
functions_shaped : (IsGood : Word → Type 0) (p : Program) (d : Definitions) (words : List Word) (k : ℕ) (fs gs : List Function)
    → EachTwo (λ j f g. FunctionTwice IsGood (knowing d) j f g × (function_names d j ≡ function_names_in words g)) k fs gs
    → EachFrom (λ j f. Counted d j f → ShapedFunction p f) k fs → AllByRecursion (ShapedFunction p) fs
functions_shaped IsGood p d words k [] gs twice each = tt
functions_shaped IsGood p d words k (f ∷ fs) [] twice each = absurd twice
functions_shaped IsGood p d words k (f ∷ fs) (g ∷ gs) twice each =
    (each.0 (counted IsGood d words k f g twice.0.0 twice.0.1), functions_shaped IsGood p d words (suc k) fs gs twice.1 each.1)

-- the program of the words, where the names stand for what the words define
named_is_shaped : (words : List Word) (shape body : ProgramBody) → AllByRecursion (StandsIn words) words → Writes unknown words shape → Writes (knowing (definitions_in words shape)) words body
    → Shaped (program_of (definitions_in words shape) body)
named_is_shaped words shape body stand grammatical named = record {
  edition = shaped.edition_known;
  globals = shaped.globals_shaped;
  functions = All-from_recursion (ShapedFunction p) body.functions
      (functions_shaped (StandsIn words) p d words 0 body.functions shape.functions (functions_twice (StandsIn words) words shape body twice) shaped.functions_shaped);
  start = shaped.start_within;
  few_globals = shaped.few_globals;
  few_functions = shaped.few_functions;
}
  where
    d : Definitions
    d = definitions_in words shape

    p : Program
    p = program_of (definitions_in words shape) body

    twice : ProgramTwice (StandsIn words) (knowing d) body shape
    twice = defined_twice (StandsIn words) d words shape body stand grammatical named

    globals : length body.globals ≡ length d.globals
    globals = each_length _ 0 body.globals shape.globals twice.globals ∙ sym (length-map shape.globals (λ g. text_at words g.name))

    functions : length body.functions ≡ length d.functions
    functions = each_length _ 0 body.functions shape.functions twice.functions ∙ sym (length-map shape.functions (function_names_in words))

    shaped : BodyShaped p d body
    shaped =
        let law : Ensures named.written.0 32 (SpelledPart named.written.0) (knowing d) program_form (BodyShaped p d) = ensures_program p d refl globals functions in
        law.holds body named.marks named.fine named.written.1

-- Each program that a text denotes is shaped.
pub denoted_is_shaped : (text : List ℕ) (p : Program) → Denotes text p → Shaped p
denoted_is_shaped text p den = rw den.program (named_is_shaped (words_of den.lexemes) den.shape den.body (words_stand den.lexemes) den.grammatical den.named)
