-- The canonical text of a program that some text denotes denotes the same program.
use Rattle.mr_grammar.proofs.Common.{List, ◌≡◌, map, refl, length, ◌≤◌, ◌^◌, ◌∙◌, subst, sym, ap, ℕ, AllByRecursion, Program, lines_of, Word, ProgramBody, program_form, Lexeme, StandsIn, words_stand, unknown, knowing, words_of, numbered, Writes, definitions_in, program_of, Denotes, read}
use Rattle.mr_ast.specs.Canon.{canonical_text}
use Rattle.mr_words.specs.Places.{words_from}
use Rattle.mr_grammar.proofs.Canon.CanonForms.{marked, marked-words, marked-fine}
use Rattle.mr_grammar.proofs.Canon.CanonPrograms.{canon_program, canonical_words_are}
use Rattle.mr_grammar.proofs.Names.DefinedTwice.{defined_twice, written_twice}
use Rattle.mr_grammar.proofs.Names.DenotedNames.{program_known, functions_known}
use Rattle.mr_grammar.proofs.Names.SameDefinitions.{same_definitions}
use Rattle.mr_grammar.proofs.Tokens.LexedWords.{words_are_lexed}
use Rattle.mr_grammar.proofs.Tokens.TokenTexts.{IsTokenText}
use Rattle.mr_grammar.proofs.Walk.HeightLaws.{settled}

-- the words of the tokens
words_are : (lexemes : List Lexeme) → words_of lexemes ≡ numbered 0 (map (λ l. l.text) lexemes)
unfolding words_from
words_are lexemes = refl

-- the same of the program of the words, where the names stand for what the words define
program_reads_back : (words : List Word) (shape body : ProgramBody) → AllByRecursion (StandsIn words) words → Writes unknown words shape
    → Writes (knowing (definitions_in words shape)) words body → length (canonical_text (program_of (definitions_in words shape) body)) ≤ 2 ^ 20
    → Denotes (canonical_text (program_of (definitions_in words shape) body)) (program_of (definitions_in words shape) body)
program_reads_back words shape body stand grammatical named short =
    let d = definitions_in words shape in
    let p = program_of d body in
    let twice = defined_twice (StandsIn words) d words shape body stand grammatical named in
    let stands = (canon_program p (program_known words shape body twice) {height = named.written.0} {room = 32}).holds body named.marks named.fine named.written.1 (functions_known words shape body twice) in
    let same = canonical_words_are p ∙ stands.whole in
    let (lexemes, lexes, read) = words_are_lexed (lines_of p) (subst (AllByRecursion IsTokenText) (sym same) stands.tokens) short in
    let known : Writes (knowing d) (words_of lexemes) body = record {
      marks = marked 0 stands.texts;
      row = words_are lexemes ∙ ap (numbered 0) (read ∙ same) ∙ sym (marked-words 0 stands.texts);
      fine = marked-fine 0 stands.texts;
      written = settled 32 (knowing d) program_form body (marked 0 stands.texts) (stands.at 0);
    } in
    let (other, other_grammatical, other_twice) = written_twice (StandsIn (words_of lexemes)) (knowing d) unknown refl (words_of lexemes) body (words_stand lexemes) known in
    let defined : definitions_in (words_of lexemes) other ≡ d =
    same_definitions (words_of lexemes) d p refl other other_twice ∙ sym (same_definitions words d p refl shape twice) in
    record {
      lexemes = lexemes;
      lexes = lexes;
      shape = other;
      grammatical = other_grammatical;
      body = body;
      named = subst (λ e. Writes (knowing e) (words_of lexemes) body) (sym defined) known;
      program = ap (λ e. program_of e body) (sym defined);
    }

pub reads_back : (text : List ℕ) (p : Program) → Denotes text p → length (canonical_text p) ≤ 2 ^ 20 → Denotes (canonical_text p) p
reads_back text p denotes short =
    subst (λ q. Denotes (canonical_text q) q) (sym denotes.program)
    (program_reads_back (words_of denotes.lexemes) denotes.shape denotes.body (words_stand denotes.lexemes) denotes.grammatical denotes.named
    (subst (λ q. length (canonical_text q) ≤ 2 ^ 20) denotes.program short))
