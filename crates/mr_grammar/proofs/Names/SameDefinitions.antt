-- The names that a text defines, read from its words, are those that a program defines which the words write where the names are known.
use Rattle.mr_grammar.proofs.Common.{◌≡◌, ℕ, ◌+◌, List, length, map, refl, ap, sym, ◌∙◌, Block, Function, Global_, Local, Program, Word, Definitions, function_names, item_names, names_of, Texts, text_at, ProgramBody, definitions_in, function_names_in, knowing, StandsIn}
use Rattle.mr_grammar.proofs.Canon.CanonNames.{body_of, definitions_of, function_definitions}
use Rattle.mr_words.specs.Defined.{text_at as word_at}
use Rattle.mr_grammar.proofs.Names.DefinedTwice.{FunctionTwice, ProgramTwice}
use Rattle.mr_grammar.proofs.Names.NamedBack.{ReadsBack, block_back, function_back, global_back, local_back}
use Rattle.mr_grammar.proofs.Names.TwoScopes.{EachTwo, each_two}

pub each_map : {A B : Type 0} (R : ℕ → A → A → Type 0) (one other : A → B) → ((k : ℕ) (x y : A) → R k x y → other y ≡ one x) → (k : ℕ) (xs ys : List A) → EachTwo R k xs ys
    → map other ys ≡ map one xs
each_map R one other law = each_two R (λ k xs ys. map other ys ≡ map one xs) (λ k. refl) (λ k x y xs ys two same. rw (law k x y two, same) refl)

module _ (words : List Word) (d : Definitions) (p : Program) (names : p.names ≡ names_of d) where
  -- the text at a place is the one of the number that reads back
  same_text : (space : Texts) (k number place : ℕ) → ReadsBack d words space k number place → word_at words place ≡ text_at p.names number
  same_text space k number place back = sym back.text ∙ ap (λ texts. text_at texts number) (sym names)

  same_function : (k : ℕ) (f g : Function) → FunctionTwice (StandsIn words) (knowing d) k f g → function_names_in words g ≡ function_definitions p f
  same_function k f g twice =
      let name = same_text (item_names d) (length d.globals + k) f.name g.name (function_back d words k f.name g.name twice.name) in
      let locals = each_map _ (λ (l : Local). text_at p.names l.name) (λ (l : Local). word_at words l.name)
      (λ j l m one. same_text (function_names d k).locals j l.name m.name (local_back d words j l.name m.name k one)) 0 f.locals g.locals twice.locals in
      let blocks = each_map _ (λ (b : Block). text_at p.names b.name) (λ (b : Block). word_at words b.name)
      (λ j b c one. same_text (function_names d k).blocks j b.name c.name (block_back d words j b.name c.name k one)) 0 f.blocks g.blocks twice.blocks in
      λ i. record { name = name i; locals = locals i; blocks = blocks i }

  -- the definitions of both are the same
  pub same_definitions : (shape : ProgramBody) → ProgramTwice (StandsIn words) (knowing d) (body_of p) shape → definitions_in words shape ≡ definitions_of p
  same_definitions shape twice =
      let globals = each_map _ (λ (g : Global_). text_at p.names g.name) (λ (g : Global_). word_at words g.name)
      (λ k g h one. same_text (item_names d) k g.name h.name (global_back d words k g.name h.name one)) 0 p.globals shape.globals twice.globals in
      let functions = each_map _ (function_definitions p) (function_names_in words) same_function 0 p.functions shape.functions twice.functions in
      λ i. record { globals = globals i; functions = functions i }
