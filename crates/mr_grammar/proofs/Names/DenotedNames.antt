-- What names stand for in a program that a text denotes: the positions of their texts.
use Rattle.mr_grammar.proofs.Common.{List, ℕ, length, ◌+◌, ◌≡◌, Option, None, Some, ap, Bool, if◌then◌else◌, true, false, refl, ◌-◌, ◌≤◌, arith, ◌∙◌, sym, ◌<◌, subst, nat_lt, nat_tests, length-map, lt_from, Block, Function, Global_, Local, Program, Target, UsesFunction, global_texts, function_texts, target_text, texts_in, text_at, Word, ProgramBody, Definitions, item_names, function_names, used_in, number_in, number_of_name, target_of, StandsIn, use_function, number_within, use_global, use_local, use_block, definitions_in, program_of}
use Rattle.mr_ast.specs.Scope.{as_global, as_function}
use Rattle.mr_ast.specs.declared.program.Target.TheVariants as target
use Rattle.mr_words.specs.Defined.{knowing, function_names_in, text_at as word_at}
use Rattle.mr_grammar.proofs.Canon.CanonItems.{KnownProgram}
use Rattle.mr_grammar.proofs.Canon.CanonWords.{Known}
use Rattle.mr_grammar.proofs.Names.DefinedTwice.{counted, Counted, FunctionTwice, ProgramTwice, functions_twice}
use Rattle.mr_grammar.proofs.Names.NamedBack.{ReadsBack, function_back, local_back, block_back, global_back, text_of_number}
use Rattle.mr_grammar.proofs.Names.TwoScopes.{EachTwo, each_two_also, each_length, each_from}
use Rattle.mr_grammar.proofs.Shape.ShapedNames.{items-length}
use Rattle.mr_grammar.proofs.Walk.EnsureLaws.{EachFrom}
use Rattle.mr_grammar.proofs.Walk.InsideLaws.{inside}

-- the names of a function read back, and are those that are defined in it
pub record FunctionBack (d : Definitions) (words : List Word) (k : ℕ) (f g : Function) : Type 0 where
  pub name : ReadsBack d words (item_names d) (length d.globals + k) f.name g.name
  pub locals : EachTwo (λ j x y. ReadsBack d words (function_names d k).locals j x.name y.name) 0 f.locals g.locals
  pub blocks : EachTwo (λ j x y. ReadsBack d words (function_names d k).blocks j x.name y.name) 0 f.blocks g.blocks
  pub counted : Counted d k f

function_reads_back : (d : Definitions) (words : List Word) (k : ℕ) (f g : Function)
    → FunctionTwice (StandsIn words) (knowing d) k f g × (function_names d k ≡ function_names_in words g) → FunctionBack d words k f g
function_reads_back d words k f g twice = record {
  name = function_back d words k f.name g.name twice.0.name;
  locals = each_two_also _ (λ j x y. ReadsBack d words (function_names d k).locals j x.name y.name) (λ j x y one. local_back d words j x.name y.name k one) 0 f.locals g.locals twice.0.locals;
  blocks = each_two_also _ (λ j x y. ReadsBack d words (function_names d k).blocks j x.name y.name) (λ j x y one. block_back d words j x.name y.name k one) 0 f.blocks g.blocks twice.0.blocks;
  counted = counted (StandsIn words) d words k f g twice.0 twice.1;
}

-- ---- the numbers of names

used_some : (found : Option ℕ) (n : ℕ) → used_in found ≡ (n, None) → found ≡ Some n
used_some (Some m) n e = ap (λ p. Some p.0) e
used_some None n e = let clash = ap (λ p. p.1) e in absurd (cc)

global_some : (globals n : ℕ) (found : Option ℕ) → as_global globals found ≡ Some n → found ≡ Some n
global_some globals n None e = e
global_some globals n (Some m) e = go (nat_lt m globals) e
  where
    go : (small : Bool) → (if small then Some m else None) ≡ Some n → Some m ≡ Some n
    go true e = e
    go false e = absurd (cc)

function_some : (globals n : ℕ) (found : Option ℕ) → as_function globals found ≡ Some n → found ≡ Some (globals + n)
function_some globals n None e = absurd (cc)
function_some globals n (Some m) e = go (nat_lt m globals) refl e
  where
    go : (small : Bool) → nat_lt m globals ≡ small → (if small then None else Some (m - globals)) ≡ Some n → Some m ≡ Some (globals + n)
    go true is e = absurd (cc)
    go false is e = let same : m - globals ≡ n = cc in let least : globals ≤ m = grind (arith, nat_tests, is) in let sum : m ≡ globals + n = omega arith in ap Some sum

-- ---- a program

module _ (words : List Word) (shape body : ProgramBody) (twice : ProgramTwice (StandsIn words) (knowing (definitions_in words shape)) body shape) where
  abbrev d : Definitions
  d = definitions_in words shape

  abbrev p : Program
  p = program_of (definitions_in words shape) body

  globals_back : EachTwo (λ k g h. ReadsBack d words (item_names d) k g.name h.name) 0 body.globals shape.globals
  globals_back = each_two_also _ (λ k g h. ReadsBack d words (item_names d) k g.name h.name) (λ k g h one. global_back d words k g.name h.name one) 0 body.globals shape.globals twice.globals

  functions_back : EachTwo (FunctionBack d words) 0 body.functions shape.functions
  functions_back =
      each_two_also _ (FunctionBack d words) (function_reads_back d words) 0 body.functions shape.functions (functions_twice (StandsIn words) words shape body twice)

  globals_counted : length body.globals ≡ length d.globals
  globals_counted = each_length _ 0 body.globals shape.globals twice.globals ∙ sym (length-map shape.globals (λ g. word_at words g.name))

  functions_counted : length body.functions ≡ length d.functions
  functions_counted = each_length _ 0 body.functions shape.functions twice.functions ∙ sym (length-map shape.functions (function_names_in words))

  -- the texts of globals and functions
  global_text : (text : List ℕ) (n : ℕ) → n < length d.globals → number_in (item_names d) text ≡ Some n → text_at (global_texts p) n ≡ text
  global_text text n inside e =
      text_of_number d words (item_names d) (λ k. k) (λ (g : Global_). g.name) body.globals shape.globals globals_back n (omega (arith, globals_counted)) text e

  function_text : (text : List ℕ) (n : ℕ) → n < length d.functions → number_in (item_names d) text ≡ Some (length d.globals + n) → text_at (function_texts p) n ≡ text
  function_text text n inside e =
      text_of_number d words (item_names d) (λ k. length d.globals + k) (λ (f : Function). f.name) body.functions shape.functions
      (each_two_also (FunctionBack d words) (λ k f g. ReadsBack d words (item_names d) (length d.globals + k) f.name g.name) (λ k f g back. back.name) 0 body.functions shape.functions functions_back)
      n (omega (arith, functions_counted)) text e

  function_known : (k : ℕ) (text : List ℕ) (n : ℕ) → number_of_name d k UsesFunction text ≡ (n, None) → text_at (function_texts p) n ≡ text
  unfolding number_of_name
  function_known k text n e = function_text text n (use_function d k n text e) (function_some (length d.globals) n _ (used_some _ n e))

  pub program_known : KnownProgram d p
  program_known = record { names = refl; functions = function_known 0; targets = λ text t e. at_target (number_in (item_names d) text) text t refl e }
    where
      at_target : (found : Option ℕ) (text : List ℕ) (t : Target) → number_in (item_names d) text ≡ found → target_of (length d.globals) found ≡ (t, None) → target_text p t ≡ text
      at_target None text t at e = let clash = ap (λ r. r.1) e in absurd (cc)
      at_target (Some n) text t at e = subst (λ u. target_text p u ≡ text) (ap (λ r. r.0) e) (go (nat_lt n (length d.globals)) refl)
        where
          go : (small : Bool) → nat_lt n (length d.globals) ≡ small
              → target_text p (if small then target.Global (record { 0 = n }) else target.Function (record { 0 = n - length d.globals })) ≡ text
          go true is = global_text text n (lt_from n (length d.globals) is) at
          go false is =
              let least : length d.globals ≤ n = grind (arith, nat_tests, is) in
              let sum : n ≡ length d.globals + (n - length d.globals) = omega arith in
              function_text text (n - length d.globals) (omega (arith, number_within (item_names d) text n at, items-length d)) (at ∙ ap Some sum)

  -- the names that are used in a function
  function_names_known : (k : ℕ) (f g : Function) → FunctionBack d words k f g → Known d k (texts_in p f)
  unfolding number_of_name
  function_names_known k f g back = record {
    globals = λ text n e. global_text text n (use_global d k n text e) (global_some (length d.globals) n _ (used_some _ n e));
    functions = function_known k;
    locals = λ text n e. text_of_number d words (function_names d k).locals (λ j. j) (λ (l : Local). l.name) f.locals g.locals back.locals
        n (let inside = use_local d k n text e in omega (arith, back.counted.0)) text (used_some _ n e);
    blocks = λ text n e. text_of_number d words (function_names d k).blocks (λ j. j) (λ (b : Block). b.name) f.blocks g.blocks back.blocks
        n (let inside = use_block d k n text e in omega (arith, back.counted.1)) text (used_some _ n e);
  }

  pub functions_known : EachFrom (λ k f. Known d k (texts_in p f)) 0 body.functions
  functions_known = each_from (FunctionBack d words) (λ k f. Known d k (texts_in p f)) function_names_known 0 body.functions shape.functions functions_back
