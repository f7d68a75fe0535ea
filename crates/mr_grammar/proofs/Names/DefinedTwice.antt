-- What the words of a program write where the text's names are known, and where each name stands for its place: in both the same things are defined.
use Rattle.mr_grammar.proofs.Common.{ℕ, ◌≡◌, None, List, true, false, Some, refl, Bool, ◌∷◌, ◌∙◌, ap, [], sym, suc, subst, ◌+◌, map, arith, length, AllByRecursion, nat_le, length-map, Block, Function, Local, Role, DefinesLocal, DefinesBlock, DefinesFunction, DefinesGlobal, Word, Mark, ProgramBody, local_form, locals_form, block_form, blocks_form, global_form, body_form, function_form, program_form, globals_form, functions_form, Scope, name_number, Definitions, function_names, SpelledPart, is_name, judged_name, name_form, named_at, unknown, knowing, function_names_in, words_in, IsFine, Writes, definitions_in}
use Rattle.std.proofs.Common.{slice_index_or}
use Rattle.mr_ast.specs.ProgramGrammar.{inside_function}
use Rattle.mr_words.specs.Defined.{text_at}
use Rattle.mr_grammar.proofs.Names.TwoScopes.{EachTwo, Renames, AreGood, renames_then, renames_any, renames_many, renames_behind, each_later, renames_within, renames_before, renames_in, each_two, each_length}
use Rattle.mr_grammar.proofs.Shape.ShapedNames.{name_fine}
use Rattle.mr_grammar.proofs.Stops.BodyLaws.{writes_body}
use Rattle.mr_grammar.proofs.Walk.Fair.{IsUnknown}
use Rattle.mr_grammar.proofs.Walk.FairForms.{local_fair, block_fair, global_fair, body_fair, program_fair}
use Rattle.mr_grammar.proofs.Walk.Says.{ok-same}

-- a name by its number where the names are known, and by its place
pub record NamedTwice (IsGood : Word → Type 0) (s : Scope) (role : Role) (number place : ℕ) : Type 0 where
  pub word : Word
  pub good : IsGood word
  pub known : name_number s role word ≡ (number, None)
  pub at : place ≡ word.place

abbrev pub LocalsTwice : (Word → Type 0) → Scope → List Local → List Local → Type 0
LocalsTwice IsGood s = EachTwo (λ k x y. NamedTwice IsGood s (DefinesLocal k) x.name y.name) 0

abbrev pub BlocksTwice : (Word → Type 0) → Scope → List Block → List Block → Type 0
BlocksTwice IsGood s = EachTwo (λ k x y. NamedTwice IsGood s (DefinesBlock k) x.name y.name) 0

-- a function, and a program, in which all that has a name is defined twice so
pub record FunctionTwice (IsGood : Word → Type 0) (s : Scope) (k : ℕ) (x y : Function) : Type 0 where
  pub name : NamedTwice IsGood s (DefinesFunction k) x.name y.name
  pub locals : LocalsTwice IsGood (inside_function k s) x.locals y.locals
  pub blocks : BlocksTwice IsGood (inside_function k s) x.blocks y.blocks

pub record ProgramTwice (IsGood : Word → Type 0) (s : Scope) (x y : ProgramBody) : Type 0 where
  pub globals : EachTwo (λ k g h. NamedTwice IsGood s (DefinesGlobal k) g.name h.name) 0 x.globals y.globals
  pub functions : EachTwo (FunctionTwice IsGood s) 0 x.functions y.functions

judged_unknown : (t : Scope) → IsUnknown t → (role : Role) (w : Word) → is_name w.text ≡ true → judged_name false role t w ≡ Some (w.place, None)
unfolding judged_name
judged_unknown t unknown role w name = rw (name, unknown) refl

module _ {IsGood : Word → Type 0} {s t : Scope} (unknown : IsUnknown t) {height room : ℕ} where
  renames_name : (over : Bool) (role : Role) → Renames IsGood height room (SpelledPart height) s t (name_form over role) (NamedTwice IsGood s role)
  renames_name over role = record {
    holds = λ x marks good (w, n, flaw, back, judged, whole, behind).
        (let row : AreGood IsGood (record { word = w; flaw = flaw } ∷ back) = rw whole at good in
        let fine = name_fine over role s w n (judged ∙ ap (λ f. Some (n, f)) row.0.0) in
        let there : judged_name over role t w ≡ Some (w.place, None) = rw fine.0 (judged_unknown t unknown role w fine.1) in (
          w.place,
          record { word = w; flaw = None } ∷ [],
          ap words_in (sym (whole ∙ ap (λ ms. record { word = w; flaw = flaw } ∷ ms) behind.1)),
          (refl, tt),
          (w, w.place, None, [], there, refl, (refl, refl)),
          record { word = w; good = row.0.1; known = rw behind.0 fine.2; at = refl },
        ));
  }

  renames_local : (k : ℕ) → Renames IsGood height room (SpelledPart height) s t (local_form k) (λ x y. NamedTwice IsGood s (DefinesLocal k) x.name y.name)
  unfolding local_form
  renames_local k = renames_then (renames_name (nat_le 256 k) (DefinesLocal k)) (renames_any unknown (local_fair k).1) (λ n n' ty ty' p q. p)

  renames_locals : Renames IsGood height room (SpelledPart height) s t locals_form (LocalsTwice IsGood s)
  unfolding locals_form
  renames_locals =
      renames_then (renames_local 0) (renames_many (λ k. renames_behind unknown (renames_local (suc k))))
      (λ x x' xs ys one each. (one, each_later (λ k a b. NamedTwice IsGood s (DefinesLocal k) a.name b.name) 0 xs ys each))

  renames_block : (k : ℕ) → Renames IsGood height room (SpelledPart height) s t (block_form k) (λ x y. NamedTwice IsGood s (DefinesBlock k) x.name y.name)
  unfolding block_form
  renames_block k =
      renames_then {R = λ x y. NamedTwice IsGood s (DefinesBlock k) x.0 y.0}
      (renames_then (renames_name (nat_le 1024 k) (DefinesBlock k)) (renames_any unknown (block_fair k).0.1) (λ n n' i i' p q. p))
      (renames_any unknown (block_fair k).1) (λ head head' body body' p q. p)

  renames_blocks : Renames IsGood height room (SpelledPart height) s t blocks_form (BlocksTwice IsGood s)
  unfolding blocks_form
  renames_blocks =
      renames_then (renames_block 0) (renames_many (λ k. renames_block (suc k)))
      (λ x x' xs ys one each. (one, each_later (λ k a b. NamedTwice IsGood s (DefinesBlock k) a.name b.name) 0 xs ys each))

  renames_global : (k : ℕ) → Renames IsGood height room (SpelledPart height) s t (global_form k) (λ x y. NamedTwice IsGood s (DefinesGlobal k) x.name y.name)
  unfolding global_form
  renames_global k =
      renames_behind unknown (renames_then {R = λ x y. NamedTwice IsGood s (DefinesGlobal k) x.0 y.0}
      (renames_then (renames_name (nat_le 256 k) (DefinesGlobal k)) (renames_any unknown (global_fair k).1.0.1) (λ n n' a a' p q. p))
      (renames_any unknown (global_fair k).1.1) (λ head head' items items' p q. p))

module _ {IsGood : Word → Type 0} {s t : Scope} (unknown : IsUnknown t) {height room : ℕ} where
  renames_body : Renames IsGood height room (SpelledPart height) s t body_form (λ x y. LocalsTwice IsGood s x.locals y.locals × BlocksTwice IsGood s x.blocks y.blocks)
  unfolding body_form
  renames_body =
      renames_then (renames_any unknown body_fair.0)
      (renames_within (λ lower e. renames_then {T = λ x y. LocalsTwice IsGood s x.0 y.0 × BlocksTwice IsGood s x.1 y.1}
      (renames_behind unknown (renames_before unknown (renames_locals unknown))) (renames_blocks unknown) (λ x x' y y' p q. (p, q))))
      (λ head head' body body' p q. q)

renames_function : {IsGood : Word → Type 0} {s t : Scope} {height room : ℕ} (k : ℕ) → IsUnknown t
    → Renames IsGood height room (SpelledPart height) s t (function_form k) (FunctionTwice IsGood s k)
unfolding function_form
renames_function {IsGood} {s} k unknown =
    renames_behind unknown (renames_then {T = FunctionTwice IsGood s k} (renames_name unknown (nat_le 256 k) (DefinesFunction k)) (renames_in (renames_body unknown))
    (λ n n' body body' p q. record { name = p; locals = q.0; blocks = q.1 }))

renames_program : {IsGood : Word → Type 0} {s t : Scope} {height room : ℕ} → IsUnknown t → Renames IsGood height room (SpelledPart height) s t program_form (ProgramTwice IsGood s)
unfolding program_form globals_form functions_form
renames_program {IsGood} {s} unknown =
    renames_behind unknown (renames_then {T = ProgramTwice IsGood s} (renames_any unknown program_fair.1.0)
    (renames_then {T = λ x y. EachTwo (λ k g h. NamedTwice IsGood s (DefinesGlobal k) g.name h.name) 0 x.0.0 y.0.0 × EachTwo (FunctionTwice IsGood s) 0 x.0.1 y.0.1}
    (renames_then {T = λ x y. EachTwo (λ k g h. NamedTwice IsGood s (DefinesGlobal k) g.name h.name) 0 x.0 y.0 × EachTwo (FunctionTwice IsGood s) 0 x.1 y.1}
    (renames_many (renames_global unknown)) (renames_many (λ k. renames_function k unknown)) (λ x x' y y' p q. (p, q)))
    (renames_any unknown program_fair.1.1.1) (λ items items' start start' p q. p))
    (λ edition edition' parts parts' p q. record { globals = q.0; functions = q.1 }))

good_row : (IsGood : Word → Type 0) (marks : List Mark) → IsFine marks → AllByRecursion IsGood (words_in marks) → AreGood IsGood marks
good_row IsGood [] fine good = tt
good_row IsGood (m ∷ marks) fine good = ((fine.0, good.0), good_row IsGood marks fine.1 good.1)

-- The words of a program, in whatever scope, write another where no names are known, and all that has a name is defined in both.
pub written_twice : (IsGood : Word → Type 0) (s t : Scope) → IsUnknown t → (words : List Word) (x : ProgramBody) → AllByRecursion IsGood words → Writes s words x
    → (y : ProgramBody) × Writes t words y × ProgramTwice IsGood s x y
written_twice IsGood s t unknown words x all w =
    let good : AreGood IsGood w.marks = good_row IsGood w.marks w.fine (rw w.row at all) in
    let law : Renames IsGood w.written.0 32 (SpelledPart w.written.0) s t program_form (ProgramTwice IsGood s) = renames_program unknown in
    let (y, others, same, fine, written, twice) = law.holds x w.marks good w.written.1 in
    (y, record { marks = others; row = w.row ∙ sym same; fine = fine; written = (w.written.0, written) }, twice)

-- There is one program that they write where no names are known.
pub defined_twice : (IsGood : Word → Type 0) (d : Definitions) (words : List Word) (shape body : ProgramBody) → AllByRecursion IsGood words
    → Writes unknown words shape → Writes (knowing d) words body → ProgramTwice IsGood (knowing d) body shape
defined_twice IsGood d words shape body all grammatical named =
    let (y, w, twice) = written_twice IsGood (knowing d) unknown refl words body all named in
    let is_shape : y ≡ shape = ok-same (sym (writes_body unknown words y w) ∙ writes_body unknown words shape grammatical) in
    subst (ProgramTwice IsGood (knowing d) body) is_shape twice

-- The names of each function are those that the text defines in it.
functions_known : (R : ℕ → Function → Function → Type 0) (d : Definitions) (words : List Word) (k : ℕ) (fs gs : List Function)
    → ((i : ℕ) → function_names d (k + i) ≡ slice_index_or (map (function_names_in words) gs) i (record { name = []; locals = []; blocks = [] }))
    → EachTwo R k fs gs → EachTwo (λ j f g. R j f g × (function_names d j ≡ function_names_in words g)) k fs gs
functions_known R d words k fs gs law each =
    each_two R
    (λ k fs gs. ((i : ℕ) → function_names d (k + i) ≡ slice_index_or (map (function_names_in words) gs) i (record { name = []; locals = []; blocks = [] }))
    → EachTwo (λ j f g. R j f g × (function_names d j ≡ function_names_in words g)) k fs gs)
    (λ k here. tt)
    (λ k f g fs gs one more here. (
      (one, (let n : k ≡ k + 0 = omega arith in ap (function_names d) n ∙ here 0)),
      more (λ i. (let n : suc k + i ≡ k + suc i = omega arith in rw n (here (suc i)))),
    ))
    k fs gs each law

pub functions_twice : (IsGood : Word → Type 0) (words : List Word) (shape body : ProgramBody) → ProgramTwice IsGood (knowing (definitions_in words shape)) body shape
    → EachTwo (λ j f g. FunctionTwice IsGood (knowing (definitions_in words shape)) j f g × (function_names (definitions_in words shape) j ≡ function_names_in words g)) 0 body.functions shape.functions
functions_twice IsGood words shape body twice =
    let d : Definitions = definitions_in words shape in
    functions_known (FunctionTwice IsGood (knowing d)) d words 0 body.functions shape.functions (λ i. (let n : 0 + i ≡ i = omega arith in ap (function_names d) n)) twice.functions

-- a function that has as many locals and blocks as are defined in it
abbrev pub Counted : Definitions → ℕ → Function → Type 0
Counted d k f = (length f.locals ≡ (named_at d k).locals) × (length f.blocks ≡ (named_at d k).blocks)

pub counted : (IsGood : Word → Type 0) (d : Definitions) (words : List Word) (k : ℕ) (f g : Function) → FunctionTwice IsGood (knowing d) k f g
    → function_names d k ≡ function_names_in words g → Counted d k f
counted IsGood d words k f g twice here = (
  each_length _ 0 f.locals g.locals twice.locals ∙ sym (length-map g.locals (λ l. text_at words l.name)) ∙ sym (ap (λ names. length names.locals) here),
  each_length _ 0 f.blocks g.blocks twice.blocks ∙ sym (length-map g.blocks (λ b. text_at words b.name)) ∙ sym (ap (λ names. length names.blocks) here),
)
