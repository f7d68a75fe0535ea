-- The types that are written in a program without a fault are well-formed.
use Rattle.mr_typing.proofs.Common.{◌≡◌, List, [], ◌∷◌, ◌++◌, Option, None, Some, All, sym, ◌∙◌, flat_map, Ty, Place, Value, Function, Local, Stmt, TypeOk, broken_in_parts, broken_in_result, broken_in_stmt, broken_in_values, Rules, Surroundings, broken_in_place, broken_in_value, of_type, surroundings}
use Rattle.std.proofs.lemmas.List.Elements.{All-append, All-head, All-nil, All-same, All-tail}
use Rattle.mr_ast.specs.declared.program.Block.{Block}
use Rattle.mr_ast.specs.declared.program.Program.{Program}
use Rattle.mr_ast.specs.declared.program.Term.{Term}
use Rattle.mr_ast.proofs.ExprInduction.{AllValues, ExprCases, place_induction, value_induction}
use Rattle.mr_layout.specs.Written.{types_of, types_of_block, types_of_function, types_of_locals, types_of_place, types_of_result, types_of_stmt, types_of_term, types_of_value, types_of_values, written_types}
use Rattle.mr_layout.proofs.WrittenLaws.{types_local, types_deref, types_field, types_index, types_variant_place, types_int, types_true, types_false, types_raw, types_fn, types_global, types_tuple, types_union, types_variant, types_load, types_disc, types_addr_of, types_cast, types_transmute, types_unary, types_binary}
use Rattle.mr_layout.proofs.WrittenParts.{ok_types}
use Rattle.mr_typing.specs.Walk.{WellFormed}
use Rattle.mr_typing.specs.Unbroken.{UnbrokenBlock, UnbrokenFunction}
use Rattle.mr_ast.specs.declared.program.Stmt.TheVariants as stmt
use Rattle.mr_ast.specs.declared.program.Term.TheVariants as term
use Rattle.mr_typing.proofs.BrokenInLaws.{broken_in_deref, broken_in_field, broken_in_index, broken_in_variant_place, broken_in_tuple, broken_in_union, broken_in_variant, broken_in_load, broken_in_disc, broken_in_addr_of, broken_in_cast, broken_in_transmute, broken_in_unary, broken_in_binary}
use Rattle.mr_typing.proofs.NothingLaws.{both_nothing, three_nothing, type_kept}
use Rattle.mr_typing.proofs.UnbrokenLaws.{well_formed_keeps}

-- the types are well-formed where these rules are not broken
abbrev OkWhere : Rules → List Ty → Type 0
OkWhere rules types = rules ≡ [] → All TypeOk types

-- ---- joining parts

ok_same : (rules parts : Rules) (types less : List Ty) → rules ≡ parts → types ≡ less → OkWhere parts less → OkWhere rules types
ok_same rules parts types less ec et ok e = All-same TypeOk types less et (ok (sym ec ∙ e))

ok_first : (a b : Rules) (types : List Ty) → OkWhere a types → OkWhere (a ++ b) types
ok_first a b types ok e = ok (both_nothing a b e).0

ok_two : (a b last : Rules) (types more : List Ty) → OkWhere a types → OkWhere b more → OkWhere ((a ++ b) ++ last) (types ++ more)
ok_two a b last types more first second e =
    let none = three_nothing a b last e in
    All-append TypeOk types more (first none.0) (second none.1)

ok_type : (t : Ty) → OkWhere (of_type t) (types_of t)
ok_type t e = ok_types t (type_kept t e)

-- the types of things of which each is well-formed
all_ok : {X : Type 0} (f : X → List Ty) (P : X → Type 0) → ((x : X) → P x → All TypeOk (f x)) → (xs : List X) → All P xs → All TypeOk (flat_map f xs)
all_ok f P each [] all = All-nil TypeOk
all_ok f P each (x ∷ xs) all = All-append TypeOk (f x) (flat_map f xs) (each x (All-head P x xs all)) (all_ok f P each xs (All-tail P x xs all))

module _ (at : Surroundings) where
  -- ---- places and values

  abbrev PlaceOk : Place → Type 0
  PlaceOk p = OkWhere (broken_in_place at p) (types_of_place p)

  abbrev ValueOk : Value → Type 0
  ValueOk v = OkWhere (broken_in_value at v) (types_of_value v)

  row_ok : (vs : List Value) → AllValues ValueOk vs → OkWhere (broken_in_values at vs) (types_of_values vs)
  row_ok [] all e = All-nil TypeOk
  row_ok (v ∷ vs) all e =
      let none = both_nothing (broken_in_value at v) (broken_in_values at vs) e in
      All-append TypeOk (types_of_value v) (types_of_values vs) (all.0 none.0) (row_ok vs all.1 none.1)

  no_types : (v : Value) → types_of_value v ≡ [] → ValueOk v
  no_types v e h = All-same TypeOk (types_of_value v) [] e (All-nil TypeOk)

  ok_cases : ExprCases PlaceOk ValueOk
  ok_cases = record {
    at_local = λ x h. All-same TypeOk (types_of_place _) [] (types_local x) (All-nil TypeOk);
    at_deref = λ v t h. ok_same _ _ _ _ (broken_in_deref at v t) (types_deref v t) (ok_two (broken_in_value at v) (of_type t) _ (types_of_value v) (types_of t) h (ok_type t));
    at_field = λ p k h. ok_same _ _ _ _ (broken_in_field at p k) (types_field p k) (ok_first (broken_in_place at p) _ (types_of_place p) h);
    at_index = λ p i h j. ok_same _ _ _ _ (broken_in_index at p i) (types_index p i) (ok_two (broken_in_place at p) (broken_in_value at i) _ (types_of_place p) (types_of_value i) h j);
    at_variant_place = λ p n h. ok_same _ _ _ _ (broken_in_variant_place at p n) (types_variant_place p n) (ok_first (broken_in_place at p) _ (types_of_place p) h);
    at_int = λ i n. no_types _ (types_int i n);
    at_true = no_types _ types_true;
    at_false = no_types _ types_false;
    at_raw = λ n. no_types _ (types_raw n);
    at_fn = λ f. no_types _ (types_fn f);
    at_global = λ g n. no_types _ (types_global g n);
    at_tuple = λ t vs all. ok_same _ _ _ _ (broken_in_tuple at t vs) (types_tuple t vs) (ok_two (of_type t) (broken_in_values at vs) _ (types_of t) (types_of_values vs) (ok_type t) (row_ok vs all));
    at_union = λ t k v h. ok_same _ _ _ _ (broken_in_union at t k v) (types_union t k v) (ok_two (of_type t) (broken_in_value at v) _ (types_of t) (types_of_value v) (ok_type t) h);
    at_variant = λ t n v h. ok_same _ _ _ _ (broken_in_variant at t n v) (types_variant t n v) (ok_two (of_type t) (broken_in_value at v) _ (types_of t) (types_of_value v) (ok_type t) h);
    at_load = λ p h. ok_same _ _ _ _ (broken_in_load at p) (types_load p) h;
    at_disc = λ p h. ok_same _ _ _ _ (broken_in_disc at p) (types_disc p) (ok_first (broken_in_place at p) _ (types_of_place p) h);
    at_addr_of = λ t p h. ok_same _ _ _ _ (broken_in_addr_of at t p) (types_addr_of t p) (ok_two (of_type t) (broken_in_place at p) _ (types_of t) (types_of_place p) (ok_type t) h);
    at_cast = λ i v h. ok_same _ _ _ _ (broken_in_cast at i v) (types_cast i v) (ok_first (broken_in_value at v) _ (types_of_value v) h);
    at_transmute = λ t v h. ok_same _ _ _ _ (broken_in_transmute at t v) (types_transmute t v) (ok_two (of_type t) (broken_in_value at v) _ (types_of t) (types_of_value v) (ok_type t) h);
    at_unary = λ o v h. ok_same _ _ _ _ (broken_in_unary at o v) (types_unary o v) (ok_first (broken_in_value at v) _ (types_of_value v) h);
    at_binary = λ o a b h k. ok_same _ _ _ _ (broken_in_binary at o a b) (types_binary o a b) (ok_two (broken_in_value at a) (broken_in_value at b) _ (types_of_value a) (types_of_value b) h k);
  }

  pub place_ok : (p : Place) → broken_in_place at p ≡ [] → All TypeOk (types_of_place p)
  place_ok = place_induction PlaceOk ValueOk ok_cases

  pub value_ok : (v : Value) → broken_in_value at v ≡ [] → All TypeOk (types_of_value v)
  value_ok = value_induction PlaceOk ValueOk ok_cases

  pub values_ok : (vs : List Value) → broken_in_values at vs ≡ [] → All TypeOk (types_of_values vs)
  values_ok vs = row_ok vs (every vs)
    where
      every : (vs : List Value) → AllValues ValueOk vs
      every [] = tt
      every (v ∷ vs) = (value_ok v, every vs)

  -- ---- statements and terminators

  result_ok : (o : Option Place) → broken_in_result at o ≡ [] → All TypeOk (types_of_result o)
  result_ok None e = All-nil TypeOk
  result_ok (Some p) e = place_ok p e

  pub stmt_ok : (f : Function) (s : Stmt) → broken_in_stmt f at s ≡ [] → All TypeOk (types_of_stmt s)
  stmt_ok f (stmt.Live x) e = All-nil TypeOk
  stmt_ok f (stmt.Dead x) e = All-nil TypeOk
  stmt_ok f (stmt.Assign p v) e = ok_two (broken_in_place at p) (broken_in_value at v) _ (types_of_place p) (types_of_value v) (place_ok p) (value_ok v) e
  stmt_ok f (stmt.Mention p) e = place_ok p e
  stmt_ok f (stmt.Disc p n) e = ok_first (broken_in_place at p) _ (types_of_place p) (place_ok p) e
  stmt_ok f (stmt.Deinit p) e = place_ok p e
  stmt_ok f (stmt.Validate p) e = place_ok p e

  pub term_ok : (t : Term) → broken_in_parts at t ≡ [] → All TypeOk (types_of_term t)
  term_ok (term.Switch v cases other) e = ok_first (broken_in_value at v) _ (types_of_value v) (value_ok v) e
  term_ok (term.Unwind v b) e = ok_first (broken_in_value at v) _ (types_of_value v) (value_ok v) e
  term_ok (term.Call v vs p next unwind) e =
      ok_first ((broken_in_value at v ++ broken_in_values at vs) ++ broken_in_place at p) _ ((types_of_value v ++ types_of_values vs) ++ types_of_place p)
      (λ h. let none = three_nothing (broken_in_value at v) (broken_in_values at vs) (broken_in_place at p) h in
      All-append TypeOk (types_of_value v ++ types_of_values vs) (types_of_place p) (All-append TypeOk (types_of_value v) (types_of_values vs) (value_ok v none.0) (values_ok vs none.1)) (place_ok p none.2))
      e
  term_ok (term.Do i vs o next) e = ok_two (broken_in_values at vs) (broken_in_result at o) _ (types_of_values vs) (types_of_result o) (values_ok vs) (result_ok o) e
  term_ok _ e = All-nil TypeOk

-- ---- programs

block_ok : (p : Program) (f : Function) (b : Block) → UnbrokenBlock p f b → All TypeOk (types_of_block b)
block_ok p f b unbroken =
    All-append TypeOk (flat_map types_of_stmt b.stmts) (types_of_term b.term)
    (all_ok types_of_stmt (λ (s : Stmt). broken_in_stmt f (surroundings p f) s ≡ []) (stmt_ok (surroundings p f) f) b.stmts unbroken.stmts)
    (term_ok (surroundings p f) b.term unbroken.parts)

function_ok : (p : Program) (f : Function) → UnbrokenFunction p f → All TypeOk (types_of_function f)
function_ok p f unbroken =
    All-append TypeOk (types_of_locals f.locals) (flat_map types_of_block f.blocks)
    (all_ok (λ (l : Local). types_of l.ty) (λ (l : Local). TypeOk l.ty) (λ l ok. ok_types l.ty ok) f.locals unbroken.locals)
    (all_ok types_of_block (UnbrokenBlock p f) (block_ok p f) f.blocks unbroken.blocks)

-- each type that is written in a well-formed program is well-formed
pub written_ok : (p : Program) → WellFormed p → All TypeOk (written_types p)
unfolding written_types
written_ok p well = all_ok types_of_function (UnbrokenFunction p) (function_ok p) p.functions (well_formed_keeps p well).functions
