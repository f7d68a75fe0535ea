-- The texts of values that are integers and bools.
use Rattle.mr_intr.proofs.Common.{◌≡◌, ℕ, ◌+◌, ◌<◌, ◌-◌, refl, sym, ap, ◌∙◌, arith, List, [], ◌∷◌, ◌++◌, length, take, drop, get_or, append_assoc, Option, None, Some, Bool, true, list_all, and_parts, IntType, Ty, out-Ty, Val, out-Val, has_shape, gives_nothing, is_scalar_number, integer_of, Ask, Done, ◌>>=◌, run, HaveShapes, or_ill_formed, reading_part, Scene, Tables, Print, answer, memory_part, Fits, IsDone, begun, notes_in, operated, text_in, texts_in, bool_text, number_text, spaced, spaced_behind, text_layer, text_of, texts_of}
use Rattle.std.proofs.Common.{zero, suc, ◌≤◌, add-one}
use Rattle.std.proofs.lemmas.List.{drop_all, take_all}
use Rattle.std.proofs.Math.Seq.{drop-cons}
use Rattle.std.specs.Option.{unwrap_or}
use Rattle.mr_ast.specs.declared.types.Num.{Num}
use Rattle.mr_ast.specs.declared.types.Ty.TheOpen.{Ty-F}
use Rattle.mr_ast.specs.declared.types.Variant.{Variant}
use Rattle.mr_value.specs.declared.val.Val.TheOpen.{Val-F}
use Rattle.mr_value.specs.Discriminants.{number_of_bits}
use Rattle.mr_eval.proofs.ScalarLaws.{bool_value, int_value, scalar_bool, scalar_int}
use Rattle.mr_eval.proofs.ShapeOf.{shapes_length}
use Rattle.mr_eval.specs.Scalars.{scalar_as, scalar_layer}
use Rattle.mr_eval.specs.declared.scalars.Scalar.{Scalar}
use Rattle.mr_eval.specs.declared.scalars.Scalar.TheVariants.{Number, Truth}
use Rattle.mr_ast.specs.declared.program.Intrinsic.TheVariants as intrinsic
use Rattle.mr_intr.proofs.OperatedLaws.{quiet}

-- the text of an integer or a bool
abbrev pub text_of_scalar : Scalar → List ℕ
text_of_scalar (Number n) = number_text n
text_of_scalar (Truth b) = bool_text b

layer_text : (t : Ty-F Ty Variant) (v : Val-F Val) (s : Scalar) → scalar_layer t v ≡ Some s → text_layer t v ≡ Some (text_of_scalar s)
layer_text (Ty-F.Int int) (Val-F.Int bits) s e = let P : Option Scalar → Option (List ℕ) = λ o. elim o [ None ↦ None | Some x ↦ Some (text_of_scalar x) ] in ap P e
layer_text Ty-F.Bool (Val-F.Bool b) s e = let P : Option Scalar → Option (List ℕ) = λ o. elim o [ None ↦ None | Some x ↦ Some (text_of_scalar x) ] in ap P e
layer_text _ _ s e = absurd (cc)

pub scalar_text : (t : Ty) (v : Val) (s : Scalar) → scalar_as t v ≡ Some s → text_of t v ≡ Some (text_of_scalar s)
scalar_text t v s e = layer_text (out-Ty t) (out-Val v) s e

pub number_there : (t : Ty) (v : Val) (n : Num) → scalar_as t v ≡ Some (Number n) → text_in t v ≡ number_text n
number_there t v n e = ap (λ (o : Option (List ℕ)). unwrap_or o []) (scalar_text t v (Number n) e)

pub truth_there : (t : Ty) (v : Val) (b : Bool) → scalar_as t v ≡ Some (Truth b) → text_in t v ≡ bool_text b
truth_there t v b e = ap (λ (o : Option (List ℕ)). unwrap_or o []) (scalar_text t v (Truth b) e)

-- ---- values in a row

has_text : (t : Ty) (v : Val) → is_scalar_number t ≡ true → has_shape t v ≡ true → text_of t v ≡ Some (text_in t v)
has_text t v scalar shape = by_integer (integer_of t) refl
  where
    with_scalar : (s : Scalar) → scalar_as t v ≡ Some s → text_of t v ≡ Some (text_in t v)
    with_scalar s e = let h = scalar_text t v s e in h ∙ ap (λ (o : Option (List ℕ)). Some (unwrap_or o [])) (sym h)

    by_integer : (o : Option IntType) → integer_of t ≡ o → text_of t v ≡ Some (text_in t v)
    by_integer None e = let b = bool_value t v e scalar shape in with_scalar (Truth b.0) (scalar_bool t v b.0 e scalar b.1)
    by_integer (Some i) e = let n = int_value t v i e shape in with_scalar (Number (number_of_bits i n.0)) (scalar_int t v i n.0 e n.1)

-- all of them have a text
pub texts_done : (types : List Ty) (args : List Val) → list_all is_scalar_number types ≡ true → HaveShapes types args → texts_of types args ≡ Done (texts_in types args)
texts_done [] [] all shapes = refl
texts_done [] (v ∷ args) all shapes = absurd shapes
texts_done (t ∷ types) [] all shapes = absurd shapes
texts_done (t ∷ types) (v ∷ args) all shapes =
    let parts = and_parts (is_scalar_number t) (list_all is_scalar_number types) all in
    (λ i. or_ill_formed (has_text t v parts.0 shapes.0 i) >>= λ text. texts_done types args parts.1 shapes.1 i >>= λ texts. Done (text ∷ texts))

-- one more, led by a space
pub texts_next : (types : List Ty) (args : List Val) (i : ℕ) (t : Ty) (v : Val) (old text : List ℕ) → i < length types → i < length args → t ≡ get_or types i t → v ≡ get_or args i v
    → text ≡ (old ++ 32 ∷ []) ++ text_in t v
    → old ++ spaced_behind (texts_in (drop i types) (drop i args)) ≡ text ++ spaced_behind (texts_in (drop (i + 1) types) (drop (i + 1) args))
texts_next types args i t v old text lt_types lt_args is_t is_v is =
    let rest = spaced_behind (texts_in (drop (i + 1) types) (drop (i + 1) args)) in
    let ts : drop i types ≡ t ∷ drop (i + 1) types = drop-cons types i t lt_types ∙ (λ j. sym is_t j ∷ drop (sym (add-one i) j) types) in
    let vs : drop i args ≡ v ∷ drop (i + 1) args = drop-cons args i v lt_args ∙ (λ j. sym is_v j ∷ drop (sym (add-one i) j) args) in
    (λ j. old ++ spaced_behind (texts_in (ts j) (vs j))) ∙ joined old (text_in t v) rest ∙ ap (λ xs. xs ++ rest) (sym is)
  where
    joined : (a b d : List ℕ) → a ++ ((32 ∷ b) ++ d) ≡ ((a ++ 32 ∷ []) ++ b) ++ d
    joined a b d = sym (simp append_assoc)

pub texts_end : (types : List Ty) (args : List Val) (i : ℕ) → HaveShapes types args → length args ≤ i → spaced_behind (texts_in (drop i types) (drop i args)) ≡ []
texts_end types args i shapes le =
    let long = shapes_length types args shapes in
    (λ j. spaced_behind (texts_in (drop_all i types (omega arith) j) (drop_all i args le j)))

-- the shape and the kind of the value at a position
pub shape_here : (types : List Ty) (args : List Val) (i : ℕ) (t : Ty) (v : Val) → HaveShapes types args → i < length args → t ≡ get_or types i t → v ≡ get_or args i v → has_shape t v ≡ true
shape_here [] [] i t v shapes lt is_t is_v = absurd (omega arith)
shape_here [] (x ∷ args) i t v shapes lt is_t is_v = absurd shapes
shape_here (a ∷ types) [] i t v shapes lt is_t is_v = absurd shapes
shape_here (a ∷ types) (x ∷ args) zero t v shapes lt is_t is_v = (λ i. has_shape (is_t i) (is_v i)) ∙ shapes.0
shape_here (a ∷ types) (x ∷ args) (suc i) t v shapes lt is_t is_v = shape_here types args i t v shapes.1 (omega arith) is_t is_v

pub scalar_here : (types : List Ty) (i : ℕ) (t : Ty) → list_all is_scalar_number types ≡ true → i < length types → t ≡ get_or types i t → is_scalar_number t ≡ true
scalar_here [] i t all lt is = absurd (omega arith)
scalar_here (a ∷ types) zero t all lt is = ap is_scalar_number is ∙ (and_parts (is_scalar_number a) (list_all is_scalar_number types) all).0
scalar_here (a ∷ types) (suc i) t all lt is = scalar_here types i t (and_parts (is_scalar_number a) (list_all is_scalar_number types) all).1 (omega arith) is

-- ---- a print

pub texts_first : (types : List Ty) (t : Ty) (first : Val) (rest : List Val) → HaveShapes types (first ∷ rest) → t ≡ get_or types 0 t → spaced (texts_in types (first ∷ rest)) ≡ text_in t first ++ spaced_behind (texts_in (drop 1 types) rest)
texts_first [] t first rest shapes is = absurd shapes
texts_first (a ∷ types) t first rest shapes is = ap (λ (u : Ty). text_in u first ++ spaced_behind (texts_in types rest)) (sym is)

-- the types behind the first one, as a part of them all
pub behind_first : (types : List Ty) → take (length types - 1) (drop 1 types) ≡ drop 1 types
behind_first [] = refl
behind_first (t ∷ types) = take_all (length (t ∷ types) - 1) types (omega arith)

-- a print takes integers and bools, and gives nothing
pub print_kinds : (types : List Ty) (args : List Val) (place : Option Ty) → Fits intrinsic.Print args types place → list_all is_scalar_number types ≡ true
print_kinds types args place fit = (and_parts (list_all is_scalar_number types) (gives_nothing place) fit.fitting).0

pub no_texts : (types : List Ty) → spaced (texts_in types []) ≡ []
no_texts [] = refl
no_texts (t ∷ types) = refl

pub printed_done : (types : List Ty) (args : List Val) (place : Option Ty) (picks : List ℕ) (s : Scene) (x : Tables) (old new : List ℕ) → list_all is_scalar_number types ≡ true → HaveShapes types args
    → new ≡ old ++ spaced (texts_in types args) → IsDone intrinsic.Print (quiet None) (operated intrinsic.Print args types place picks (begun s x)) s x old new
unfolding operated
printed_done types args place picks s x old new all shapes is = record {
  notes = record (notes_in s) { printed = spaced (texts_in types args) ∷ [] };
  went = ap (λ r. run answer (memory_part (reading_part r) >>= λ texts. Ask (Print (spaced texts)) (λ u. Done None)) (begun s x)) (texts_done types args all shapes);
  tally = refl;
  event = refl;
  going = refl;
  woken = refl;
  printed = (spaced (texts_in types args), refl, is);
}

pub ruleset text_laws = (number_there, truth_there)
