-- The equations of the canonical words of types, one for each kind of tree and type.
use Rattle.mr_ast.proofs.Common.{◌≡◌, ℕ, suc, Bool, List, [], ◌∷◌, ◌++◌, length, map, refl, sym, ap, ◌∙◌, codes, decimal, if◌then◌else◌, IntType, Num, Tree, Tree-F, fold-roll-Tree, Ty, roll-Ty, Ty-F, map-Ty, fold-Variant, fold-roll-Ty, fold-roll-Variant, Variant, out-Variant, Texts, int_word, num_words, words_of_type}
use Rattle.std.specs.Prelude.{flat_map}
use Rattle.mr_ast.specs.CanonTypes.{braced, shape_words, chunk_words, case_row, tree_words_step, words_of_tree, field_row, is_unit, type_words_step, variant_words_step, case_words, field_words, variant_words}
use Rattle.mr_ast.specs.declared.types.Tree.TheVariants as tree
use Rattle.mr_ast.specs.declared.types.Ty.TheVariants as ty

-- rows that are made of mapped things
pub flat_map-map : {X Y A : Type 0} (f : Y → List A) (g : X → Y) (xs : List X) → flat_map f (map g xs) ≡ flat_map (λ x. f (g x)) xs
flat_map-map f g [] = refl
flat_map-map f g (x ∷ xs) = ap (λ rest. f (g x) ++ rest) (flat_map-map f g xs)

map-map : {X Y Z : Type 0} (f : Y → Z) (g : X → Y) (xs : List X) → map f (map g xs) ≡ map (λ x. f (g x)) xs
map-map f g [] = refl
map-map f g (x ∷ xs) = ap (λ rest. f (g x) ∷ rest) (map-map f g xs)

length-mapped : {X Y : Type 0} (g : X → Y) (xs : List X) → length (map g xs) ≡ length xs
length-mapped g [] = refl
length-mapped g (x ∷ xs) = ap suc (length-mapped g xs)

pub words_known : (n : Num) → words_of_tree (tree.Known n) ≡ codes "known" ∷ num_words n
unfolding words_of_tree
words_known n = ap words_of_tree (sym (tree.rolls-Known n)) ∙ fold-roll-Tree Texts tree_words_step (Tree-F.Known n)

pub words_invalid : words_of_tree tree.Invalid ≡ codes "invalid" ∷ []
unfolding words_of_tree
words_invalid = ap words_of_tree (sym tree.rolls-Invalid) ∙ fold-roll-Tree Texts tree_words_step Tree-F.Invalid

pub words_branch : (at : ℕ) (int : IntType) (cases : List (Num × Tree)) (other : Tree)
    → words_of_tree (tree.Branch at int cases other)
    ≡ codes "branch" ∷ decimal at ∷ int_word int ∷ codes "{" ∷ flat_map case_words cases
    ++ codes "_" ∷ codes "=>" ∷ words_of_tree other ++ codes "}" ∷ []
unfolding words_of_tree
words_branch at int cases other =
    ap words_of_tree (sym (tree.rolls-Branch at int cases other)) ∙ fold-roll-Tree Texts tree_words_step (Tree-F.Branch at int cases other)
    ∙ ap (λ rows. codes "branch" ∷ decimal at ∷ int_word int ∷ codes "{" ∷ rows ++ codes "_" ∷ codes "=>" ∷ words_of_tree other ++ codes "}" ∷ [])
    (flat_map-map case_row (λ (c : Num × Tree). (c.0, words_of_tree c.1)) cases)

-- one level, at a type that is made of it
words_roll : (d : Ty-F Ty Variant)
    → words_of_type (roll-Ty d) ≡ type_words_step (map-Ty Ty Variant Texts Texts words_of_type (fold-Variant Texts Texts type_words_step variant_words_step) d)
unfolding words_of_type
words_roll d = fold-roll-Ty Texts Texts type_words_step variant_words_step d

variant_is : (v : Variant) → fold-Variant Texts Texts type_words_step variant_words_step v ≡ variant_words v
unfolding words_of_type
variant_is v = fold-roll-Variant Texts Texts type_words_step variant_words_step (out-Variant v)

variants_are : (variants : List Variant) → map (fold-Variant Texts Texts type_words_step variant_words_step) variants ≡ map variant_words variants
variants_are [] = refl
variants_are (v ∷ variants) = (λ i. variant_is v i ∷ variants_are variants i)

fields_are : (fields : List (ℕ × Ty)) → map field_row (map (λ (f : ℕ × Ty). (f.0, words_of_type f.1)) fields) ≡ map field_words fields
fields_are fields = map-map field_row (λ (f : ℕ × Ty). (f.0, words_of_type f.1)) fields

pub words_int_type : (i : IntType) → words_of_type (ty.Int i) ≡ int_word i ∷ []
words_int_type i = ap words_of_type (sym (ty.rolls-Int i)) ∙ words_roll (Ty-F.Int i)

pub words_bool : words_of_type ty.Bool ≡ codes "bool" ∷ []
words_bool = ap words_of_type (sym ty.rolls-Bool) ∙ words_roll Ty-F.Bool

pub words_raw_type : words_of_type ty.Raw ≡ codes "raw" ∷ []
words_raw_type = ap words_of_type (sym ty.rolls-Raw) ∙ words_roll Ty-F.Raw

pub words_fn_ptr : words_of_type ty.FnPtr ≡ codes "fnptr" ∷ []
words_fn_ptr = ap words_of_type (sym ty.rolls-FnPtr) ∙ words_roll Ty-F.FnPtr

pub words_ref : (size align : ℕ) (never : Bool)
    → words_of_type (ty.Ref size align never) ≡ codes "ref" ∷ decimal size ∷ decimal align ∷ (if never then codes "never" ∷ [] else [])
words_ref size align never = ap words_of_type (sym (ty.rolls-Ref size align never)) ∙ words_roll (Ty-F.Ref size align never)

pub words_tuple_type : (size align : ℕ) (fields : List (ℕ × Ty)) → words_of_type (ty.Tuple size align fields)
    ≡ (if is_unit size align (length fields) then codes "unit" ∷ [] else codes "tuple" ∷ shape_words size align ++ braced (map field_words fields))
words_tuple_type size align fields =
    let mapped = map (λ (f : ℕ × Ty). (f.0, words_of_type f.1)) fields in
    ap words_of_type (sym (ty.rolls-Tuple size align fields)) ∙ words_roll (Ty-F.Tuple size align fields)
    ∙ ap (λ n. if is_unit size align n then codes "unit" ∷ [] else codes "tuple" ∷ shape_words size align ++ braced (map field_row mapped)) (length-mapped (λ (f : ℕ × Ty). (f.0, words_of_type f.1)) fields)
    ∙ ap (λ rows. if is_unit size align (length fields) then codes "unit" ∷ [] else codes "tuple" ∷ shape_words size align ++ braced rows) (fields_are fields)

pub words_array : (count : ℕ) (elem : Ty)
    → words_of_type (ty.Array count elem) ≡ codes "array" ∷ codes "(" ∷ decimal count ∷ codes "," ∷ words_of_type elem ++ codes ")" ∷ []
words_array count elem = ap words_of_type (sym (ty.rolls-Array count elem)) ∙ words_roll (Ty-F.Array count elem)

pub words_union_type : (size align : ℕ) (fields : List (ℕ × Ty)) (chunks : List (ℕ × ℕ)) → words_of_type (ty.Union size align fields chunks)
    ≡ codes "union" ∷ shape_words size align ++ braced (map field_words fields) ++ codes "chunks" ∷ braced (map chunk_words chunks)
words_union_type size align fields chunks =
    ap words_of_type (sym (ty.rolls-Union size align fields chunks)) ∙ words_roll (Ty-F.Union size align fields chunks)
    ∙ ap (λ rows. codes "union" ∷ shape_words size align ++ braced rows ++ codes "chunks" ∷ braced (map chunk_words chunks)) (fields_are fields)

pub words_enum : (size align : ℕ) (disc : IntType) (variants : List Variant) (t : Tree) → words_of_type (ty.Enum size align disc variants t)
    ≡ codes "enum" ∷ shape_words size align ++ codes "disc" ∷ int_word disc ∷ braced (map variant_words variants) ++ words_of_tree t
words_enum size align disc variants t =
    ap words_of_type (sym (ty.rolls-Enum size align disc variants t)) ∙ words_roll (Ty-F.Enum size align disc variants t)
    ∙ ap (λ rows. codes "enum" ∷ shape_words size align ++ codes "disc" ∷ int_word disc ∷ braced rows ++ words_of_tree t) (variants_are variants)
