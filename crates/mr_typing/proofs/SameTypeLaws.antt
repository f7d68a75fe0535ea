-- Two types are written alike exactly where they are equal; the same of trees and variants.
use Rattle.mr_typing.proofs.Common.{◌≡◌, ◌↔◌, ℕ, Bool, true, false, IsTrue, List, [], ◌∷◌, map, refl, sym, ap, ap₂, subst, ◌∙◌, ◌&&◌, ◌==◌, if◌then◌else◌, same_from_decides, and_parts, IntType, U64, Num, Ty, roll-Ty, out-Ty, Ty-F, Variant, int_size, type_made, same_type}
use Rattle.std.specs.Cmp.Derive.{both_true}
use Rattle.mr_ast.specs.declared.types.IntType.TheVariants.{U8, U16, U32, U128, I8, I16, I32, I64, I128}
use Rattle.mr_ast.specs.declared.types.Tag.{Tag}
use Rattle.mr_ast.specs.declared.types.Tree.{Tree, roll-Tree, out-Tree, out-roll-Tree}
use Rattle.mr_ast.specs.declared.types.Tree.TheOpen.{Tree-F}
use Rattle.mr_ast.specs.declared.types.Tree.TheFolds.{map-Tree, ind-Tree, fold-roll-Tree}
use Rattle.mr_ast.specs.declared.types.Ty.{out-roll-Ty}
use Rattle.mr_ast.specs.declared.types.Ty.TheOpen.{Variant-F}
use Rattle.mr_ast.specs.declared.types.Ty.TheFolds.{map-Ty, map-Variant, fold-Variant, fold-roll-Ty, fold-roll-Variant, ind-Ty}
use Rattle.mr_ast.specs.declared.types.Variant.{roll-Variant, out-Variant}
use Rattle.mr_ast.specs.Integers.{is_signed}
use Rattle.mr_ast.proofs.TreeInduction.{tree_made}
use Rattle.mr_layout.specs.EnumRules.{same_num}
use Rattle.mr_layout.proofs.TreeOk.{same_num_equal}
use Rattle.mr_typing.specs.SameTypes.{same_bool, same_cases, same_chunks, same_fields, same_int, same_layer, same_tags, same_tree, same_tree_layer, same_variant_layer, same_variants}
use Rattle.mr_layout.proofs.BaseComparisons.{eq_from, eq_itself}

-- ---- numbers and lists

pub same_bool_equal : (a b : Bool) → same_bool a b ≡ true → a ≡ b
same_bool_equal true true e = refl
same_bool_equal true false e = absurd (cc)
same_bool_equal false true e = absurd (cc)
same_bool_equal false false e = refl

pub same_bool_itself : (a : Bool) → same_bool a a ≡ true
same_bool_itself true = refl
same_bool_itself false = refl

-- the integer type of a size and a sign
abbrev int_of : ℕ → Bool → IntType
int_of size true = if size == 1 then I8 else (if size == 2 then I16 else (if size == 4 then I32 else (if size == 8 then I64 else I128)))
int_of size false = if size == 1 then U8 else (if size == 2 then U16 else (if size == 4 then U32 else (if size == 8 then U64 else U128)))

int_of_is : (i : IntType) → int_of (int_size i) (is_signed i) ≡ i
int_of_is U8 = refl
int_of_is U16 = refl
int_of_is U32 = refl
int_of_is U64 = refl
int_of_is U128 = refl
int_of_is I8 = refl
int_of_is I16 = refl
int_of_is I32 = refl
int_of_is I64 = refl
int_of_is I128 = refl

pub same_int_equal : (i j : IntType) → same_int i j ≡ true → i ≡ j
same_int_equal i j e =
    let p = and_parts (int_size i == int_size j) (same_bool (is_signed i) (is_signed j)) e in
    sym (int_of_is i) ∙ ap₂ int_of (eq_from (int_size i) (int_size j) p.0) (same_bool_equal (is_signed i) (is_signed j) p.1) ∙ int_of_is j

pub same_int_itself : (i : IntType) → same_int i i ≡ true
same_int_itself i = both_true (eq_itself (int_size i)) (same_bool_itself (is_signed i))

pub same_num_itself : (n : Num) → same_num n n ≡ true
same_num_itself n = both_true (same_bool_itself n.neg) (eq_itself n.mag)

abbrev chunk_at : ℕ → ℕ → ℕ × ℕ
chunk_at at len = (at, len)

pub same_chunks_equal : (cs ds : List (ℕ × ℕ)) → same_chunks cs ds ≡ true → cs ≡ ds
same_chunks_equal [] [] e = refl
same_chunks_equal (c ∷ cs) (d ∷ ds) e =
    let p = and_parts (c.0 == d.0) ((c.1 == d.1) && same_chunks cs ds) e in
    let q = and_parts (c.1 == d.1) (same_chunks cs ds) p.1 in
    let one : c ≡ d = ap₂ chunk_at (eq_from c.0 d.0 p.0) (eq_from c.1 d.1 q.0) in
    ap₂ (λ (x : ℕ × ℕ) (xs : List (ℕ × ℕ)). x ∷ xs) one (same_chunks_equal cs ds q.1)
same_chunks_equal _ _ e = absurd (cc)

pub same_chunks_itself : (cs : List (ℕ × ℕ)) → same_chunks cs cs ≡ true
same_chunks_itself [] = refl
same_chunks_itself (c ∷ cs) = both_true (eq_itself c.0) (both_true (eq_itself c.1) (same_chunks_itself cs))

abbrev tag_at : ℕ → IntType → Num → Tag
tag_at at int number = record { at = at; int = int; number = number }

pub same_tags_equal : (ts us : List Tag) → same_tags ts us ≡ true → ts ≡ us
same_tags_equal [] [] e = refl
same_tags_equal (t ∷ ts) (u ∷ us) e =
    let p = and_parts (t.at == u.at) (same_int t.int u.int && (same_num t.number u.number && same_tags ts us)) e in
    let q = and_parts (same_int t.int u.int) (same_num t.number u.number && same_tags ts us) p.1 in
    let r = and_parts (same_num t.number u.number) (same_tags ts us) q.1 in
    let one : t ≡ u = ap (λ (at : ℕ). tag_at at t.int t.number) (eq_from t.at u.at p.0) ∙ ap₂ (tag_at u.at) (same_int_equal t.int u.int q.0) (same_num_equal t.number u.number r.0) in
    ap₂ (λ (x : Tag) (xs : List Tag). x ∷ xs) one (same_tags_equal ts us r.1)
same_tags_equal _ _ e = absurd (cc)

pub same_tags_itself : (ts : List Tag) → same_tags ts ts ≡ true
same_tags_itself [] = refl
same_tags_itself (t ∷ ts) = both_true (eq_itself t.at) (both_true (same_int_itself t.int) (both_true (same_num_itself t.number) (same_tags_itself ts)))

-- ---- trees

tree_roll : (d : Tree-F Tree) (u : Tree) → same_tree (roll-Tree d) u ≡ same_tree_layer (map-Tree Tree (Tree → Bool) same_tree d) (out-Tree u)
unfolding same_tree
tree_roll d u = ap (λ (test : Tree → Bool). test u) (fold-roll-Tree (Tree → Bool) (λ layer u. same_tree_layer layer (out-Tree u)) d)

-- each tree that is told alike is this one, and this one is told alike
record TreeSame (t : Tree) : Type 0 where
  equal : (u : Tree) → same_tree t u ≡ true → t ≡ u
  itself : same_tree t t ≡ true

abbrev ShownTree : Type 0
ShownTree = (t : Tree) × TreeSame t

abbrev cases_of : List (Num × ShownTree) → List (Num × Tree)
cases_of ys = map (λ (c : Num × ShownTree). (c.0, c.1.0)) ys

abbrev case_tests : List (Num × Tree) → List (Num × (Tree → Bool))
case_tests cases = map (λ (c : Num × Tree). (c.0, same_tree c.1)) cases

abbrev case_at : Num → Tree → Num × Tree
case_at n t = (n, t)

cases_equal : (ys : List (Num × ShownTree)) (ds : List (Num × Tree)) → same_cases (case_tests (cases_of ys)) ds ≡ true → cases_of ys ≡ ds
cases_equal [] [] e = refl
cases_equal (y ∷ ys) (d ∷ ds) e =
    let p = and_parts (same_num y.0 d.0) (same_tree y.1.0 d.1 && same_cases (case_tests (cases_of ys)) ds) e in
    let q = and_parts (same_tree y.1.0 d.1) (same_cases (case_tests (cases_of ys)) ds) p.1 in
    let one : case_at y.0 y.1.0 ≡ d = ap₂ case_at (same_num_equal y.0 d.0 p.0) (y.1.1.equal d.1 q.0) in
    ap₂ (λ (c : Num × Tree) (cs : List (Num × Tree)). c ∷ cs) one (cases_equal ys ds q.1)
cases_equal _ _ e = absurd (cc)

cases_itself : (ys : List (Num × ShownTree)) → same_cases (case_tests (cases_of ys)) (cases_of ys) ≡ true
cases_itself [] = refl
cases_itself (y ∷ ys) = both_true (same_num_itself y.0) (both_true y.1.1.itself (cases_itself ys))

abbrev tree_of : Tree-F ShownTree → Tree-F Tree
tree_of y = map-Tree ShownTree Tree (λ e. e.0) y

abbrev tree_tests : Tree-F Tree → Tree-F (Tree → Bool)
tree_tests d = map-Tree Tree (Tree → Bool) same_tree d

tree_layer_equal : (y : Tree-F ShownTree) (x : Tree-F Tree) → same_tree_layer (tree_tests (tree_of y)) x ≡ true → tree_of y ≡ x
tree_layer_equal (Tree-F.Known n) (Tree-F.Known m) e = ap (λ (k : Num). Tree-F.Known k) (same_num_equal n m e)
tree_layer_equal Tree-F.Invalid Tree-F.Invalid e = refl
tree_layer_equal (Tree-F.Branch at i ys rest) (Tree-F.Branch at2 i2 ds other) e =
    let p = and_parts (at == at2) (same_int i i2 && (same_cases (case_tests (cases_of ys)) ds && same_tree rest.0 other)) e in
    let q = and_parts (same_int i i2) (same_cases (case_tests (cases_of ys)) ds && same_tree rest.0 other) p.1 in
    let r = and_parts (same_cases (case_tests (cases_of ys)) ds) (same_tree rest.0 other) q.1 in
    ap₂ (λ (a : ℕ) (int : IntType). Tree-F.Branch a int (cases_of ys) rest.0) (eq_from at at2 p.0) (same_int_equal i i2 q.0)
    ∙ ap₂ (λ (cs : List (Num × Tree)) (t : Tree). Tree-F.Branch at2 i2 cs t) (cases_equal ys ds r.0) (rest.1.equal other r.1)
tree_layer_equal _ _ e = absurd (cc)

tree_layer_itself : (y : Tree-F ShownTree) → same_tree_layer (tree_tests (tree_of y)) (tree_of y) ≡ true
tree_layer_itself (Tree-F.Known n) = same_num_itself n
tree_layer_itself Tree-F.Invalid = refl
tree_layer_itself (Tree-F.Branch at i ys rest) = both_true (eq_itself at) (both_true (same_int_itself i) (both_true (cases_itself ys) rest.1.itself))

tree_same_layer : (y : Tree-F ShownTree) → TreeSame (roll-Tree (tree_of y))
tree_same_layer y = record {
  equal = λ u e. ap roll-Tree (tree_layer_equal y (out-Tree u) (sym (tree_roll (tree_of y) u) ∙ e)) ∙ tree_made u;
  itself = tree_roll (tree_of y) (roll-Tree (tree_of y)) ∙ ap (same_tree_layer (tree_tests (tree_of y))) (out-roll-Tree (tree_of y)) ∙ tree_layer_itself y;
}

tree_same : (t : Tree) → TreeSame t
tree_same = ind-Tree TreeSame (λ x y is. subst (λ z. TreeSame (roll-Tree z)) is (tree_same_layer y))

pub same_tree_equal : (t u : Tree) → same_tree t u ≡ true → t ≡ u
same_tree_equal t u e = (tree_same t).equal u e

pub same_tree_itself : (t : Tree) → same_tree t t ≡ true
same_tree_itself t = (tree_same t).itself

-- ---- types

abbrev pub Test : Type 0
Test = Ty → Bool

abbrev pub VariantTest : Type 0
VariantTest = Variant → Bool

abbrev type_step : Ty-F Test VariantTest → Test
type_step layer u = same_layer layer (out-Ty u)

abbrev variant_step : Variant-F Test VariantTest → VariantTest
variant_step layer w = same_variant_layer layer (out-Variant w)

unfoldable pub same_variant : Variant → Variant → Bool
same_variant = fold-Variant Test VariantTest type_step variant_step

variant_is : (v w : Variant) → same_variant v w ≡ (same_num v.number w.number && (same_type v.ty w.ty && same_tags v.tags w.tags))
unfolding same_type same_variant
variant_is v w = ap (λ (test : VariantTest). test w) (fold-roll-Variant Test VariantTest type_step variant_step (out-Variant v))

type_roll : (d : Ty-F Ty Variant) (u : Ty) → same_type (roll-Ty d) u ≡ same_layer (map-Ty Ty Variant Test VariantTest same_type same_variant d) (out-Ty u)
unfolding same_type same_variant
type_roll d u = ap (λ (test : Test). test u) (fold-roll-Ty Test VariantTest type_step variant_step d)

record TypeSame (t : Ty) : Type 0 where
  equal : (u : Ty) → same_type t u ≡ true → t ≡ u
  itself : same_type t t ≡ true

record VariantSame (v : Variant) : Type 0 where
  equal : (w : Variant) → same_variant v w ≡ true → v ≡ w
  itself : same_variant v v ≡ true

abbrev Shown : Type 0
Shown = (t : Ty) × TypeSame t

abbrev ShownVariant : Type 0
ShownVariant = (v : Variant) × VariantSame v

abbrev fields_of : List (ℕ × Shown) → List (ℕ × Ty)
fields_of ys = map (λ (f : ℕ × Shown). (f.0, f.1.0)) ys

abbrev pub field_tests : List (ℕ × Ty) → List (ℕ × Test)
field_tests fields = map (λ (f : ℕ × Ty). (f.0, same_type f.1)) fields

abbrev field_at : ℕ → Ty → ℕ × Ty
field_at n t = (n, t)

fields_equal : (ys : List (ℕ × Shown)) (gs : List (ℕ × Ty)) → same_fields (field_tests (fields_of ys)) gs ≡ true → fields_of ys ≡ gs
fields_equal [] [] e = refl
fields_equal (y ∷ ys) (g ∷ gs) e =
    let p = and_parts (y.0 == g.0) (same_type y.1.0 g.1 && same_fields (field_tests (fields_of ys)) gs) e in
    let q = and_parts (same_type y.1.0 g.1) (same_fields (field_tests (fields_of ys)) gs) p.1 in
    let one : field_at y.0 y.1.0 ≡ g = ap₂ field_at (eq_from y.0 g.0 p.0) (y.1.1.equal g.1 q.0) in
    ap₂ (λ (f : ℕ × Ty) (fs : List (ℕ × Ty)). f ∷ fs) one (fields_equal ys gs q.1)
fields_equal _ _ e = absurd (cc)

fields_itself : (ys : List (ℕ × Shown)) → same_fields (field_tests (fields_of ys)) (fields_of ys) ≡ true
fields_itself [] = refl
fields_itself (y ∷ ys) = both_true (eq_itself y.0) (both_true y.1.1.itself (fields_itself ys))

abbrev variants_of : List ShownVariant → List Variant
variants_of ys = map (λ (v : ShownVariant). v.0) ys

variants_equal : (ys : List ShownVariant) (ws : List Variant) → same_variants (map same_variant (variants_of ys)) ws ≡ true → variants_of ys ≡ ws
variants_equal [] [] e = refl
variants_equal (y ∷ ys) (w ∷ ws) e =
    let p = and_parts (same_variant y.0 w) (same_variants (map same_variant (variants_of ys)) ws) e in
    ap₂ (λ (v : Variant) (vs : List Variant). v ∷ vs) (y.1.equal w p.0) (variants_equal ys ws p.1)
variants_equal _ _ e = absurd (cc)

variants_itself : (ys : List ShownVariant) → same_variants (map same_variant (variants_of ys)) (variants_of ys) ≡ true
variants_itself [] = refl
variants_itself (y ∷ ys) = both_true y.1.itself (variants_itself ys)

abbrev type_of_shown : Ty-F Shown ShownVariant → Ty-F Ty Variant
type_of_shown y = map-Ty Shown ShownVariant Ty Variant (λ e. e.0) (λ e. e.0) y

abbrev pub type_tests : Ty-F Ty Variant → Ty-F Test VariantTest
type_tests d = map-Ty Ty Variant Test VariantTest same_type same_variant d

layer_equal : (y : Ty-F Shown ShownVariant) (x : Ty-F Ty Variant) → same_layer (type_tests (type_of_shown y)) x ≡ true → type_of_shown y ≡ x
layer_equal (Ty-F.Int i) (Ty-F.Int j) e = ap (λ (k : IntType). Ty-F.Int k) (same_int_equal i j e)
layer_equal Ty-F.Bool Ty-F.Bool e = refl
layer_equal Ty-F.Raw Ty-F.Raw e = refl
layer_equal Ty-F.FnPtr Ty-F.FnPtr e = refl
layer_equal (Ty-F.Ref size align never) (Ty-F.Ref size2 align2 never2) e =
    let p = and_parts (size == size2) ((align == align2) && same_bool never never2) e in
    let q = and_parts (align == align2) (same_bool never never2) p.1 in
    ap₂ (λ (s a : ℕ). Ty-F.Ref s a never) (eq_from size size2 p.0) (eq_from align align2 q.0) ∙ ap (λ (b : Bool). Ty-F.Ref size2 align2 b) (same_bool_equal never never2 q.1)
layer_equal (Ty-F.Tuple size align ys) (Ty-F.Tuple size2 align2 gs) e =
    let p = and_parts (size == size2) ((align == align2) && same_fields (field_tests (fields_of ys)) gs) e in
    let q = and_parts (align == align2) (same_fields (field_tests (fields_of ys)) gs) p.1 in
    ap₂ (λ (s a : ℕ). Ty-F.Tuple s a (fields_of ys)) (eq_from size size2 p.0) (eq_from align align2 q.0) ∙ ap (λ (fs : List (ℕ × Ty)). Ty-F.Tuple size2 align2 fs) (fields_equal ys gs q.1)
layer_equal (Ty-F.Array count y) (Ty-F.Array count2 t) e =
    let p = and_parts (count == count2) (same_type y.0 t) e in
    ap₂ (λ (n : ℕ) (u : Ty). Ty-F.Array n u) (eq_from count count2 p.0) (y.1.equal t p.1)
layer_equal (Ty-F.Union size align ys chunks) (Ty-F.Union size2 align2 gs chunks2) e =
    let p = and_parts (size == size2) ((align == align2) && (same_fields (field_tests (fields_of ys)) gs && same_chunks chunks chunks2)) e in
    let q = and_parts (align == align2) (same_fields (field_tests (fields_of ys)) gs && same_chunks chunks chunks2) p.1 in
    let r = and_parts (same_fields (field_tests (fields_of ys)) gs) (same_chunks chunks chunks2) q.1 in
    ap₂ (λ (s a : ℕ). Ty-F.Union s a (fields_of ys) chunks) (eq_from size size2 p.0) (eq_from align align2 q.0)
    ∙ ap₂ (λ (fs : List (ℕ × Ty)) (cs : List (ℕ × ℕ)). Ty-F.Union size2 align2 fs cs) (fields_equal ys gs r.0) (same_chunks_equal chunks chunks2 r.1)
layer_equal (Ty-F.Enum size align disc ys tree) (Ty-F.Enum size2 align2 disc2 ws tree2) e =
    let variants = same_variants (map same_variant (variants_of ys)) ws in
    let p = and_parts (size == size2) ((align == align2) && (same_int disc disc2 && (variants && same_tree tree tree2))) e in
    let q = and_parts (align == align2) (same_int disc disc2 && (variants && same_tree tree tree2)) p.1 in
    let r = and_parts (same_int disc disc2) (variants && same_tree tree tree2) q.1 in
    let t = and_parts variants (same_tree tree tree2) r.1 in
    ap₂ (λ (s a : ℕ). Ty-F.Enum s a disc (variants_of ys) tree) (eq_from size size2 p.0) (eq_from align align2 q.0)
    ∙ ap₂ (λ (d : IntType) (vs : List Variant). Ty-F.Enum size2 align2 d vs tree) (same_int_equal disc disc2 r.0) (variants_equal ys ws t.0)
    ∙ ap (λ (u : Tree). Ty-F.Enum size2 align2 disc2 ws u) (same_tree_equal tree tree2 t.1)
layer_equal _ _ e = absurd (cc)

layer_itself : (y : Ty-F Shown ShownVariant) → same_layer (type_tests (type_of_shown y)) (type_of_shown y) ≡ true
layer_itself (Ty-F.Int i) = same_int_itself i
layer_itself Ty-F.Bool = refl
layer_itself Ty-F.Raw = refl
layer_itself Ty-F.FnPtr = refl
layer_itself (Ty-F.Ref size align never) = both_true (eq_itself size) (both_true (eq_itself align) (same_bool_itself never))
layer_itself (Ty-F.Tuple size align ys) = both_true (eq_itself size) (both_true (eq_itself align) (fields_itself ys))
layer_itself (Ty-F.Array count y) = both_true (eq_itself count) y.1.itself
layer_itself (Ty-F.Union size align ys chunks) = both_true (eq_itself size) (both_true (eq_itself align) (both_true (fields_itself ys) (same_chunks_itself chunks)))
layer_itself (Ty-F.Enum size align disc ys tree) =
    both_true (eq_itself size) (both_true (eq_itself align) (both_true (same_int_itself disc) (both_true (variants_itself ys) (same_tree_itself tree))))

type_same_layer : (y : Ty-F Shown ShownVariant) → TypeSame (roll-Ty (type_of_shown y))
type_same_layer y = record {
  equal = λ u e. ap roll-Ty (layer_equal y (out-Ty u) (sym (type_roll (type_of_shown y) u) ∙ e)) ∙ type_made u;
  itself = type_roll (type_of_shown y) (roll-Ty (type_of_shown y)) ∙ ap (same_layer (type_tests (type_of_shown y))) (out-roll-Ty (type_of_shown y)) ∙ layer_itself y;
}

abbrev variant_with : Num → Ty → List Tag → Variant
variant_with number t tags = record { number = number; ty = t; tags = tags }

variant_equal : (v w : Variant) → TypeSame v.ty → same_variant v w ≡ true → v ≡ w
variant_equal v w same e =
    let p = and_parts (same_num v.number w.number) (same_type v.ty w.ty && same_tags v.tags w.tags) (sym (variant_is v w) ∙ e) in
    let q = and_parts (same_type v.ty w.ty) (same_tags v.tags w.tags) p.1 in
    ap₂ (λ (n : Num) (t : Ty). variant_with n t v.tags) (same_num_equal v.number w.number p.0) (same.equal w.ty q.0)
    ∙ ap (λ (ts : List Tag). variant_with w.number w.ty ts) (same_tags_equal v.tags w.tags q.1)

variant_same : (v : Variant) → TypeSame v.ty → VariantSame v
variant_same v same = record {
  equal = λ w e. variant_equal v w same e;
  itself = variant_is v v ∙ both_true (same_num_itself v.number) (both_true same.itself (same_tags_itself v.tags));
}

variant_same_layer : (y : Variant-F Shown ShownVariant) → VariantSame (roll-Variant (map-Variant Shown ShownVariant Ty Variant (λ e. e.0) (λ e. e.0) y))
variant_same_layer y = variant_same (roll-Variant (map-Variant Shown ShownVariant Ty Variant (λ e. e.0) (λ e. e.0) y)) y.ty.1

type_same : (t : Ty) → TypeSame t
type_same = ind-Ty TypeSame VariantSame
    (λ x y is. subst (λ z. TypeSame (roll-Ty z)) is (type_same_layer y))
    (λ x y is. subst (λ z. VariantSame (roll-Variant z)) is (variant_same_layer y))

pub same_type_equal : (t u : Ty) → same_type t u ≡ true → t ≡ u
same_type_equal t u e = (type_same t).equal u e

pub same_type_itself : (t : Ty) → same_type t t ≡ true
same_type_itself t = (type_same t).itself

-- the test is the one answer that is true exactly where the types are equal
pub same_type_answer : (b : Bool) (t u : Ty) → (IsTrue b ↔ (t ≡ u)) → b ≡ same_type t u
same_type_answer b t u tells = same_from_decides {P = t ≡ u} b (same_type t u) tells (same_type_equal t u, λ e. subst (λ (x : Ty). same_type t x ≡ true) e (same_type_itself t))

-- ---- one level
