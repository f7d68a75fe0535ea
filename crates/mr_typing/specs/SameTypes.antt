-- Types that are written alike.
use Rattle.std.specs.Prelude.{ℕ, Bool, true, false, not, ◌&&◌, ◌==◌, if◌then◌else◌, List, [], ◌∷◌}
use Rattle.mr_ast.specs.declared.types.IntType.{IntType}
use Rattle.mr_ast.specs.declared.types.Num.{Num}
use Rattle.mr_ast.specs.declared.types.Tag.{Tag}
use Rattle.mr_ast.specs.declared.types.Tree.{Tree, out-Tree}
use Rattle.mr_ast.specs.declared.types.Tree.TheOpen.{Tree-F}
use Rattle.mr_ast.specs.declared.types.Tree.TheFolds.{fold-Tree}
use Rattle.mr_ast.specs.declared.types.Ty.{Ty, out-Ty}
use Rattle.mr_ast.specs.declared.types.Ty.TheOpen.{Ty-F, Variant-F}
use Rattle.mr_ast.specs.declared.types.Ty.TheFolds.{fold-Ty}
use Rattle.mr_ast.specs.declared.types.Variant.{Variant, out-Variant}
use Rattle.mr_ast.specs.Integers.{is_signed, int_size}
use Rattle.mr_layout.specs.EnumRules.{same_num}

-- both are true or both are false
abbrev pub same_bool : Bool → Bool → Bool
same_bool a b = if a then b else not b

-- an integer type is told by its size and its sign
abbrev pub same_int : IntType → IntType → Bool
same_int i j = (int_size i == int_size j) && same_bool (is_signed i) (is_signed j)

-- the same chunks in the same order
abbrev pub same_chunks : List (ℕ × ℕ) → List (ℕ × ℕ) → Bool
same_chunks [] [] = true
same_chunks (c ∷ cs) (d ∷ ds) = (c.0 == d.0) && ((c.1 == d.1) && same_chunks cs ds)
same_chunks _ _ = false

-- the same tags in the same order
abbrev pub same_tags : List Tag → List Tag → Bool
same_tags [] [] = true
same_tags (t ∷ ts) (u ∷ us) =
    (t.at == u.at) && (same_int t.int u.int && (same_num t.number u.number && same_tags ts us))
same_tags _ _ = false

-- the cases of two branches, where the test of each tree stands in its place
abbrev pub same_cases : List (Num × (Tree → Bool)) → List (Num × Tree) → Bool
same_cases [] [] = true
same_cases (c ∷ cs) (d ∷ ds) = same_num c.0 d.0 && (c.1 d.1 && same_cases cs ds)
same_cases _ _ = false

-- one level of two trees
abbrev pub same_tree_layer : Tree-F (Tree → Bool) → Tree-F Tree → Bool
same_tree_layer (Tree-F.Known n) (Tree-F.Known m) = same_num n m
same_tree_layer Tree-F.Invalid Tree-F.Invalid = true
same_tree_layer (Tree-F.Branch at i cases other) (Tree-F.Branch at2 j cases2 other2) =
    (at == at2) && (same_int i j && (same_cases cases cases2 && other other2))
same_tree_layer _ _ = false

-- the trees are written alike
unfoldable pub same_tree : Tree → Tree → Bool
same_tree = fold-Tree (Tree → Bool) (λ layer u. same_tree_layer layer (out-Tree u))

-- the fields of two types, where the test of each type stands in its place
abbrev pub same_fields : List (ℕ × (Ty → Bool)) → List (ℕ × Ty) → Bool
same_fields [] [] = true
same_fields (f ∷ fs) (g ∷ gs) = (f.0 == g.0) && (f.1 g.1 && same_fields fs gs)
same_fields _ _ = false

-- the same of variants
abbrev pub same_variants : List (Variant → Bool) → List Variant → Bool
same_variants [] [] = true
same_variants (v ∷ vs) (w ∷ ws) = v w && same_variants vs ws
same_variants _ _ = false

-- one level of two types
abbrev pub same_layer : Ty-F (Ty → Bool) (Variant → Bool) → Ty-F Ty Variant → Bool
same_layer (Ty-F.Int i) (Ty-F.Int j) = same_int i j
same_layer Ty-F.Bool Ty-F.Bool = true
same_layer Ty-F.Raw Ty-F.Raw = true
same_layer Ty-F.FnPtr Ty-F.FnPtr = true
same_layer (Ty-F.Ref size align never) (Ty-F.Ref size2 align2 never2) =
    (size == size2) && ((align == align2) && same_bool never never2)
same_layer (Ty-F.Tuple size align fields) (Ty-F.Tuple size2 align2 fields2) =
    (size == size2) && ((align == align2) && same_fields fields fields2)
same_layer (Ty-F.Array count elem) (Ty-F.Array count2 elem2) = (count == count2) && elem elem2
same_layer (Ty-F.Union size align fields chunks) (Ty-F.Union size2 align2 fields2 chunks2) =
    (size == size2) && ((align == align2) && (same_fields fields fields2 && same_chunks chunks chunks2))
same_layer (Ty-F.Enum size align disc variants tree) (Ty-F.Enum size2 align2 disc2 variants2 tree2) =
    (size == size2)
    && ((align == align2) && (same_int disc disc2 && (same_variants variants variants2 && same_tree tree tree2)))
same_layer _ _ = false

-- variants with the same number, type and tags
abbrev pub same_variant_layer : Variant-F (Ty → Bool) (Variant → Bool) → Variant-F Ty Variant → Bool
same_variant_layer v w = same_num v.number w.number && (v.ty w.ty && same_tags v.tags w.tags)

-- two types are written alike: with all numbers, and the order of fields and variants
unfoldable pub same_type : Ty → Ty → Bool
same_type =
    fold-Ty (Ty → Bool)
    (Variant → Bool) (λ layer u. same_layer layer (out-Ty u)) (λ layer w. same_variant_layer layer (out-Variant w))
