-- What is written of trees and types into a hasher, one equation for each kind; and what is written of a list, part by part.
use Rattle.mr_ast.proofs.Common.{◌≡◌, ℕ, ◌+◌, ◌<◌, Bool, List, [], ◌∷◌, ◌++◌, map, take, get_or, length, refl, sym, ap, ◌∙◌, fold, flat_map, IntType, Num, Tree, Tree-F, fold-roll-Tree, Ty, roll-Ty, Ty-F, map-Ty, fold-Variant, fold-roll-Ty, fold-roll-Variant, Variant, out-Variant, chunk_writes, case_writes, field_writes, variant_writes}
use Rattle.std.proofs.Common.{ap₂}
use Rattle.std.proofs.lemmas.List.{length-map, take_more, append-nil}
use Rattle.std.proofs.lemmas.List.Sums.{fold-append}
use Rattle.std.proofs.lemmas.Grind.{flat_map-append}
use Rattle.std.specs.Hash.{HashWrites}
use Rattle.mr_ast.specs.Hashed.{truth_number, int_writes, num_writes, case_step, tree_step, tree_writes, head_writes, field_step, type_step, variant_step, type_writes}
use Rattle.std.specs.Hash as fed
use Rattle.mr_ast.specs.declared.types.Tree.TheVariants as tree
use Rattle.mr_ast.specs.declared.types.Ty.TheVariants as ty
use Rattle.mr_ast.proofs.CanonTypeLaws.{flat_map-map}

-- ---- lists

-- a list of mapped things
slice-map : {X Y : Type 0} (writes : Y → HashWrites) (g : X → Y) (xs : List X) → fed.slice writes (map g xs) ≡ fed.slice (λ x. writes (g x)) xs
slice-map writes g xs = ap₂ (λ (n : ℕ) (us : HashWrites). fed.usize n ++ us) (length-map xs g) (flat_map-map writes g xs)

-- one more part of a list, at a loop over it
pub one_more : {S X : Type 0} (write : S → List ℕ → S) (writes : X → HashWrites) (s : S) (xs : List X) (i : ℕ) (x : X) → i < length xs → x ≡ get_or xs i x
    → fold write s (flat_map writes (take (i + 1) xs)) ≡ fold write (fold write s (flat_map writes (take i xs))) (writes x)
one_more write writes s xs i x inside is =
    let single : flat_map writes (x ∷ []) ≡ writes x = append-nil (writes x) in
    ap (λ ys. fold write s (flat_map writes ys)) (take_more xs i x inside ∙ ap (λ y. take i xs ++ y ∷ []) (sym is))
    ∙ ap (fold write s) (flat_map-append writes (take i xs) (x ∷ []) ∙ ap (λ us. flat_map writes (take i xs) ++ us) single)
    ∙ fold-append write s (flat_map writes (take i xs)) (writes x)

-- ---- trees

pub tree_known : (n : Num) → tree_writes (tree.Known n) ≡ fed.u64 0 ++ num_writes n
unfolding tree_writes
tree_known n = ap tree_writes (sym (tree.rolls-Known n)) ∙ fold-roll-Tree HashWrites tree_step (Tree-F.Known n)

pub tree_invalid : tree_writes tree.Invalid ≡ fed.u64 1
unfolding tree_writes
tree_invalid = ap tree_writes (sym tree.rolls-Invalid) ∙ fold-roll-Tree HashWrites tree_step Tree-F.Invalid

pub tree_branch : (at : ℕ) (int : IntType) (cases : List (Num × Tree)) (other : Tree)
    → tree_writes (tree.Branch at int cases other) ≡ fed.u64 2 ++ (fed.u64 at ++ (int_writes int ++ (fed.slice case_writes cases ++ tree_writes other)))
unfolding tree_writes
tree_branch at int cases other =
    ap tree_writes (sym (tree.rolls-Branch at int cases other)) ∙ fold-roll-Tree HashWrites tree_step (Tree-F.Branch at int cases other)
    ∙ ap (λ (us : HashWrites). fed.u64 2 ++ (fed.u64 at ++ (int_writes int ++ (us ++ tree_writes other))))
    (slice-map case_step (λ (c : Num × Tree). (c.0, tree_writes c.1)) cases)

-- ---- types

abbrev folded : Variant → HashWrites
folded = fold-Variant HashWrites HashWrites type_step variant_step

-- one level, at a type that is made of it
type_roll : (d : Ty-F Ty Variant) → type_writes (roll-Ty d) ≡ type_step (map-Ty Ty Variant HashWrites HashWrites type_writes folded d)
unfolding type_writes
type_roll d = fold-roll-Ty HashWrites HashWrites type_step variant_step d

variant_is : (v : Variant) → folded v ≡ variant_writes v
unfolding type_writes
variant_is v = fold-roll-Variant HashWrites HashWrites type_step variant_step (out-Variant v)

variants_are : (variants : List Variant) → map folded variants ≡ map variant_writes variants
variants_are [] = refl
variants_are (v ∷ variants) = (λ i. variant_is v i ∷ variants_are variants i)

variant_list : (variants : List Variant) → fed.slice (λ w. w) (map folded variants) ≡ fed.slice variant_writes variants
variant_list variants = ap (λ (ws : List HashWrites). fed.slice (λ w. w) ws) (variants_are variants) ∙ slice-map (λ (w : HashWrites). w) variant_writes variants

field_list : (fields : List (ℕ × Ty)) → fed.slice field_step (map (λ (f : ℕ × Ty). (f.0, type_writes f.1)) fields) ≡ fed.slice field_writes fields
field_list fields = slice-map field_step (λ (f : ℕ × Ty). (f.0, type_writes f.1)) fields

pub type_int : (i : IntType) → type_writes (ty.Int i) ≡ fed.u64 0 ++ int_writes i
type_int i = ap type_writes (sym (ty.rolls-Int i)) ∙ type_roll (Ty-F.Int i)

pub type_bool : type_writes ty.Bool ≡ fed.u64 1
type_bool = ap type_writes (sym ty.rolls-Bool) ∙ type_roll Ty-F.Bool

pub type_raw : type_writes ty.Raw ≡ fed.u64 2
type_raw = ap type_writes (sym ty.rolls-Raw) ∙ type_roll Ty-F.Raw

pub type_fn_ptr : type_writes ty.FnPtr ≡ fed.u64 3
type_fn_ptr = ap type_writes (sym ty.rolls-FnPtr) ∙ type_roll Ty-F.FnPtr

pub type_ref : (size align : ℕ) (never : Bool) → type_writes (ty.Ref size align never) ≡ head_writes 4 size align ++ fed.u64 (truth_number never)
type_ref size align never = ap type_writes (sym (ty.rolls-Ref size align never)) ∙ type_roll (Ty-F.Ref size align never)

pub type_tuple : (size align : ℕ) (fields : List (ℕ × Ty)) → type_writes (ty.Tuple size align fields) ≡ head_writes 5 size align ++ fed.slice field_writes fields
type_tuple size align fields =
    ap type_writes (sym (ty.rolls-Tuple size align fields)) ∙ type_roll (Ty-F.Tuple size align fields)
    ∙ ap (λ (us : HashWrites). head_writes 5 size align ++ us) (field_list fields)

pub type_array : (count : ℕ) (elem : Ty) → type_writes (ty.Array count elem) ≡ fed.u64 6 ++ (fed.u64 count ++ type_writes elem)
type_array count elem = ap type_writes (sym (ty.rolls-Array count elem)) ∙ type_roll (Ty-F.Array count elem)

pub type_union : (size align : ℕ) (fields : List (ℕ × Ty)) (chunks : List (ℕ × ℕ))
    → type_writes (ty.Union size align fields chunks) ≡ head_writes 7 size align ++ (fed.slice field_writes fields ++ fed.slice chunk_writes chunks)
type_union size align fields chunks =
    ap type_writes (sym (ty.rolls-Union size align fields chunks)) ∙ type_roll (Ty-F.Union size align fields chunks)
    ∙ ap (λ (us : HashWrites). head_writes 7 size align ++ (us ++ fed.slice chunk_writes chunks)) (field_list fields)

pub type_enum : (size align : ℕ) (disc : IntType) (variants : List Variant) (t : Tree)
    → type_writes (ty.Enum size align disc variants t) ≡ head_writes 8 size align ++ (int_writes disc ++ (fed.slice variant_writes variants ++ tree_writes t))
type_enum size align disc variants t =
    ap type_writes (sym (ty.rolls-Enum size align disc variants t)) ∙ type_roll (Ty-F.Enum size align disc variants t)
    ∙ ap (λ (us : HashWrites). head_writes 8 size align ++ (int_writes disc ++ (us ++ tree_writes t))) (variant_list variants)

pub ruleset tree_laws = (tree_known, tree_invalid, tree_branch, fold-append, one_more)

pub ruleset type_laws = (type_int, type_bool, type_raw, type_fn_ptr, type_ref, type_tuple, type_array, type_union, type_enum, fold-append, one_more)
