-- Loads of values, and the discriminant of an enum in memory. (MiniRust, lang: typed accesses.)
use Rattle.std.specs.Prelude.{ℕ, false, if◌then◌else◌, List, [], ◌∷◌, ◌++◌, Option, None, Some}
use Rattle.mr_ast.specs.declared.types.IntType.{IntType}
use Rattle.mr_ast.specs.declared.types.Num.{Num}
use Rattle.mr_ast.specs.declared.types.Tree.{Tree}
use Rattle.mr_ast.specs.declared.types.Tree.TheOpen.{Tree-F}
use Rattle.mr_ast.specs.declared.types.Tree.TheFolds.{fold-Tree}
use Rattle.mr_ast.specs.declared.types.Ty.{Ty}
use Rattle.mr_ast.specs.declared.types.Ty.TheOpen.{Ty-F}
use Rattle.mr_ast.specs.declared.types.Ty.TheFolds.{para-Ty}
use Rattle.mr_ast.specs.declared.types.Variant.{Variant}
use Rattle.mr_base.specs.declared.byte.Pointer.{Pointer}
use Rattle.mr_base.specs.declared.reason.Reason.TheVariants.{InvalidDiscriminant, InvalidValue}
use Rattle.mr_layout.specs.Sizes.{align_of, size_of}
use Rattle.mr_ast.specs.Integers.{int_size}
use Rattle.mr_layout.specs.EnumRules.{same_num}
use Rattle.mr_value.specs.declared.val.Val.{Val, out-Val}
use Rattle.mr_value.specs.declared.val.Val.TheOpen.{Val-F}
use Rattle.mr_value.specs.Decode.{decoded}
use Rattle.mr_value.specs.Discriminants.{number_of_bits}
use Rattle.mr_value.specs.Numbers.{Bytes, number_of}
use Rattle.mr_base.specs.declared.reached.Reaching.TheVariants.{Loads}
use Rattle.mr_base.specs.Stops.{Stop}
use Rattle.mr_base.specs.Stops.{over, plainly, reached_by}
use Rattle.mr_base.specs.Script.{Done, Undefined, Ask, ◌>>=◌}
use Rattle.mr_eval.specs.Reads.{Read, ReadScript, Refer}
use Rattle.mr_eval.specs.Moves.{behind}

-- ---- references in a value

-- what a reference points to: where it begins, and how many bytes it has
abbrev pub Targets : Type 0
Targets = List (Pointer × ℕ)

-- what finds the references in a value
abbrev pub Finder : Type 0
Finder = Val → Targets

-- the references in the fields of a tuple, by the finder of each
abbrev pub field_targets : List (ℕ × (Ty × Finder)) → List Val → Targets
field_targets (f ∷ fields) (v ∷ vs) = f.1.1 v ++ field_targets fields vs
field_targets _ _ = []

-- the references in the elements of an array
abbrev pub element_targets : Finder → List Val → Targets
element_targets find [] = []
element_targets find (v ∷ vs) = find v ++ element_targets find vs

-- the references in the value of the variant with this number
abbrev pub variant_targets : List (Variant × Finder) → Num → Val → Targets
variant_targets [] n v = []
variant_targets (w ∷ variants) n v = if same_num w.0.number n then w.1 v else variant_targets variants n v

-- what the layer of a value holds: a pointer, parts, or a variant
abbrev pub pointed : ℕ → Val-F Val → Targets
pointed size (Val-F.Ptr p) = (p, size) ∷ []
pointed size _ = []

-- the references in the parts of a value that has parts
abbrev pub in_parts : (List Val → Targets) → Val-F Val → Targets
in_parts find (Val-F.Tuple vs) = find vs
in_parts find _ = []

-- the references in a value that is a variant
abbrev pub in_variant : (Num → Val → Targets) → Val-F Val → Targets
in_variant find (Val-F.Variant n v) = find n v
in_variant find _ = []

-- one level of a type and one of a value, with each part of the type beside what is found in its values
abbrev pub targets_step : Ty-F (Ty × Finder) (Variant × Finder) → Val-F Val → Targets
targets_step (Ty-F.Ref size align never) v = pointed size v
targets_step (Ty-F.Tuple size align fields) v = in_parts (field_targets fields) v
targets_step (Ty-F.Array count elem) v = in_parts (element_targets elem.1) v
targets_step (Ty-F.Enum size align disc variants tree) v = in_variant (variant_targets variants) v
targets_step _ v = []

-- the targets of the references in tuples, arrays and variants, in order; those in the bytes of unions don't count
unfoldable pub targets_of : Ty → Finder
targets_of = para-Ty Finder Finder (λ layer v. targets_step layer (out-Val v)) (λ v. v.ty.1)

-- the same of fields and of variants, each with its type alone
abbrev pub targets_of_fields : List (ℕ × Ty) → List Val → Targets
targets_of_fields [] vs = []
targets_of_fields (f ∷ fields) [] = []
targets_of_fields (f ∷ fields) (v ∷ vs) = targets_of f.1 v ++ targets_of_fields fields vs

abbrev pub targets_of_variant : List Variant → Num → Val → Targets
targets_of_variant [] n v = []
targets_of_variant (w ∷ variants) n v =
    if same_num w.number n then targets_of w.ty v else targets_of_variant variants n v

-- The reference check.
abbrev pub referring : Targets → ReadScript (Unit {0})
referring [] = Done tt
referring (t ∷ targets) = Ask (Refer t.0 t.1) (λ _. referring targets)

-- ---- loads

-- a value that must be there
abbrev pub or_undefined : {A : Type 0} → Stop → Option A → ReadScript A
or_undefined r None = Undefined r
or_undefined r (Some x) = Done x

-- a value whose references point into allocations
abbrev pub referred : Ty → Val → ReadScript Val
referred t v = referring (targets_of t v) >>= λ _. Done v

-- the value that bytes mean, or this stop where they mean none
abbrev pub meant : Stop → Ty → Bytes → ReadScript Val
meant r t bytes = or_undefined r (decoded t bytes) >>= λ v. referred t v

-- the stop for bytes that were loaded and mean no value of the type
abbrev pub meaningless : Ty → Pointer → Stop
meaningless t p = over (reached_by Loads p (size_of t)) InvalidValue

-- the load of a value
unfoldable pub loading : Ty → Pointer → ReadScript Val
loading t p = Ask (Read false p (size_of t) (align_of t)) (meant (meaningless t p) t)

-- ---- discriminants

-- how a discriminant is found in memory
abbrev pub Search : Type 0
Search = Pointer → ReadScript Num

-- the search of the case with this number, or that of the rest
abbrev pub case_search : Num → List (Num × Search) → Search → Search
case_search n [] rest = rest
case_search n (c ∷ cases) rest = if same_num c.0 n then c.1 else case_search n cases rest

-- the number of an integer in memory, wherever it is aligned
abbrev pub numbered : IntType → Pointer → ReadScript Num
numbered int p =
    Ask (Read false p (int_size int) 1) (λ bytes. or_undefined (plainly InvalidDiscriminant) (number_of bytes)
    >>= λ bits. Done (number_of_bits int bits))

-- one level of a tree, each branch being a load of its integer
abbrev pub search_step : Tree-F Search → Search
search_step (Tree-F.Known n) p = Done n
search_step Tree-F.Invalid p = Undefined (plainly InvalidDiscriminant)
search_step (Tree-F.Branch at int cases rest) p = numbered int (behind p at) >>= λ n. case_search n cases rest p

-- the discriminant that a tree finds in memory
unfoldable pub searched : Tree → Search
searched = fold-Tree Search search_step
