-- Which values have the shape of a type.
use Rattle.std.specs.Prelude.{ℕ, ◌+◌, ◌*◌, ◌^◌, Bool, true, false, ◌&&◌, ◌==◌, nat_lt, if◌then◌else◌, List, [], ◌∷◌}
use Rattle.std.specs.Prelude.{map, length}
use Rattle.mr_ast.specs.declared.types.Num.{Num}
use Rattle.mr_ast.specs.declared.types.Ty.{Ty}
use Rattle.mr_ast.specs.declared.types.Ty.TheOpen.{Ty-F}
use Rattle.mr_ast.specs.declared.types.Ty.TheFolds.{para-Ty}
use Rattle.mr_ast.specs.declared.types.Variant.{Variant}
use Rattle.mr_ast.specs.Integers.{int_size}
use Rattle.mr_layout.specs.EnumRules.{same_num}
use Rattle.mr_value.specs.declared.val.Val.{Val, out-Val}
use Rattle.mr_value.specs.declared.val.Val.TheOpen.{Val-F}

-- which values pass
abbrev pub ValueTest : Type 0
ValueTest = Val → Bool

-- there is one value for each field, and each passes its field's test
abbrev pub fields_pass : List (ℕ × (Ty × ValueTest)) → List Val → Bool
fields_pass [] [] = true
fields_pass (f ∷ fields) (v ∷ vs) = f.1.1 v && fields_pass fields vs
fields_pass _ _ = false

-- each element passes
abbrev pub elements_pass : ValueTest → List Val → Bool
elements_pass test [] = true
elements_pass test (v ∷ vs) = test v && elements_pass test vs

-- how many bytes the chunks have together
abbrev pub chunks_size : List (ℕ × ℕ) → ℕ
chunks_size [] = 0
chunks_size (c ∷ chunks) = c.1 + chunks_size chunks

-- the variant with a number is there, and its test passes
abbrev pub variant_passes : List (Variant × ValueTest) → Num → Val → Bool
variant_passes [] n v = false
variant_passes (w ∷ variants) n v = if same_num w.0.number n then w.1 v else variant_passes variants n v

-- one level of a type and one of a value, with each part of the type beside its test
abbrev pub shape_step : Ty-F (Ty × ValueTest) (Variant × ValueTest) → Val-F Val → Bool
shape_step (Ty-F.Int int) (Val-F.Int n) = nat_lt n (2 ^ (8 * int_size int))
shape_step Ty-F.Bool (Val-F.Bool b) = true
shape_step Ty-F.Raw (Val-F.Ptr p) = true
shape_step Ty-F.FnPtr (Val-F.Ptr p) = true
shape_step (Ty-F.Ref size align never) (Val-F.Ptr p) = true
shape_step (Ty-F.Tuple size align fields) (Val-F.Tuple vs) = fields_pass fields vs
shape_step (Ty-F.Array count elem) (Val-F.Tuple vs) = (length vs == count) && elements_pass elem.1 vs
shape_step (Ty-F.Union size align fields chunks) (Val-F.Union bytes) = length bytes == chunks_size chunks
shape_step (Ty-F.Enum size align disc variants tree) (Val-F.Variant n v) = variant_passes variants n v
shape_step _ _ = false

-- a value has a type's shape: an integer of its width, any pointer, parts of their shapes, a union's bytes, a variant
unfoldable pub has_shape : Ty → ValueTest
has_shape = para-Ty ValueTest ValueTest (λ layer v. shape_step layer (out-Val v)) (λ v. v.ty.1)

-- the same of fields and of a variant, each with its type alone
abbrev pub fields_have_shape : List (ℕ × Ty) → List Val → Bool
fields_have_shape fields = fields_pass (map (λ f. (f.0, (f.1, has_shape f.1))) fields)

-- whether a value has the shape of a variant
abbrev pub variant_has_shape : List Variant → Num → Val → Bool
variant_has_shape [] n v = false
variant_has_shape (w ∷ variants) n v = if same_num w.number n then has_shape w.ty v else variant_has_shape variants n v
