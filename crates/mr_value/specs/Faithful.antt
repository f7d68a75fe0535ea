-- Which values are read back from the bytes that they are written as.
use Rattle.std.specs.Prelude.{ℕ, Bool, true, false, not, ◌&&◌, if◌then◌else◌, List, [], ◌∷◌, map, Option}
use Rattle.std.specs.Prelude.{Some, None}
use Rattle.mr_ast.specs.declared.types.Num.{Num}
use Rattle.mr_ast.specs.declared.types.Ty.{Ty}
use Rattle.mr_ast.specs.declared.types.Ty.TheVariants as ty
use Rattle.mr_ast.specs.declared.types.Ty.TheOpen.{Ty-F, Variant-F}
use Rattle.mr_ast.specs.declared.types.Ty.TheFolds.{para-Ty}
use Rattle.mr_ast.specs.declared.types.Variant.{Variant}
use Rattle.mr_layout.specs.EnumRules.{same_num}
use Rattle.mr_value.specs.declared.val.Val.{Val, out-Val}
use Rattle.mr_value.specs.declared.val.Val.TheVariants as val
use Rattle.mr_value.specs.declared.val.Val.TheOpen.{Val-F}
use Rattle.mr_value.specs.Decode.{is_not_null, is_aligned}
use Rattle.mr_value.specs.Discriminants.{walk}
use Rattle.mr_value.specs.Encode.{encoding_of}
use Rattle.mr_value.specs.Shape.{ValueTest, fields_pass, elements_pass, variant_passes}
use Rattle.mr_ast.specs.ShapedTypes.{fits_u64}

-- this number was found
abbrev pub is_found : Num → Option Num → Bool
is_found n None = false
is_found n (Some m) = same_num m n

-- one level of a type and one of a value, with each part of the type beside its test
abbrev pub faithful_step : Ty-F (Ty × ValueTest) (Variant × ValueTest) → Val-F Val → Bool
faithful_step (Ty-F.Int int) (Val-F.Int n) = true
faithful_step Ty-F.Bool (Val-F.Bool b) = true
faithful_step Ty-F.Raw (Val-F.Ptr p) = fits_u64 p.addr
faithful_step Ty-F.FnPtr (Val-F.Ptr p) = fits_u64 p.addr && is_not_null p.addr
faithful_step (Ty-F.Ref size align never) (Val-F.Ptr p) = fits_u64 p.addr && (is_aligned align p.addr && not never)
faithful_step (Ty-F.Tuple size align fields) (Val-F.Tuple vs) = fields_pass fields vs
faithful_step (Ty-F.Array count elem) (Val-F.Tuple vs) = elements_pass elem.1 vs
faithful_step (Ty-F.Union size align fields chunks) (Val-F.Union content) = true
faithful_step (Ty-F.Enum size align disc variants tree) (Val-F.Variant n v) =
    is_found n (walk tree (encoding_of (ty.Enum size align disc (map (λ w. w.0) variants) tree) (val.Variant n v)))
    && variant_passes variants n v
faithful_step _ _ = false

-- a variant is faithful where its value is
abbrev pub variant_faithful_step : Variant-F (Ty × ValueTest) (Variant × ValueTest) → ValueTest
variant_faithful_step v = v.ty.1

-- a value of a type's shape is read back, where no part of it is a variant that the enum's tree, walked over the
-- encoded bytes, doesn't reach, an uninhabited reference, or a function pointer or reference whose address decoding
-- refuses
unfoldable pub is_faithful : Ty → ValueTest
is_faithful = para-Ty ValueTest ValueTest (λ layer v. faithful_step layer (out-Val v)) variant_faithful_step

-- the same of fields and of a variant, each with its type alone
abbrev pub fields_faithful : List (ℕ × Ty) → List Val → Bool
fields_faithful fields = fields_pass (map (λ f. (f.0, (f.1, is_faithful f.1))) fields)

-- whether the value of a variant is faithful
abbrev pub variant_faithful : List Variant → Num → Val → Bool
variant_faithful [] n v = false
variant_faithful (w ∷ variants) n v = if same_num w.number n then is_faithful w.ty v else variant_faithful variants n v
