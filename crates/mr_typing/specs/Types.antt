-- The type of a place and of a value, where it has one.
use Rattle.std.specs.Prelude.{ℕ, ◌*◌, Bool, true, false, if◌then◌else◌, List, [], ◌∷◌, Option, None, Some, slice_get}
use Rattle.std.specs.Option.{option_map}
use Rattle.mr_ast.specs.declared.types.IntType.{IntType}
use Rattle.mr_ast.specs.declared.types.Num.{Num}
use Rattle.mr_ast.specs.declared.types.Tag.{Tag}
use Rattle.mr_ast.specs.declared.types.Ty.{Ty, out-Ty}
use Rattle.mr_ast.specs.declared.types.Ty.TheVariants as ty
use Rattle.mr_ast.specs.declared.types.Ty.TheOpen.{Ty-F}
use Rattle.mr_ast.specs.declared.types.Variant.{Variant}
use Rattle.mr_ast.specs.declared.expr.BinaryOp.{BinaryOp}
use Rattle.mr_ast.specs.declared.expr.BinaryOp.TheVariants as binary
use Rattle.mr_ast.specs.declared.expr.Place.{Place}
use Rattle.mr_ast.specs.declared.expr.Value.{Value}
use Rattle.mr_ast.specs.declared.expr.Place.TheOpen.{Place-F, Value-F}
use Rattle.mr_ast.specs.declared.expr.Place.TheFolds.{fold-Place, fold-Value}
use Rattle.mr_ast.specs.declared.program.Local.{Local}
use Rattle.mr_ast.specs.Integers.{int_size}
use Rattle.mr_layout.specs.EnumRules.{same_num}

-- ---- the parts of a type

-- the field of this number, from 0, of a tuple or a union: where it begins, and its type
abbrev pub field_part : Ty-F Ty Variant → ℕ → Option (ℕ × Ty)
field_part (Ty-F.Tuple size align fields) n = slice_get fields n
field_part (Ty-F.Union size align fields chunks) n = slice_get fields n
field_part _ n = None

-- where it begins
abbrev pub field_offset : Ty-F Ty Variant → ℕ → Option ℕ
field_offset layer n = option_map (λ f. f.0) (field_part layer n)

-- its type
abbrev pub field_in : Ty-F Ty Variant → ℕ → Option Ty
field_in layer n = option_map (λ f. f.1) (field_part layer n)

-- the type of a field of a type that has fields
abbrev pub field_type : Ty → ℕ → Option Ty
field_type t n = field_in (out-Ty t) n

-- the type of an array's elements
abbrev pub element_in : Ty-F Ty Variant → Option Ty
element_in (Ty-F.Array count elem) = Some elem
element_in _ = None

-- the type of the elements of an array
abbrev pub element_type : Ty → Option Ty
element_type t = element_in (out-Ty t)

-- a part of the first variant with this number, of an enum
abbrev pub among : {A : Type 0} → (Variant → A) → List Variant → Num → Option A
among part [] n = None
among part (v ∷ variants) n = if same_num v.number n then Some (part v) else among part variants n

-- a part of the variant with this number, where the type is an enum that has it
abbrev pub variant_part : {A : Type 0} → (Variant → A) → Ty-F Ty Variant → Num → Option A
variant_part part (Ty-F.Enum size align disc variants tree) n = among part variants n
variant_part part _ n = None

-- its type
abbrev pub variant_among : List Variant → Num → Option Ty
variant_among = among (λ v. v.ty)

-- the type of that variant
abbrev pub variant_in : Ty-F Ty Variant → Num → Option Ty
variant_in = variant_part (λ v. v.ty)

-- the type of the variant with this number
abbrev pub variant_type : Ty → Num → Option Ty
variant_type t n = variant_in (out-Ty t) n

-- its tags
abbrev pub tags_among : List Variant → Num → Option (List Tag)
tags_among = among (λ v. v.tags)

-- the tags of that variant
abbrev pub tags_layer : Ty-F Ty Variant → Num → Option (List Tag)
tags_layer = variant_part (λ v. v.tags)

-- the type of an enum's discriminants
abbrev pub discriminant_in : Ty-F Ty Variant → Option Ty
discriminant_in (Ty-F.Enum size align disc variants tree) = Some (ty.Int disc)
discriminant_in _ = None

-- the type of an enum's discriminant
abbrev pub discriminant_type : Ty → Option Ty
discriminant_type t = discriminant_in (out-Ty t)

-- which integer a type is
abbrev pub integer_in : Ty-F Ty Variant → Option IntType
integer_in (Ty-F.Int i) = Some i
integer_in _ = None

-- the integer type that a type is
abbrev pub integer_of : Ty → Option IntType
integer_of t = integer_in (out-Ty t)

-- ---- the types of operators

-- what an overflowing operator gives on integers of this type: the wrapped result, and behind it whether it wrapped
abbrev pub overflow_type : IntType → Ty
overflow_type i = ty.Tuple (2 * int_size i) (int_size i) ((0, ty.Int i) ∷ (int_size i, ty.Bool) ∷ [])

-- whether an operator tells of overflow, compares, or moves a pointer; the others give the left operand's type
abbrev pub tells_overflow : BinaryOp → Bool
tells_overflow binary.AddOverflow = true
tells_overflow binary.SubOverflow = true
tells_overflow binary.MulOverflow = true
tells_overflow _ = false

-- the operator compares
abbrev pub compares : BinaryOp → Bool
compares binary.Eq = true
compares binary.Ne = true
compares binary.Lt = true
compares binary.Le = true
compares binary.Gt = true
compares binary.Ge = true
compares _ = false

-- the type of what a binary operator gives, from that of its left operand
abbrev pub result_type : BinaryOp → Ty → Option Ty
result_type op left =
    if compares op then Some ty.Bool
    else (if tells_overflow op then option_map overflow_type (integer_of left) else Some left)

-- ---- places and values

-- what the function gives of what is there
abbrev pub chained : {A B : Type 0} → Option A → (A → Option B) → Option B
chained None f = None
chained (Some x) f = f x

-- one level of a place in a function with these locals, where the type of each part stands in its place
abbrev pub place_type_step : List Local → Place-F (Option Ty) (Option Ty) → Option Ty
place_type_step locals (Place-F.Local x) = option_map (λ (l : Local). l.ty) (slice_get locals x.0)
place_type_step locals (Place-F.Deref pointer ty) = Some ty
place_type_step locals (Place-F.Field place field) = chained place (λ t. field_type t field)
place_type_step locals (Place-F.Index place index) = chained place element_type
place_type_step locals (Place-F.Place::Variant place number) = chained place (λ t. variant_type t number)

-- the same of a value
abbrev pub value_type_step : Value-F (Option Ty) (Option Ty) → Option Ty
value_type_step (Value-F.Int int number) = Some (ty.Int int)
value_type_step Value-F.True = Some ty.Bool
value_type_step Value-F.False = Some ty.Bool
value_type_step (Value-F.Raw address) = Some ty.Raw
value_type_step (Value-F.Fn f) = Some ty.FnPtr
value_type_step (Value-F.Global g offset) = Some ty.Raw
value_type_step (Value-F.Tuple t values) = Some t
value_type_step (Value-F.Union t field value) = Some t
value_type_step (Value-F.Value::Variant t number value) = Some t
value_type_step (Value-F.Load place) = place
value_type_step (Value-F.Disc place) = chained place discriminant_type
value_type_step (Value-F.AddrOf t place) = Some t
value_type_step (Value-F.Cast int value) = Some (ty.Int int)
value_type_step (Value-F.Transmute t value) = Some t
value_type_step (Value-F.Unary operator value) = value
value_type_step (Value-F.Binary operator left right) = chained left (result_type operator)

-- the type of a place, and of a value, in a function with these locals
unfoldable pub type_of_place : List Local → Place → Option Ty
type_of_place locals = fold-Place (Option Ty) (Option Ty) (place_type_step locals) value_type_step

-- the type of a value, where its parts have the types that it needs
unfoldable pub type_of_value : List Local → Value → Option Ty
type_of_value locals = fold-Value (Option Ty) (Option Ty) (place_type_step locals) value_type_step
