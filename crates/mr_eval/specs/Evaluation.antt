-- THE EVALUATION of places and values, as scripts that ask memory. (MiniRust, lang: evaluation of expressions.)
use Rattle.std.specs.Prelude.{ℕ, ◌*◌, true, false, nat_lt, if◌then◌else◌, List, [], ◌∷◌, Option, None, Some, slice_get}
use Rattle.std.specs.Prelude.{pos}
use Rattle.std.specs.Option.{is_some, option_map}
use Rattle.mr_ast.specs.declared.types.Num.{Num}
use Rattle.mr_ast.specs.declared.types.Ty.{Ty, out-Ty}
use Rattle.mr_ast.specs.declared.types.Ty.TheOpen.{Ty-F}
use Rattle.mr_ast.specs.declared.types.Variant.{Variant}
use Rattle.mr_ast.specs.declared.expr.Place.{Place}
use Rattle.mr_ast.specs.declared.expr.Value.{Value}
use Rattle.mr_ast.specs.declared.expr.Place.TheOpen.{Place-F, Value-F}
use Rattle.mr_ast.specs.declared.expr.Place.TheFolds.{para-Place, para-Value}
use Rattle.mr_ast.specs.declared.program.Local.{Local}
use Rattle.mr_base.specs.declared.byte.Pointer.{Pointer}
use Rattle.mr_base.specs.declared.reason.Reason.TheVariants.{DeadLocal, IndexOutOfRange, TransmuteInvalid}
use Rattle.mr_layout.specs.Sizes.{size_of}
use Rattle.mr_runs.specs.Ranges.{with_range_replaced}
use Rattle.mr_value.specs.declared.val.Val.{Val}
use Rattle.mr_value.specs.declared.val.Val.TheVariants as val
use Rattle.mr_value.specs.Decode.{chunks_in}
use Rattle.mr_value.specs.Discriminants.{bits_of_number}
use Rattle.mr_value.specs.Encode.{blank, encoding_of}
use Rattle.mr_value.specs.Numbers.{Bytes}
use Rattle.mr_value.specs.Shape.{has_shape}
use Rattle.mr_base.specs.Stops.{plainly}
use Rattle.mr_base.specs.Script.{Done, Undefined, IllFormed, ◌>>=◌}
use Rattle.mr_typing.specs.Types.{chained, field_offset, type_of_place, type_of_value, variant_type}
use Rattle.mr_eval.specs.Reads.{ReadScript}
use Rattle.mr_eval.specs.Moves.{behind, moved}
use Rattle.mr_eval.specs.Typed.{loading, meant, searched}
use Rattle.mr_eval.specs.Operators.{binary_of, cast_value, index_of_value, or_ill_formed, pointer_of_value, unary_of}

-- Where an expression is evaluated: its function's locals and their storage; where functions and globals begin.
pub record Surround : Type 0 where
  pub locals : List Local
  pub storage : List (Option Pointer)
  pub functions : List Pointer
  pub globals : List Pointer

-- ---- places

-- the storage of a local
abbrev pub stored : Option (Option Pointer) → ReadScript Pointer
stored None = IllFormed
stored (Some None) = Undefined (plainly DeadLocal)
stored (Some (Some p)) = Done p

-- where the field of this number begins
abbrev pub offset_in : Option Ty → ℕ → Option ℕ
offset_in None n = None
offset_in (Some t) n = field_offset (out-Ty t) n

-- how many elements an array has, and how many bytes each
abbrev pub elements : Ty-F Ty Variant → Option (ℕ × ℕ)
elements (Ty-F.Array count elem) = Some (count, size_of elem)
elements _ = None

-- how many elements an array has and how large each is, where the type is known and is one of an array
abbrev pub elements_in : Option Ty → Option (ℕ × ℕ)
elements_in None = None
elements_in (Some t) = elements (out-Ty t)

-- the element at a position
abbrev pub element_at : Pointer → ℕ → ℕ × ℕ → ReadScript Pointer
element_at p i e = if nat_lt i e.0 then moved p (pos (i * e.1)) else Undefined (plainly IndexOutOfRange)

-- a place as a variant of its type, which must have it
abbrev pub as_variant : Option Ty → Num → Pointer → ReadScript Pointer
as_variant t n p = if is_some (chained t (λ u. variant_type u n)) then Done p else IllFormed

-- one level of a place, with each part beside its evaluation
abbrev pub place_step : Surround → Place-F (Place × ReadScript Pointer) (Value × ReadScript Val) → ReadScript Pointer
place_step s (Place-F.Local x) = stored (slice_get s.storage x.0)
place_step s (Place-F.Deref pointer ty) = pointer.1 >>= λ v. pointer_of_value v
place_step s (Place-F.Field whole number) = do
  p ← whole.1
  offset ← or_ill_formed (offset_in (type_of_place s.locals whole.0) number)
  moved p (pos offset)
place_step s (Place-F.Index array index) = do
  p ← array.1
  v ← index.1
  i ← index_of_value v
  e ← or_ill_formed (elements_in (type_of_place s.locals array.0))
  element_at p i e
place_step s (Place-F.Place::Variant whole number) =
    whole.1 >>= λ p. as_variant (type_of_place s.locals whole.0) number p

-- ---- values

-- the values of parts, from left to right
abbrev pub in_order : List (Value × ReadScript Val) → ReadScript (List Val)
in_order [] = Done []
in_order (v ∷ vs) = v.1 >>= λ x. in_order vs >>= λ xs. Done (x ∷ xs)

-- the bytes of a union's chunks, of which a field is written
abbrev pub union_layer : Ty-F Ty Variant → ℕ → Val → Option Bytes
union_layer (Ty-F.Union size align fields chunks) n v =
    option_map (λ f. chunks_in chunks (with_range_replaced (blank size) f.0 (encoding_of f.1 v))) (slice_get fields n)
union_layer _ n v = None

-- the value of a union whose field of this number is written, and nothing else of it
abbrev pub union_of : Ty → ℕ → Val → ReadScript Val
union_of t n v = or_ill_formed (union_layer (out-Ty t) n v) >>= λ bytes. Done (val.Union bytes)

-- the discriminant of what lies at a pointer, as an integer of its type
abbrev pub discriminant_layer : Ty-F Ty Variant → Pointer → ReadScript Val
discriminant_layer (Ty-F.Enum size align disc variants tree) p =
    searched tree p >>= λ n. Done (val.Int (bits_of_number disc n))
discriminant_layer _ p = IllFormed

-- the discriminant of the enum at the pointer, whose type is to be known
abbrev pub discriminant_at : Option Ty → Pointer → ReadScript Val
discriminant_at None p = IllFormed
discriminant_at (Some t) p = discriminant_layer (out-Ty t) p

-- what a load of the type gives, which is to be known
abbrev pub loaded : Option Ty → Pointer → ReadScript Val
loaded None p = IllFormed
loaded (Some t) p = loading t p

-- the bytes of a value, whose type's shape it must have, taken for another type
abbrev pub transmuted : Ty → Option Ty → Val → ReadScript Val
transmuted to None v = IllFormed
transmuted to (Some from) v =
    if has_shape from v then meant (plainly TransmuteInvalid) to (encoding_of from v) else IllFormed

-- a pointer without provenance
abbrev pub bare : ℕ → Pointer
bare address = record { addr = address; prov = None }

-- one level of a value, with each part beside its evaluation
abbrev pub value_step : Surround → Value-F (Place × ReadScript Pointer) (Value × ReadScript Val) → ReadScript Val
value_step s (Value-F.Int int number) = Done (val.Int (bits_of_number int number))
value_step s Value-F.True = Done (val.Bool true)
value_step s Value-F.False = Done (val.Bool false)
value_step s (Value-F.Raw address) = Done (val.Ptr (bare address))
value_step s (Value-F.Fn f) = or_ill_formed (slice_get s.functions f.0) >>= λ p. Done (val.Ptr p)
value_step s (Value-F.Global g offset) =
    or_ill_formed (slice_get s.globals g.0) >>= λ p. Done (val.Ptr (behind p offset))
value_step s (Value-F.Tuple ty values) = in_order values >>= λ vs. Done (val.Tuple vs)
value_step s (Value-F.Union ty number content) = content.1 >>= λ v. union_of ty number v
value_step s (Value-F.Value::Variant ty number content) = content.1 >>= λ v. Done (val.Variant number v)
value_step s (Value-F.Load place) = place.1 >>= λ p. loaded (type_of_place s.locals place.0) p
value_step s (Value-F.Disc place) = place.1 >>= λ p. discriminant_at (type_of_place s.locals place.0) p
value_step s (Value-F.AddrOf ty place) = place.1 >>= λ p. Done (val.Ptr p)
value_step s (Value-F.Cast int operand) = operand.1 >>= λ v. cast_value int (type_of_value s.locals operand.0) v
value_step s (Value-F.Transmute ty operand) = operand.1 >>= λ v. transmuted ty (type_of_value s.locals operand.0) v
value_step s (Value-F.Unary op operand) = operand.1 >>= λ v. unary_of op (type_of_value s.locals operand.0) v
value_step s (Value-F.Binary op left right) =
    left.1 >>= λ a. right.1 >>= λ b. binary_of op (type_of_value s.locals left.0) (type_of_value s.locals right.0) a b

-- the pointer to a place, and the value of an expression
unfoldable pub place_script : Surround → Place → ReadScript Pointer
place_script s = para-Place (ReadScript Pointer) (ReadScript Val) (place_step s) (value_step s)

-- what a value comes to: each place and value below it is evaluated first, in written order
unfoldable pub value_script : Surround → Value → ReadScript Val
value_script s = para-Value (ReadScript Pointer) (ReadScript Val) (place_step s) (value_step s)

-- the values of expressions, from left to right
abbrev pub values_script : Surround → List Value → ReadScript (List Val)
values_script s [] = Done []
values_script s (v ∷ vs) = value_script s v >>= λ x. values_script s vs >>= λ xs. Done (x ∷ xs)
