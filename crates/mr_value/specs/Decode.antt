-- The value that bytes mean at a type. (MiniRust, language: representation of values.)
use Rattle.std.specs.Prelude.{◌≡◌, ℕ, zero, suc, ◌%◌, Bool, true, false, not, ◌&&◌, ◌==◌, if◌then◌else◌, List, [], ◌∷◌}
use Rattle.std.specs.Prelude.{◌++◌, map, length, take, drop, Option, Some, None, option_map, option_and_then}
use Rattle.mr_ast.specs.declared.types.Num.{Num}
use Rattle.mr_ast.specs.declared.types.Ty.{Ty, out-Ty}
use Rattle.mr_ast.specs.declared.types.Ty.TheOpen.{Ty-F}
use Rattle.mr_ast.specs.declared.types.Ty.TheFolds.{para-Ty}
use Rattle.mr_ast.specs.declared.types.Variant.{Variant}
use Rattle.mr_base.specs.declared.byte.Pointer.{Pointer}
use Rattle.mr_layout.specs.Sizes.{size_of}
use Rattle.mr_layout.specs.EnumRules.{same_num}
use Rattle.mr_value.specs.declared.val.Val.{Val}
use Rattle.mr_value.specs.declared.val.Val.TheVariants as val
use Rattle.mr_value.specs.Numbers.{Bytes, part, number_of, pointer_of}
use Rattle.mr_value.specs.Discriminants.{walk}

-- how bytes are read
abbrev pub Reader : Type 0
Reader = Bytes → Option Val

-- 0 and 1 are the two bools
abbrev pub bool_of : ℕ → Option Val
bool_of zero = Some (val.Bool false)
bool_of (suc zero) = Some (val.Bool true)
bool_of (suc (suc n)) = None

-- the pointer that bytes spell, where its address passes a test
abbrev pub pointer_where : (ℕ → Bool) → Reader
pointer_where test bytes =
    option_and_then (λ (p : Pointer). if test p.addr then Some (val.Ptr p) else None) (pointer_of bytes)

-- the addresses of functions and of references of an alignment
abbrev pub is_not_null : ℕ → Bool
is_not_null addr = not (addr == 0)

-- an address is not null, and a multiple of the alignment
abbrev pub is_aligned : ℕ → ℕ → Bool
is_aligned align addr = is_not_null addr && (addr % align == 0)

-- the values of fields, each read from its offset; bytes in none of them don't matter
abbrev pub fields_in : List (ℕ × (Ty × Reader)) → Bytes → Option (List Val)
fields_in [] bytes = Some []
fields_in (f ∷ fields) bytes =
    option_and_then (λ v. option_map (λ vs. v ∷ vs) (fields_in fields bytes)) (f.1.1 (part f.0 (size_of f.1.0) bytes))

-- the values of so many elements of a size, one behind the other
abbrev pub elements_in : ℕ → ℕ → Reader → Bytes → Option (List Val)
elements_in zero size read bytes = Some []
elements_in (suc count) size read bytes =
    option_and_then
    (λ v. option_map (λ vs. v ∷ vs) (elements_in count size read (drop size bytes))) (read (take size bytes))

-- the bytes of chunks, in order
abbrev pub chunks_in : List (ℕ × ℕ) → Bytes → Bytes
chunks_in [] bytes = []
chunks_in (c ∷ chunks) bytes = part c.0 c.1 bytes ++ chunks_in chunks bytes

-- the value of the variant with a number
abbrev pub variant_in : List (Variant × Reader) → Bytes → Num → Option Val
variant_in [] bytes n = None
variant_in (v ∷ variants) bytes n =
    if same_num v.0.number n then option_map (λ x. val.Variant n x) (v.1 bytes) else variant_in variants bytes n

-- one level of a type, with each part beside how it is read
abbrev pub decode_step : Ty-F (Ty × Reader) (Variant × Reader) → Reader
decode_step (Ty-F.Int int) bytes = option_map val.Int (number_of bytes)
decode_step Ty-F.Bool bytes = option_and_then bool_of (number_of bytes)
decode_step Ty-F.Raw bytes = pointer_where (λ addr. true) bytes
decode_step Ty-F.FnPtr bytes = pointer_where is_not_null bytes
decode_step (Ty-F.Ref size align never) bytes = if never then None else pointer_where (is_aligned align) bytes
decode_step (Ty-F.Tuple size align fields) bytes = option_map val.Tuple (fields_in fields bytes)
decode_step (Ty-F.Array count elem) bytes = option_map val.Tuple (elements_in count (size_of elem.0) elem.1 bytes)
decode_step (Ty-F.Union size align fields chunks) bytes = Some (val.Union (chunks_in chunks bytes))
decode_step (Ty-F.Enum size align disc variants tree) bytes =
    option_and_then (variant_in variants bytes) (walk tree bytes)

-- the value that bytes of a type's size mean
unfoldable pub decoded : Ty → Reader
decoded = para-Ty Reader Reader decode_step (λ v. v.ty.1)

-- a list of bytes has the type's size, and decodes to the value
pub record Means (t : Ty) (bytes : Bytes) (v : Val) : Type 0 where
  pub sized : length bytes ≡ size_of t
  pub decodes : decoded t bytes ≡ Some v

-- the same of fields and of a variant, each with its type alone
abbrev pub read_fields : List (ℕ × Ty) → Bytes → Option (List Val)
read_fields fields = fields_in (map (λ f. (f.0, (f.1, decoded f.1))) fields)

-- what bytes mean at a variant
abbrev pub read_variant : List Variant → Bytes → Num → Option Val
read_variant [] bytes n = None
read_variant (v ∷ variants) bytes n =
    if same_num v.number n then option_map (λ x. val.Variant n x) (decoded v.ty bytes)
    else read_variant variants bytes n

-- an integer, a bool or a pointer
abbrev pub is_scalar_layer : Ty-F Ty Variant → Bool
is_scalar_layer (Ty-F.Int int) = true
is_scalar_layer Ty-F.Bool = true
is_scalar_layer Ty-F.Raw = true
is_scalar_layer Ty-F.FnPtr = true
is_scalar_layer (Ty-F.Ref size align never) = true
is_scalar_layer (Ty-F.Tuple size align fields) = false
is_scalar_layer (Ty-F.Array count elem) = false
is_scalar_layer (Ty-F.Union size align fields chunks) = false
is_scalar_layer (Ty-F.Enum size align disc variants tree) = false

-- an integer, a bool or a pointer
abbrev pub is_scalar : Ty → Bool
is_scalar t = is_scalar_layer (out-Ty t)
