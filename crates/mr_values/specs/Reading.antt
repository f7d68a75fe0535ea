-- What bytes hold, read as one number or one pointer.
use Rattle.std.specs.Prelude.{ℕ, ◌==◌, if◌then◌else◌, List, length, Option, None, Some}
use Rattle.mr_ast.specs.declared.types.IntType.TheVariants.{U8, U16, U32, U128}
use Rattle.mr_ast.specs.declared.types.Ty.TheVariants as ty
use Rattle.mr_base.specs.declared.byte.AbstractByte.{AbstractByte}
use Rattle.mr_value.specs.declared.val.Val.{Val, out-Val}
use Rattle.mr_value.specs.declared.val.Val.TheOpen.{Val-F}
use Rattle.mr_value.specs.Decode.{decoded}
use Rattle.mr_listing.specs.declared.held.Held.{Held}
use Rattle.mr_listing.specs.declared.held.Held.TheVariants as held

-- a value as it is told: a number, or a pointer
abbrev pub held_value : Val-F Val → Held
held_value (Val-F.Int n) = held.Number n
held_value (Val-F.Ptr p) = held.Pointer p
held_value _ = held.Untold

-- the same, where bytes mean one
abbrev pub held_as : Option Val → Held
held_as None = held.Nothing
held_as (Some v) = held_value (out-Val v)

-- what so many bytes hold
abbrev pub held_by_length : ℕ → List AbstractByte → Held
held_by_length len bytes =
    if len == 1 then held_as (decoded (ty.Int U8) bytes)
    else (if len == 2 then held_as (decoded (ty.Int U16) bytes)
    else (if len == 4 then held_as (decoded (ty.Int U32) bytes)
    else (if len == 8 then held_as (decoded ty.Raw bytes)
    else (if len == 16 then held_as (decoded (ty.Int U128) bytes) else held.Untold))))

-- WHAT BYTES HOLD: the value that they mean at the type of their number of bytes, a number without a sign or, of 8, a
-- pointer; of another number of bytes it is not told
abbrev pub held_in : List AbstractByte → Held
held_in bytes = held_by_length (length bytes) bytes
