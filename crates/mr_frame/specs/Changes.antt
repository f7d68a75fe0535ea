-- How statements change memory, as scripts. (MiniRust, lang: statements.)
use Rattle.std.specs.Prelude.{ℕ, false, if◌then◌else◌, List, [], ◌∷◌, Option, None, Some}
use Rattle.mr_ast.specs.declared.types.Num.{Num}
use Rattle.mr_ast.specs.declared.types.Tag.{Tag}
use Rattle.mr_ast.specs.declared.types.Ty.{Ty, out-Ty}
use Rattle.mr_ast.specs.declared.expr.Place.{Place}
use Rattle.mr_ast.specs.declared.expr.Value.{Value}
use Rattle.mr_ast.specs.declared.program.Stmt.{Stmt}
use Rattle.mr_ast.specs.declared.program.Stmt.TheVariants as stmt
use Rattle.mr_base.specs.declared.byte.Kind.TheVariants.{Stack}
use Rattle.mr_base.specs.declared.byte.Pointer.{Pointer}
use Rattle.mr_layout.specs.Sizes.{align_of, size_of}
use Rattle.mr_value.specs.declared.val.Val.{Val}
use Rattle.mr_value.specs.Encode.{blank, encoding_of, tag_bytes}
use Rattle.mr_value.specs.Numbers.{Bytes}
use Rattle.mr_value.specs.Shape.{has_shape}
use Rattle.mr_typing.specs.Types.{tags_layer, type_of_place}
use Rattle.mr_base.specs.Script.{Done, IllFormed, Ask, ◌>>=◌}
use Rattle.mr_eval.specs.Evaluation.{Surround, place_script, value_script}
use Rattle.mr_eval.specs.MemoryQueries.{Free, MemoryScript, Write, reading_part}
use Rattle.mr_eval.specs.Moves.{behind}
use Rattle.mr_eval.specs.Typed.{loading}

-- a script that changes memory and gives nothing
abbrev pub Change : Type 0
Change = MemoryScript (Unit {0})

-- ---- parts

-- what is done with a type, which must be there
abbrev pub with_type : Option Ty → (Ty → Change) → Change
with_type None f = IllFormed
with_type (Some t) f = f t

-- a store of bytes
abbrev pub write : Pointer → Bytes → ℕ → Change
write p bytes align = Ask (Write false p bytes align) Done

-- a store of a value of a type, whose shape it must have
abbrev pub store : Ty → Pointer → Val → Change
store t p v = if has_shape t v then write p (encoding_of t v) (align_of t) else IllFormed

-- frees the storage of a local of a type, where there is some
abbrev pub free_storage : Ty → Option Pointer → Change
free_storage t None = Done tt
free_storage t (Some p) = Ask (Free p Stack (size_of t) (align_of t)) Done

-- ---- statements

-- `P = V`: the place, the value, and the store
abbrev pub assign : Surround → Place → Value → Change
assign s place value = do
  p ← reading_part (place_script s place)
  v ← reading_part (value_script s value)
  with_type (type_of_place s.locals place) (λ t. store t p v)

-- `mention P`: the place
abbrev pub mention : Surround → Place → Change
mention s place = reading_part (place_script s place) >>= λ _. Done tt

-- `validate P`: the place, the load, and the store of the same value
abbrev pub validate_at : Pointer → Ty → Change
validate_at p t = reading_part (loading t p) >>= λ v. store t p v

-- the value at a place is loaded and stored back
abbrev pub validate : Surround → Place → Change
validate s place = reading_part (place_script s place) >>= λ p. with_type (type_of_place s.locals place) (validate_at p)

-- `deinit P`: the place, and its bytes become uninitialised
abbrev pub deinit : Surround → Place → Change
deinit s place = do
  p ← reading_part (place_script s place)
  with_type (type_of_place s.locals place) (λ t. write p (blank (size_of t)) (align_of t))

-- the tags of the variant with a number
abbrev pub tags_in : Option Ty → Num → Option (List Tag)
tags_in None n = None
tags_in (Some t) n = tags_layer (out-Ty t) n

-- each tag in written order, at its offset
abbrev pub write_tags : Pointer → List Tag → Change
write_tags p [] = Done tt
write_tags p (tag ∷ tags) = write (behind p tag.at) (tag_bytes tag) 1 >>= λ _. write_tags p tags

-- the tags of the variant are written, where the type has it
abbrev pub write_found : Pointer → Option (List Tag) → Change
write_found p None = IllFormed
write_found p (Some tags) = write_tags p tags

-- `disc P = N`: the place, and the tags of the variant
abbrev pub set_discriminant : Surround → Place → Num → Change
set_discriminant s place number =
    reading_part (place_script s place) >>= λ p. write_found p (tags_in (type_of_place s.locals place) number)

-- a statement other than `live` and `dead`, which do more than change memory
abbrev pub IsChange : Stmt → Type 0
IsChange (stmt.Live x) = ⊥
IsChange (stmt.Dead x) = ⊥
IsChange s = Unit {0}

-- what such a statement does
abbrev pub change : Surround → Stmt → Change
change s (stmt.Assign place value) = assign s place value
change s (stmt.Mention place) = mention s place
change s (stmt.Disc place number) = set_discriminant s place number
change s (stmt.Deinit place) = deinit s place
change s (stmt.Validate place) = validate s place
change s _ = IllFormed
