-- The rules that an expression breaks, in the order of the walk: the parts come first, from left to right, then the
-- expression itself. A rule is looked at only where the parts that it speaks of have types.
use Rattle.std.specs.Prelude.{ℕ, ◌+◌, Bool, true, false, ◌&&◌, ◌||◌, nat_le, if◌then◌else◌, List, [], ◌∷◌, ◌++◌, map}
use Rattle.std.specs.Prelude.{flat_map, Option, None, Some, is_some, slice_get}
use Rattle.mr_ast.specs.declared.rule.Rule.{Rule}
use Rattle.mr_ast.specs.declared.rule.Rule.TheVariants as form
use Rattle.mr_ast.specs.declared.types.IntType.TheVariants.{U64}
use Rattle.mr_ast.specs.declared.types.Ty.{Ty}
use Rattle.mr_ast.specs.declared.expr.Place.{Place}
use Rattle.mr_ast.specs.declared.expr.Value.{Value}
use Rattle.mr_ast.specs.declared.expr.Place.TheOpen.{Place-F, Value-F}
use Rattle.mr_ast.specs.declared.expr.Place.TheFolds.{para-Place, para-Value}
use Rattle.mr_ast.specs.declared.program.Global_.{Global_}
use Rattle.mr_ast.specs.declared.program.Item_.{Item_}
use Rattle.mr_ast.specs.declared.program.Item_.TheVariants as item
use Rattle.mr_ast.specs.declared.program.Function.{Function}
use Rattle.mr_ast.specs.declared.program.Local.{Local}
use Rattle.mr_ast.specs.declared.program.Program.{Program}
use Rattle.mr_ast.specs.Integers.{is_fitting}
use Rattle.mr_layout.specs.TypeOk.{broken_rule}
use Rattle.mr_typing.specs.Types.{discriminant_type, element_type, field_type, type_of_place, type_of_value}
use Rattle.mr_typing.specs.Types.{variant_type}
use Rattle.mr_typing.specs.Operands.{fits_binary, fits_parts, fits_unary, fits_union, fits_variant, is_int, is_pointer}
use Rattle.mr_typing.specs.Operands.{is_raw, is_ref, is_scalar_number, same_size}

-- ---- rules

-- broken rules, in the order of the walk
abbrev pub Rules : Type 0
Rules = List Rule

-- a rule that is kept where a test holds
abbrev pub rule : Rule → Bool → Rules
rule broken kept = if kept then [] else broken ∷ []

-- the first rule that a type breaks, if it breaks one
abbrev pub of_type : Ty → Rules
of_type t = elim (broken_rule t) as (λ _. Rules) [ Some broken ↦ broken ∷ [] | None ↦ [] ]

-- a test of the type of a part, which is kept where the part has none
abbrev pub where_typed : Option Ty → (Ty → Bool) → Bool
where_typed None test = true
where_typed (Some t) test = test t

-- the same of two parts
abbrev pub where_both_typed : Option Ty → Option Ty → (Ty → Ty → Bool) → Bool
where_both_typed a b test = where_typed a (λ t. where_typed b (test t))

-- the same of a list of parts
abbrev pub where_all_typed : List (Option Ty) → (List Ty → Bool) → Bool
where_all_typed [] test = test []
where_all_typed (None ∷ parts) test = true
where_all_typed (Some t ∷ parts) test = where_all_typed parts (λ types. test (t ∷ types))

-- ---- globals

-- how many bytes an item takes
abbrev pub item_size : Item_ → ℕ
item_size (item.Byte value repeat) = repeat
item_size (item.Uninit repeat) = repeat
item_size (item.Reloc to offset) = 8

-- how many bytes the items of a global have
abbrev pub items_size : List Item_ → ℕ
items_size [] = 0
items_size (i ∷ items) = item_size i + items_size items

-- how many bytes each of a program's globals has
abbrev pub sizes_of : List Global_ → List ℕ
sizes_of globals = map (λ (g : Global_). items_size g.items) globals

-- an offset is at most the size of the global of this number
abbrev pub is_in_global : List ℕ → ℕ → ℕ → Bool
is_in_global sizes g offset = elim (slice_get sizes g) as (λ _. Bool) [ Some size ↦ nat_le offset size | None ↦ false ]

-- ---- expressions

-- what an expression may speak of: the globals of its program, of which the sizes count, and the locals of its function
pub record Surroundings : Type 0 where
  pub sizes : List ℕ
  pub locals : List Local

-- what the rules of a function's places and values look at
abbrev pub surroundings : Program → Function → Surroundings
surroundings p f = record { sizes = sizes_of p.globals; locals = f.locals }

-- one level of a place, with each part beside the rules that are broken in it
abbrev pub broken_place_step : Surroundings → Place-F (Place × Rules) (Value × Rules) → Rules
broken_place_step at (Place-F.Local x) = []
broken_place_step at (Place-F.Deref pointer ty) =
    pointer.1 ++ of_type ty ++ rule form.Place (where_typed (type_of_value at.locals pointer.0) is_pointer)
broken_place_step at (Place-F.Field place field) =
    place.1 ++ rule form.Place (where_typed (type_of_place at.locals place.0) (λ t. is_some (field_type t field)))
broken_place_step at (Place-F.Index place index) =
    place.1 ++ index.1 ++ rule form.Place
    (where_both_typed (type_of_place at.locals place.0) (type_of_value at.locals index.0)
    (λ t i. is_some (element_type t) && is_int U64 i))
broken_place_step at (Place-F.Place::Variant place number) =
    place.1 ++ rule form.Place (where_typed (type_of_place at.locals place.0) (λ t. is_some (variant_type t number)))

-- the same of a value
abbrev pub broken_value_step : Surroundings → Value-F (Place × Rules) (Value × Rules) → Rules
broken_value_step at (Value-F.Int int number) = rule form.ConstRange (is_fitting int number)
broken_value_step at (Value-F.Global g offset) = rule form.GlobalRef (is_in_global at.sizes g.0 offset)
broken_value_step at (Value-F.Tuple ty values) =
    of_type ty ++ flat_map (λ v. v.1) values
    ++ rule form.Aggregate (where_all_typed (map (λ v. type_of_value at.locals v.0) values) (fits_parts ty))
broken_value_step at (Value-F.Union ty field value) =
    of_type ty ++ value.1 ++ rule form.Aggregate (where_typed (type_of_value at.locals value.0) (fits_union ty field))
broken_value_step at (Value-F.Value::Variant ty number value) =
    of_type ty ++ value.1
    ++ rule form.Aggregate (where_typed (type_of_value at.locals value.0) (fits_variant ty number))
broken_value_step at (Value-F.Load place) = place.1
broken_value_step at (Value-F.Disc place) =
    place.1 ++ rule form.Discriminant
    (where_typed (type_of_place at.locals place.0) (λ t. is_some (discriminant_type t)))
broken_value_step at (Value-F.AddrOf ty place) = of_type ty ++ place.1 ++ rule form.Cast (is_raw ty || is_ref ty)
broken_value_step at (Value-F.Cast int value) =
    value.1 ++ rule form.Cast (where_typed (type_of_value at.locals value.0) is_scalar_number)
broken_value_step at (Value-F.Transmute ty value) =
    of_type ty ++ value.1 ++ rule form.Cast (where_typed (type_of_value at.locals value.0) (same_size ty))
broken_value_step at (Value-F.Unary operator value) =
    value.1 ++ rule form.Operand (where_typed (type_of_value at.locals value.0) (fits_unary operator))
broken_value_step at (Value-F.Binary operator left right) =
    left.1 ++ right.1 ++ rule form.Operand
    (where_both_typed (type_of_value at.locals left.0) (type_of_value at.locals right.0) (fits_binary operator))
broken_value_step at _ = []

-- the rules that are broken in a place, and in a value
unfoldable pub broken_in_place : Surroundings → Place → Rules
broken_in_place at = para-Place Rules Rules (broken_place_step at) (broken_value_step at)

-- the rules that a value breaks, with those of all places and values in it
unfoldable pub broken_in_value : Surroundings → Value → Rules
broken_in_value at = para-Value Rules Rules (broken_place_step at) (broken_value_step at)
