-- The walk over an expression, computed: its type, or the first rule that is broken in it.
use Rattle.std.specs.Prelude.{Bool, ◌||◌, if◌then◌else◌, List, [], ◌∷◌, Option, None, Some, Result, Ok, Err}
use Rattle.std.specs.Prelude.{slice_get}
use Rattle.mr_ast.specs.declared.rule.Rule.{Rule}
use Rattle.mr_ast.specs.declared.rule.Rule.TheVariants as form
use Rattle.mr_ast.specs.declared.types.IntType.TheVariants.{U64}
use Rattle.mr_ast.specs.declared.types.Ty.{Ty}
use Rattle.mr_ast.specs.declared.types.Ty.TheVariants as ty
use Rattle.mr_ast.specs.declared.expr.Place.{Place}
use Rattle.mr_ast.specs.declared.expr.Value.{Value}
use Rattle.mr_ast.specs.declared.expr.Place.TheOpen.{Place-F, Value-F}
use Rattle.mr_ast.specs.declared.expr.Place.TheFolds.{fold-Place, fold-Value}
use Rattle.mr_ast.specs.Integers.{is_fitting}
use Rattle.mr_layout.specs.TypeOk.{broken_rule}
use Rattle.mr_typing.specs.Types.{discriminant_type, element_type, field_type, result_type, variant_type}
use Rattle.mr_typing.specs.Operands.{fits_binary, fits_parts, fits_unary, fits_union, fits_variant, is_int, is_pointer}
use Rattle.mr_typing.specs.Operands.{is_raw, is_ref, is_scalar_number, same_size}
use Rattle.mr_typing.specs.Broken.{Surroundings, is_in_global}

infixl 10 ◌>>=◌
abbrev pub ◌>>=◌ : {A B : Type 0} → Result A Rule → (A → Result B Rule) → Result B Rule
(Ok x) >>= f = f x
(Err broken) >>= f = Err broken

-- a rule that is kept where a test holds
abbrev pub kept : Rule → Bool → Result (Unit {0}) Rule
kept broken test = if test then Ok tt else Err broken

-- the rules of a written type
abbrev pub sound_type : Ty → Result (Unit {0}) Rule
sound_type t = elim (broken_rule t) as (λ _. Result (Unit {0}) Rule) [ None ↦ Ok tt | Some broken ↦ Err broken ]

-- what must be there, by this rule
abbrev pub there : {A : Type 0} → Rule → Option A → Result A Rule
there broken None = Err broken
there broken (Some x) = Ok x

-- the types of values in a row
abbrev pub all_judged : List (Result Ty Rule) → Result (List Ty) Rule
all_judged [] = Ok []
all_judged (v ∷ vs) = do
  t ← v
  ts ← all_judged vs
  Ok (t ∷ ts)

-- one level of a place, where the answer for each part stands in its place
abbrev pub judged_place_step : Surroundings → Place-F (Result Ty Rule) (Result Ty Rule) → Result Ty Rule
judged_place_step at (Place-F.Local x) = do
  l ← there form.Place (slice_get at.locals x.0)
  Ok l.ty
judged_place_step at (Place-F.Deref pointer ty) = do
  t ← pointer
  _ ← sound_type ty
  _ ← kept form.Place (is_pointer t)
  Ok ty
judged_place_step at (Place-F.Field place field) = do
  t ← place
  there form.Place (field_type t field)
judged_place_step at (Place-F.Index place index) = do
  t ← place
  i ← index
  elem ← there form.Place (element_type t)
  _ ← kept form.Place (is_int U64 i)
  Ok elem
judged_place_step at (Place-F.Place::Variant place number) = do
  t ← place
  there form.Place (variant_type t number)

-- the same of a value
abbrev pub judged_value_step : Surroundings → Value-F (Result Ty Rule) (Result Ty Rule) → Result Ty Rule
judged_value_step at (Value-F.Int int number) = do
  _ ← kept form.ConstRange (is_fitting int number)
  Ok (ty.Int int)
judged_value_step at Value-F.True = Ok ty.Bool
judged_value_step at Value-F.False = Ok ty.Bool
judged_value_step at (Value-F.Raw address) = Ok ty.Raw
judged_value_step at (Value-F.Fn f) = Ok ty.FnPtr
judged_value_step at (Value-F.Global g offset) = do
  _ ← kept form.GlobalRef (is_in_global at.sizes g.0 offset)
  Ok ty.Raw
judged_value_step at (Value-F.Tuple t values) = do
  _ ← sound_type t
  types ← all_judged values
  _ ← kept form.Aggregate (fits_parts t types)
  Ok t
judged_value_step at (Value-F.Union t field value) = do
  _ ← sound_type t
  content ← value
  _ ← kept form.Aggregate (fits_union t field content)
  Ok t
judged_value_step at (Value-F.Value::Variant t number value) = do
  _ ← sound_type t
  content ← value
  _ ← kept form.Aggregate (fits_variant t number content)
  Ok t
judged_value_step at (Value-F.Load place) = place
judged_value_step at (Value-F.Disc place) = do
  t ← place
  there form.Discriminant (discriminant_type t)
judged_value_step at (Value-F.AddrOf t place) = do
  _ ← sound_type t
  _ ← place
  _ ← kept form.Cast (is_raw t || is_ref t)
  Ok t
judged_value_step at (Value-F.Cast int value) = do
  t ← value
  _ ← kept form.Cast (is_scalar_number t)
  Ok (ty.Int int)
judged_value_step at (Value-F.Transmute t value) = do
  _ ← sound_type t
  from ← value
  _ ← kept form.Cast (same_size t from)
  Ok t
judged_value_step at (Value-F.Unary operator value) = do
  t ← value
  _ ← kept form.Operand (fits_unary operator t)
  Ok t
judged_value_step at (Value-F.Binary operator left right) = do
  l ← left
  r ← right
  _ ← kept form.Operand (fits_binary operator l r)
  there form.Operand (result_type operator l)

-- the type of a place, or the first broken rule
unfoldable pub judged_place : Surroundings → Place → Result Ty Rule
judged_place at = fold-Place (Result Ty Rule) (Result Ty Rule) (judged_place_step at) (judged_value_step at)

-- the same of a value
unfoldable pub judged_value : Surroundings → Value → Result Ty Rule
judged_value at = fold-Value (Result Ty Rule) (Result Ty Rule) (judged_place_step at) (judged_value_step at)

-- a value that is a position in an array
abbrev pub judged_position : Surroundings → Value → Result (Unit {0}) Rule
judged_position at index = do
  i ← judged_value at index
  kept form.Place (is_int U64 i)

-- the types of some values
abbrev pub judged_values : Surroundings → List Value → Result (List Ty) Rule
judged_values at [] = Ok []
judged_values at (v ∷ vs) = do
  t ← judged_value at v
  ts ← judged_values at vs
  Ok (t ∷ ts)
