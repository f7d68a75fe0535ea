-- The types of a function's locals and of their parts in a list, each beside what it is the type of.
use Rattle.std.specs.Borrow.{Bor}
use Rattle.std.specs.Prelude.{◌≡◌, ℕ, false, true, List, Option, None, Some, Ok, slice_get}
use Rattle.std.specs.Option.{option_map}
use Rattle.mr_ast.specs.declared.types.Ty.{Ty}
use Rattle.mr_ast.specs.declared.expr.Place.{Place}
use Rattle.mr_ast.specs.declared.expr.Value.{Value}
use Rattle.mr_ast.specs.declared.program.Local.{Local}
use Rattle.mr_typing.specs.Types.{chained, element_type, field_type, variant_type}
use Rattle.mr_typing.specs.Broken.{Surroundings}
use Rattle.mr_typing.specs.Judging.{judged_place, judged_value}
use Rattle.mr_wf.specs.declared.listing.Listed.{Listed}
use Rattle.mr_wf.specs.declared.listing.Origin.{Origin}
use Rattle.mr_wf.specs.declared.listing.Origin.TheVariants as origin
use Rattle.mr_wf.specs.declared.listing.Types.{Types}

-- the type at a position of the list
abbrev pub listed_at : List Listed → ℕ → Option Ty
listed_at list at = option_map (λ (l : Listed). l.ty.now) (slice_get list at)

-- what it is the type of
abbrev pub origin_at : List Listed → ℕ → Option Origin
origin_at list at = option_map (λ (l : Listed). l.origin) (slice_get list at)

-- the type of a local, or of a part of a listed type
abbrev pub type_from : List Local → List Listed → Origin → Option Ty
type_from locals list (origin.Local n) = option_map (λ (l : Local). l.ty) (slice_get locals n)
type_from locals list (origin.Field whole n) = chained (listed_at list whole) (λ t. field_type t n)
type_from locals list (origin.Element whole) = chained (listed_at list whole) element_type
type_from locals list (origin.Variant whole n) = chained (listed_at list whole) (λ t. variant_type t n)

-- each type that is listed is the type of what it is listed for
abbrev pub AreListed : List Local → List Listed → Type 0
AreListed locals list =
    (at : ℕ) (l : Listed) → slice_get list at ≡ Some l → type_from locals list l.origin ≡ Some l.ty.now

-- types that are listed, among them this one at this position
pub record IsWhole (locals : List Local) (list : List Listed) (at : ℕ) (t : Ty) : Type 0 where
  pub listed : AreListed locals list
  pub whole : listed_at list at ≡ Some t

-- types are listed behind those that were
pub record Lists (locals : List Local) (old new : List Listed) : Type 0 where
  pub listed : AreListed locals new
  pub kept : (at : ℕ) (t : Ty) → listed_at old at ≡ Some t → listed_at new at ≡ Some t

-- a number for each listed type: the position of an equal one
abbrev pub AreClasses : List Listed → List ℕ → Type 0
AreClasses list classes = (at class : ℕ) → slice_get classes at ≡ Some class → listed_at list at ≡ listed_at list class

-- types of these locals and of their parts, and numbers for them
pub record AreTypes (locals : List Local) (types : Types) : Type 0 where
  pub listed : AreListed locals types.list.items
  pub classes : AreClasses types.list.items types.classes.items

-- where an expression stands, in a function with these locals
abbrev pub around : List ℕ → List Local → Surroundings
around sizes locals = record { sizes = sizes; locals = locals }

-- a place and a value have one type, if the types of both can be judged
abbrev pub AlikeValue : List Local → Place → Value → Type 0
AlikeValue locals a v =
    (sizes : List ℕ) (t u : Ty)
    → judged_place (around sizes locals) a ≡ Ok t → judged_value (around sizes locals) v ≡ Ok u → t ≡ u

-- the same of two values
abbrev pub AlikeValues : List Local → Value → Value → Type 0
AlikeValues locals v w =
    (sizes : List ℕ) (t u : Ty)
    → judged_value (around sizes locals) v ≡ Ok t → judged_value (around sizes locals) w ≡ Ok u → t ≡ u

-- the same of two values that are there
abbrev pub AlikeSome : List Local → Option (Bor Value) → Option (Bor Value) → Type 0
AlikeSome locals (Some v) (Some w) = AlikeValues locals v.now w.now
AlikeSome locals _ _ = false ≡ true

-- a value that is there is judged to have this type
abbrev pub HasType : Surroundings → Option (Bor Value) → Ty → Type 0
HasType at None t = Unit {0}
HasType at (Some v) t = judged_value at v.now ≡ Ok t
