-- The places and values whose names are positions and whose numbers can be written.
use Rattle.std.specs.Prelude.{ℕ, Bool, true, ◌&&◌, nat_lt}
use Rattle.std.specs.List.{list_all}
use Rattle.mr_ast.specs.declared.expr.Place.{Place}
use Rattle.mr_ast.specs.declared.expr.Value.{Value}
use Rattle.mr_ast.specs.declared.expr.Place.TheOpen.{Place-F, Value-F}
use Rattle.mr_ast.specs.declared.expr.Place.TheFolds.{fold-Place, fold-Value}
use Rattle.mr_ast.specs.ShapedTypes.{fits_u64, is_shaped_num, is_shaped_type}

-- how many things of each kind a text can name: the globals and functions of a program, and the locals and blocks of
-- one function
pub record Named : Type 0 where
  pub globals : ℕ
  pub functions : ℕ
  pub locals : ℕ
  pub blocks : ℕ

-- one level of a place, where the answer for each part stands in its place
abbrev pub shaped_place_step : Named → Place-F Bool Bool → Bool
shaped_place_step named (Place-F.Local n) = nat_lt n.0 named.locals
shaped_place_step named (Place-F.Deref pointer ty) = pointer && is_shaped_type ty
shaped_place_step named (Place-F.Field place field) = place && fits_u64 field
shaped_place_step named (Place-F.Index place index) = place && index
shaped_place_step named (Place-F.Place::Variant place number) = place && is_shaped_num number

-- the same of a value
abbrev pub shaped_value_step : Named → Value-F Bool Bool → Bool
shaped_value_step named (Value-F.Int int number) = is_shaped_num number
shaped_value_step named Value-F.True = true
shaped_value_step named Value-F.False = true
shaped_value_step named (Value-F.Raw address) = fits_u64 address
shaped_value_step named (Value-F.Fn f) = nat_lt f.0 named.functions
shaped_value_step named (Value-F.Global g offset) = nat_lt g.0 named.globals && fits_u64 offset
shaped_value_step named (Value-F.Tuple ty values) = is_shaped_type ty && list_all (λ v. v) values
shaped_value_step named (Value-F.Union ty field value) = is_shaped_type ty && (fits_u64 field && value)
shaped_value_step named (Value-F.Value::Variant ty number value) = is_shaped_type ty && (is_shaped_num number && value)
shaped_value_step named (Value-F.Load place) = place
shaped_value_step named (Value-F.Disc place) = place
shaped_value_step named (Value-F.AddrOf ty place) = is_shaped_type ty && place
shaped_value_step named (Value-F.Cast int value) = value
shaped_value_step named (Value-F.Transmute ty value) = is_shaped_type ty && value
shaped_value_step named (Value-F.Unary operator value) = value
shaped_value_step named (Value-F.Binary operator left right) = left && right

-- each name in the place is a position, and each number can be written
unfoldable pub is_shaped_place : Named → Place → Bool
is_shaped_place named = fold-Place Bool Bool (shaped_place_step named) (shaped_value_step named)

-- the same of a value
unfoldable pub is_shaped_value : Named → Value → Bool
is_shaped_value named = fold-Value Bool Bool (shaped_place_step named) (shaped_value_step named)
