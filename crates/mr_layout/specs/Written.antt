-- The types that are written in a program: those of its locals, those in its places and values, and the parts of them
-- all.
use Rattle.std.specs.Prelude.{ℕ, List, [], ◌∷◌, ◌++◌, Option, None, Some}
use Rattle.std.specs.List.{flat_map}
use Rattle.mr_ast.specs.declared.types.Ty.{Ty}
use Rattle.mr_ast.specs.declared.types.Ty.TheOpen.{Ty-F, Variant-F}
use Rattle.mr_ast.specs.declared.types.Ty.TheFolds.{para-Ty, para-Variant}
use Rattle.mr_ast.specs.declared.types.Variant.{Variant}
use Rattle.mr_ast.specs.declared.expr.Place.{Place}
use Rattle.mr_ast.specs.declared.expr.Value.{Value}
use Rattle.mr_ast.specs.declared.expr.Place.TheOpen.{Place-F, Value-F}
use Rattle.mr_ast.specs.declared.expr.Place.TheFolds.{fold-Place, fold-Value}
use Rattle.mr_ast.specs.declared.program.Local.{Local}
use Rattle.mr_ast.specs.declared.program.Stmt.{Stmt}
use Rattle.mr_ast.specs.declared.program.Stmt.TheVariants as stmt
use Rattle.mr_ast.specs.declared.program.Term.{Term}
use Rattle.mr_ast.specs.declared.program.Term.TheVariants as term
use Rattle.mr_ast.specs.declared.program.Block.{Block}
use Rattle.mr_ast.specs.declared.program.Function.{Function}
use Rattle.mr_ast.specs.declared.program.Program.{Program}

-- a part, and behind it the parts of the part
abbrev pub part_and_its_parts : Ty × List Ty → List Ty
part_and_its_parts p = p.0 ∷ p.1

-- one level of a type, with the parts of each part beside it
abbrev pub parts_step : Ty-F (Ty × List Ty) (Variant × List Ty) → List Ty
parts_step (Ty-F.Int int) = []
parts_step Ty-F.Bool = []
parts_step Ty-F.Raw = []
parts_step Ty-F.FnPtr = []
parts_step (Ty-F.Ref size align never) = []
parts_step (Ty-F.Tuple size align fields) = flat_map (λ f. part_and_its_parts f.1) fields
parts_step (Ty-F.Array count elem) = part_and_its_parts elem
parts_step (Ty-F.Union size align fields chunks) = flat_map (λ f. part_and_its_parts f.1) fields
parts_step (Ty-F.Enum size align disc variants tree) = flat_map (λ v. v.1) variants

-- a variant gives its type to its enum
abbrev pub variant_parts_step : Variant-F (Ty × List Ty) (Variant × List Ty) → List Ty
variant_parts_step v = part_and_its_parts v.ty

-- the parts of a type: of a tuple or a union its fields' types, of an array its element, of an enum its variants'
-- types, and the parts of each
unfoldable pub parts_of : Ty → List Ty
parts_of = para-Ty (List Ty) (List Ty) parts_step variant_parts_step

-- what a variant gives to its enum
unfoldable pub parts_of_variant : Variant → List Ty
parts_of_variant = para-Variant (List Ty) (List Ty) parts_step variant_parts_step

-- a written type is written with its parts
abbrev pub types_of : Ty → List Ty
types_of t = t ∷ parts_of t

-- the types of some fields, with their parts
abbrev pub types_of_fields : List (ℕ × Ty) → List Ty
types_of_fields fields = flat_map (λ f. types_of f.1) fields

-- the types of some variants, with their parts
abbrev pub types_of_variants : List Variant → List Ty
types_of_variants variants = flat_map (λ v. types_of v.ty) variants

-- one level of a place, where the types written in each part stand in its place
abbrev pub place_types_step : Place-F (List Ty) (List Ty) → List Ty
place_types_step (Place-F.Local x) = []
place_types_step (Place-F.Deref pointer ty) = pointer ++ types_of ty
place_types_step (Place-F.Field place field) = place
place_types_step (Place-F.Index place index) = place ++ index
place_types_step (Place-F.Place::Variant place number) = place

-- the same of a value
abbrev pub value_types_step : Value-F (List Ty) (List Ty) → List Ty
value_types_step (Value-F.Int int number) = []
value_types_step Value-F.True = []
value_types_step Value-F.False = []
value_types_step (Value-F.Raw address) = []
value_types_step (Value-F.Fn f) = []
value_types_step (Value-F.Global g offset) = []
value_types_step (Value-F.Tuple ty values) = types_of ty ++ flat_map (λ v. v) values
value_types_step (Value-F.Union ty field value) = types_of ty ++ value
value_types_step (Value-F.Value::Variant ty number value) = types_of ty ++ value
value_types_step (Value-F.Load place) = place
value_types_step (Value-F.Disc place) = place
value_types_step (Value-F.AddrOf ty place) = types_of ty ++ place
value_types_step (Value-F.Cast int value) = value
value_types_step (Value-F.Transmute ty value) = types_of ty ++ value
value_types_step (Value-F.Unary operator value) = value
value_types_step (Value-F.Binary operator left right) = left ++ right

-- the types written in a place, and in a value
unfoldable pub types_of_place : Place → List Ty
types_of_place = fold-Place (List Ty) (List Ty) place_types_step value_types_step

-- the types written in a value
unfoldable pub types_of_value : Value → List Ty
types_of_value = fold-Value (List Ty) (List Ty) place_types_step value_types_step

-- the types written in some values
abbrev pub types_of_values : List Value → List Ty
types_of_values values = flat_map types_of_value values

-- the types written in the place for a result, where there is one
abbrev pub types_of_result : Option Place → List Ty
types_of_result None = []
types_of_result (Some place) = types_of_place place

-- the types written in a statement
abbrev pub types_of_stmt : Stmt → List Ty
types_of_stmt (stmt.Live x) = []
types_of_stmt (stmt.Dead x) = []
types_of_stmt (stmt.Assign place value) = types_of_place place ++ types_of_value value
types_of_stmt (stmt.Mention place) = types_of_place place
types_of_stmt (stmt.Disc place number) = types_of_place place
types_of_stmt (stmt.Deinit place) = types_of_place place
types_of_stmt (stmt.Validate place) = types_of_place place

-- the types written in the end of a block
abbrev pub types_of_term : Term → List Ty
types_of_term (term.Goto b) = []
types_of_term (term.Switch value cases other) = types_of_value value
types_of_term term.Unreachable = []
types_of_term term.Return = []
types_of_term term.Exit = []
types_of_term term.Abort = []
types_of_term term.Resume = []
types_of_term (term.Stop b) = []
types_of_term (term.Unwind payload b) = types_of_value payload
types_of_term (term.Call callee args place next unwind) =
    types_of_value callee ++ types_of_values args ++ types_of_place place
types_of_term (term.Do intrinsic args place next) = types_of_values args ++ types_of_result place

-- the types written in a block
abbrev pub types_of_block : Block → List Ty
types_of_block b = flat_map types_of_stmt b.stmts ++ types_of_term b.term

-- the types of some locals, with their parts
abbrev pub types_of_locals : List Local → List Ty
types_of_locals locals = flat_map (λ l. types_of l.ty) locals

-- the types written in a function: those of its locals, and those in its blocks
abbrev pub types_of_function : Function → List Ty
types_of_function f = types_of_locals f.locals ++ flat_map types_of_block f.blocks

-- the types written in a program
unfoldable pub written_types : Program → List Ty
written_types p = flat_map types_of_function p.functions
