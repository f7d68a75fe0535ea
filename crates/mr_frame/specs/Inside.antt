-- Statements and terminators that stand in a function of a well-formed program.
use Rattle.std.specs.Prelude.{◌≡◌, ◌||◌, Bool, true, [], Some}
use Rattle.mr_ast.specs.Shaped.{is_shaped_stmt, is_shaped_term, named_in}
use Rattle.mr_ast.specs.declared.expr.Place.{Place}
use Rattle.mr_ast.specs.declared.expr.Value.{Value}
use Rattle.mr_ast.specs.declared.program.Function.{Function}
use Rattle.mr_ast.specs.declared.program.Stmt.{Stmt}
use Rattle.mr_ast.specs.declared.program.Term.{Term}
use Rattle.mr_ast.specs.declared.types.Ty.{Ty}
use Rattle.mr_layout.specs.TypeOk.{TypeOk}
use Rattle.mr_typing.specs.Blocks.{broken_in_parts, broken_in_stmt}
use Rattle.mr_typing.specs.Broken.{surroundings}
use Rattle.mr_typing.specs.Operands.{is_fn_ptr, is_raw}
use Rattle.mr_typing.specs.Types.{type_of_place, type_of_value}
use Rattle.mr_typing.specs.Walk.{WellFormed}
use Rattle.mr_eval.specs.Environment.{IsEnvOf, ValueIn, env_surround}
use Rattle.mr_eval.specs.declared.env.Env.{Env}

-- An environment of a function of a well-formed program.
pub record InProgram (f : Function) (e : Env) : Type 0 where
  pub env : IsEnvOf f e
  pub well : WellFormed e.program.now

-- a statement that stands in the function of an environment: what it names is there, and it breaks no rule
pub record StmtIn (e : Env) (s : Stmt) : Type 0 where
  pub function : Function
  pub inside : InProgram function e
  pub shaped : is_shaped_stmt (named_in e.program.now function) s ≡ true
  pub unbroken : broken_in_stmt function (surroundings e.program.now function) s ≡ []

-- the same of a terminator
pub record TermIn (e : Env) (t : Term) : Type 0 where
  pub function : Function
  pub inside : InProgram function e
  pub shaped : is_shaped_term (named_in e.program.now function) t ≡ true
  pub unbroken : broken_in_parts (surroundings e.program.now function) t ≡ []

-- the type of a place in the function of an environment, which breaks no rule
pub record TypeAt (e : Env) (p : Place) (t : Ty) : Type 0 where
  pub is : type_of_place (env_surround e).locals p ≡ Some t
  pub ok : TypeOk t

-- a value in the function of an environment that breaks no rule, of a type that passes a test
pub record ValueAt (e : Env) (v : Value) (test : Ty → Bool) : Type 0 where
  pub inside : ValueIn e v
  pub well : WellFormed e.program.now
  pub ty : Ty
  pub is : type_of_value (env_surround e).locals v ≡ Some ty
  pub fits : test ty ≡ true

-- a raw pointer, or a pointer to a function
abbrev pub is_address : Ty → Bool
is_address t = is_raw t || is_fn_ptr t
