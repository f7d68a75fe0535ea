-- When a script of evaluation never comes to a state without a rule.
use Rattle.std.specs.Prelude.{◌≡◌, ℕ, true, List, [], All, length}
use Rattle.std.specs.List.{flat_map, list_all}
use Rattle.mr_ast.specs.ShapedValues.{Named, is_shaped_place, is_shaped_value}
use Rattle.mr_ast.specs.declared.expr.Place.{Place}
use Rattle.mr_ast.specs.declared.expr.Value.{Value}
use Rattle.mr_ast.specs.declared.program.Local.{Local}
use Rattle.mr_layout.specs.TypeOk.{TypeOk}
use Rattle.mr_base.specs.Script.{Broken, Outcome, Refused, Safe, Went}
use Rattle.mr_typing.specs.Broken.{Surroundings, broken_in_place, broken_in_value}
use Rattle.mr_eval.specs.Reads.{Check, Read, ReadQuery, ReadReply, ReadScript, Refer}
use Rattle.mr_eval.specs.Evaluation.{Surround}

-- what every memory answers: a load gives as many bytes as were asked for
abbrev pub Good : (q : ReadQuery) → ReadReply q → Type 0
Good (Check p len) u = Unit {0}
Good (Refer p len) u = Unit {0}
Good (Read atomic p len align) bytes = length bytes ≡ len

-- a script that is never ill-formed, whatever memory answers, and whose results are so
abbrev pub IsSafe : {A : Type 0} → (A → Type 0) → ReadScript A → Type 0
IsSafe P script = Safe Good P script

-- what a run comes to is no state without a rule, and its result is so
abbrev pub Comes : {A S : Type 0} → (A → Type 0) → Outcome A S → Type 0
Comes P (Went x s) = P x
Comes P (Refused r) = Unit {0}
Comes P Broken = ⊥

-- any result
abbrev pub any_result : {A : Type 0} → A → Type 0
any_result x = Unit {0}

-- A surround in which the names of a function stand for something: a storage for each local, a pointer for each
-- function and each global; and the types of the locals break no rule.
pub record Stands (named : Named) (s : Surround) : Type 0 where
  pub locals : named.locals ≡ length s.locals
  pub storage : length s.storage ≡ length s.locals
  pub functions : length s.functions ≡ named.functions
  pub globals : length s.globals ≡ named.globals
  pub types : All (λ (l : Local). TypeOk l.ty) s.locals

-- ---- expressions of well-formed programs

-- where an expression of a surround stands
abbrev pub around : List ℕ → Surround → Surroundings
around sizes s = record { sizes = sizes; locals = s.locals }

-- A place that breaks no rule in a surround in which its names stand for something.
pub record SoundPlace (s : Surround) (p : Place) : Type 0 where
  pub named : Named
  pub sizes : List ℕ
  pub stands : Stands named s
  pub shaped : is_shaped_place named p ≡ true
  pub unbroken : broken_in_place (around sizes s) p ≡ []

-- The same of a value, and of values in a row.
pub record SoundValue (s : Surround) (v : Value) : Type 0 where
  pub named : Named
  pub sizes : List ℕ
  pub stands : Stands named s
  pub shaped : is_shaped_value named v ≡ true
  pub unbroken : broken_in_value (around sizes s) v ≡ []

pub record SoundValues (s : Surround) (vs : List Value) : Type 0 where
  pub named : Named
  pub sizes : List ℕ
  pub stands : Stands named s
  pub shaped : list_all (is_shaped_value named) vs ≡ true
  pub unbroken : flat_map (broken_in_value (around sizes s)) vs ≡ []
