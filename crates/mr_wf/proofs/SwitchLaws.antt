-- What a switch takes, from the kind of its value's type.
use Rattle.mr_wf.proofs.Common.{◌≡◌, ℕ, zero, suc, ◌+◌, ◌<◌, Bool, true, false, List, [], ◌∷◌, drop, get_or, length, refl, ap, ◌∙◌, drop_more, ◌&&◌, None, Some, BlockName, Num, Ty, integer_of}
use Rattle.std.specs.Prelude.{not}
use Rattle.mr_ast.specs.declared.types.IntType.{IntType}
use Rattle.mr_ast.specs.declared.types.Ty.{out-Ty}
use Rattle.mr_ast.specs.declared.types.Ty.TheOpen.{Ty-F}
use Rattle.mr_ast.specs.declared.types.Variant.{Variant}
use Rattle.mr_layout.specs.EnumRules.{is_case}
use Rattle.mr_ast.specs.Integers.{is_fitting}
use Rattle.mr_typing.specs.Blocks.{are_bool_cases, are_int_cases, fits_switch, fits_switch_layer}
use Rattle.mr_typing.specs.Operands.{is_bool, is_bool_layer}
use Rattle.mr_typing.specs.Types.{integer_in}

int_layer : (cases : List (Num × BlockName)) (d : Ty-F Ty Variant) (i : IntType) → integer_in d ≡ Some i → fits_switch_layer cases d ≡ are_int_cases i cases
int_layer cases (Ty-F.Int j) i e = let same : j ≡ i = cc in ap (λ (k : IntType). are_int_cases k cases) same
int_layer cases _ i e = absurd (cc)

other_layer : (cases : List (Num × BlockName)) (d : Ty-F Ty Variant) → integer_in d ≡ None → fits_switch_layer cases d ≡ (is_bool_layer d && are_bool_cases cases)
other_layer cases (Ty-F.Int j) e = absurd (cc)
other_layer cases _ e = refl

pub switch_on_int : (cases : List (Num × BlockName)) (t : Ty) (i : IntType) → integer_of t ≡ Some i → fits_switch cases t ≡ are_int_cases i cases
switch_on_int cases t i e = int_layer cases (out-Ty t) i e

pub switch_on_other : (cases : List (Num × BlockName)) (t : Ty) → integer_of t ≡ None → fits_switch cases t ≡ (is_bool t && are_bool_cases cases)
switch_on_other cases t e = other_layer cases (out-Ty t) e

none_of_three : (a b : Bool) → (a && (b && false)) ≡ false
none_of_three true true = refl
none_of_three true false = refl
none_of_three false b = refl

-- what is wrong with the cases from a position on is wrong with all
pub wrong_behind : (i : IntType) (cases : List (Num × BlockName)) (k : ℕ) → are_int_cases i (drop k cases) ≡ false → are_int_cases i cases ≡ false
wrong_behind i cases zero e = e
wrong_behind i [] (suc k) e = e
wrong_behind i (c ∷ cases) (suc k) e =
    ap (λ (rest : Bool). is_fitting i c.0 && (not (is_case c.0 cases) && rest)) (wrong_behind i cases k e) ∙ none_of_three (is_fitting i c.0) (not (is_case c.0 cases))

module _ (i : IntType) (cases : List (Num × BlockName)) (k : ℕ) (d : Num × BlockName) (lt : k < length cases) where
  abbrev number : Num
  number = (get_or cases k d).0

  -- the cases from a position on: the one there, and those behind it
  cases_from : are_int_cases i (drop k cases) ≡ (is_fitting i number && (not (is_case number (drop (k + 1) cases)) && are_int_cases i (drop (k + 1) cases)))
  cases_from = ap (are_int_cases i) (drop_more cases k d lt)

  -- a case that does not fit
  pub case_unfit : is_fitting i number ≡ false → are_int_cases i cases ≡ false
  case_unfit e =
      wrong_behind i cases k (cases_from ∙ ap (λ (b : Bool). b && (not (is_case number (drop (k + 1) cases)) && are_int_cases i (drop (k + 1) cases))) e)

  -- a case that comes again behind
  pub case_again : is_case number (drop (k + 1) cases) ≡ true → are_int_cases i cases ≡ false
  case_again e =
      wrong_behind i cases k (cases_from ∙ ap (λ (b : Bool). is_fitting i number && (not b && are_int_cases i (drop (k + 1) cases))) e ∙ never (is_fitting i number))
    where
      never : (b : Bool) → (b && false) ≡ false
      never true = refl
      never false = refl
