-- A switch of a well-formed program leads to a block that is there.
use Rattle.mr_frame.proofs.Common.{◌≡◌, ℕ, ◌<◌, Bool, true, false, List, [], ◌∷◌, Option, Some, refl, sym, ap, ◌∙◌, subst, ◌&&◌, ◌||◌, if◌then◌else◌, is_some, list_all, same_Some, and_parts, is_block, is_shaped_target, is_shaped_term, is_shaped_num, Named, is_shaped_value, Value, BlockName, Function, Num, Ty, out-Ty, Ty-F, Variant, same_num, Val, out-Val, broken_in_parts, is_bool, is_integer, is_scalar_number, integer_in, type_of_value, bool_is, typed_switch, Done, Surround, value_script, or_ill_formed, IsSafe, Stands, any_result, around, value_safe, Shaped, safe_found, safe_then, first_case, number_as, switched, lt_from}
use Rattle.mr_value.specs.declared.val.Val.TheOpen.{Val-F}
use Rattle.mr_typing.specs.Blocks.{fits_switch, fits_switch_layer}
use Rattle.mr_typing.specs.Operands.{is_bool_layer}
use Rattle.mr_eval.proofs.OperatorsSafe.{bool_layer, integer_layer}
use Rattle.mr_frame.specs.Switches.{number_layer}
use Rattle.mr_ast.specs.declared.program.Term.TheVariants as term
use Rattle.mr_ast.specs.declared.types.Ty.TheVariants as ty

-- what is told of integers and of bools
pub by_kind : {B : Type 0} (told : Ty-F Ty Variant → Val-F Val → Option B) (t : Ty) (v : Val) → ((i : _) (n : ℕ) → (x : B) × (told (Ty-F.Int i) (Val-F.Int n) ≡ Some x)) → ((b : Bool) → (x : B) × (told Ty-F.Bool (Val-F.Bool b) ≡ Some x))
    → is_scalar_number t ≡ true → Shaped t v → (x : B) × (told (out-Ty t) (out-Val v) ≡ Some x)
by_kind {B} told t v int bool e h = by_test (is_integer t) refl
  where
    by_test : (b : Bool) → is_integer t ≡ b → (x : B) × (told (out-Ty t) (out-Val v) ≡ Some x)
    by_test true is =
        let layer = integer_layer t v is h in
        let x = int layer.int layer.bits in
        (x.0, ap (λ (l : Ty-F Ty Variant). told l (out-Val v)) (ap out-Ty layer.ty ∙ ty.outs-Int layer.int) ∙ ap (told (Ty-F.Int layer.int)) layer.layer ∙ x.1)
    by_test false is =
        let is_bool : is_bool t ≡ true = sym (ap (λ b. b || is_bool t) is) ∙ e in
        let layer = bool_layer t v is_bool h in
        let x = bool layer.0 in
        (x.0, ap (λ (l : Ty-F Ty Variant). told l (out-Val v)) (ap out-Ty (bool_is t is_bool) ∙ ty.outs-Bool) ∙ ap (told Ty-F.Bool) layer.1 ∙ x.1)

pub number_there : (t : Ty) (v : Val) → is_scalar_number t ≡ true → Shaped t v → (n : Num) × (number_as (Some t) v ≡ Some n)
number_there t v e h = by_kind number_layer t v (λ i n. (_, refl)) (λ b. (_, refl)) e h

-- what a switch is on is an integer or a bool
pub switch_scalar : (cases : List (Num × BlockName)) (t : Ty) → fits_switch cases t ≡ true → is_scalar_number t ≡ true
switch_scalar cases t e = by_layer (out-Ty t) e
  where
    by_layer : (x : Ty-F Ty Variant) → fits_switch_layer cases x ≡ true → (is_some (integer_in x) || is_bool_layer x) ≡ true
    by_layer (Ty-F.Int i) h = refl
    by_layer Ty-F.Bool h = refl
    by_layer _ h = absurd (cc)

-- the cases of a switch are blocks that are there
case_there : (named : Named) (n : Num) (cases : List (Num × BlockName)) (other : BlockName) → list_all (is_shaped_target named) cases ≡ true → is_block named other ≡ true → first_case n cases other < named.blocks
case_there named n [] other all last = lt_from other.0 named.blocks last
case_there named n (c ∷ cases) other all last =
    let parts = and_parts (is_shaped_target named c) (list_all (is_shaped_target named) cases) all in
    let block = and_parts (is_shaped_num c.0) (is_block named c.1) parts.0 in
    by_test (same_num c.0 n) (lt_from c.1.0 named.blocks block.1) (case_there named n cases other parts.1 last)
  where
    by_test : (b : Bool) → c.1.0 < named.blocks → first_case n cases other < named.blocks → (if b then c.1.0 else first_case n cases other) < named.blocks
    by_test true h k = h
    by_test false h k = k

pub switch_safe : (named : Named) (sizes : List ℕ) (s : Surround) (stands : Stands named s) (fn : Function) (v : Value) (cases : List (Num × BlockName)) (other : BlockName) → is_shaped_term named (term.Switch v cases other) ≡ true
    → broken_in_parts (around sizes s) (term.Switch v cases other) ≡ [] → IsSafe (λ b. b < named.blocks) (switched s v cases other)
switch_safe named sizes s stands fn v cases other shaped none =
    let parts = and_parts (is_shaped_value named v) (list_all (is_shaped_target named) cases && is_block named other) shaped in
    let blocks = and_parts (list_all (is_shaped_target named) cases) (is_block named other) parts.1 in
    let typed = typed_switch named fn (around sizes s) stands.locals v cases other shaped none in
    let is = value_safe named sizes s stands v parts.0 typed.unbroken in
    let scalar : is_scalar_number is.ty ≡ true = subst (λ (t : Ty). is_scalar_number t ≡ true) (same_Some typed.ty is.ty (sym typed.is ∙ is.is)) (switch_scalar cases typed.ty typed.fits) in
    safe_then (Shaped is.ty) (λ b. b < named.blocks) (value_script s v) _ is.safe
    (λ x h. let n = number_there is.ty x scalar h in
    safe_then any_result (λ b. b < named.blocks) (or_ill_formed (number_as (type_of_value s.locals v) x)) (λ k. Done (first_case k cases other))
    (safe_found any_result (number_as (type_of_value s.locals v) x) n.0 (ap (λ (o : Option Ty). number_as o x) is.is ∙ n.1) tt)
    (λ k u. case_there named k cases other blocks.0 blocks.1))
