-- What the walk over a place comes to that has a type: only positions in arrays, and what it is behind, may be wrong.
use Rattle.mr_wf.proofs.Common.{◌≡◌, ℕ, Option, None, Some, Result, Ok, Err, refl, sym, ap, subst, ◌∙◌, Rule, Num, Ty, Place, Value, LocalName, chained, element_type, field_type, type_of_place, variant_type, is_int, Surroundings, ◌>>=◌, judged_place, judged_value, kept, there, Gives, GivesWhereTyped, Stops}
use Rattle.std.proofs.lemmas.Option.{none-some, same_Some}
use Rattle.mr_ast.specs.declared.types.IntType.TheVariants.{U64}
use Rattle.mr_typing.specs.Judging.{judged_position}
use Rattle.mr_typing.proofs.JudgedLaws.{judged_field, judged_index, judged_local_there, judged_variant_place}
use Rattle.mr_typing.proofs.TypeLaws.{type_of_field, type_of_index, type_of_local, type_of_variant_place}
use Rattle.mr_wf.specs.declared.fault.Broken.{Broken}
use Rattle.mr_ast.specs.declared.rule.Rule.TheVariants as form
use Rattle.mr_ast.specs.declared.expr.Place.TheVariants as place
use Rattle.mr_wf.specs.declared.fault.Broken.TheVariants as why
use Rattle.mr_wf.proofs.ListedLaws.{judged_typed}

abbrev Answer : Type 0
Answer = Result (Unit {0}) Broken

abbrev Typed : Ty → Answer → Result Ty Rule → Type 0
Typed t r walk = Gives (λ (u : Unit {0}). t) r walk

-- what is wrong with a part is wrong with the whole
stops_then : {A B : Type 0} (e : Broken) (j : Result A Rule) (f : A → Result B Rule) → Stops e j → Stops e (j >>= f)
stops_then (why.Rule broken) j f h = ap (λ (x : Result _ Rule). x >>= f) h
stops_then why.Memory j f h = tt

-- a part of a type that is there
part_given : (r : Answer) (o : Option Ty) (j : Result Ty Rule) (f : Ty → Option Ty) (t : Ty) → ((u : Ty) → o ≡ Some u → Typed u r j) → chained o f ≡ Some t
    → Typed t r (j >>= (λ u. there form.Place (f u)))
part_given r None j f t given e = absurd (none-some t e)
part_given (Ok u) (Some whole) j f t given e = ap (λ (x : Result Ty Rule). x >>= (λ u. there form.Place (f u))) (given whole refl) ∙ ap (there form.Place) e
part_given (Err broken) (Some whole) j f t given e = stops_then broken j (λ u. there form.Place (f u)) (given whole refl)

-- behind what may be wrong with a position
position_rest : (r : Answer) (k : Result (Unit {0}) Rule) (t : Ty) → Gives (λ u. u) r k → Typed t r (k >>= (λ _. Ok t))
position_rest (Ok u) k t h = ap (λ (x : Result (Unit {0}) Rule). x >>= (λ _. Ok t)) h
position_rest (Err broken) k t h = stops_then broken k (λ _. Ok t) h

position_given : (r : Answer) (j : Result Ty Rule) (t : Ty) → Gives (λ u. u) r (j >>= (λ i. kept form.Place (is_int U64 i))) → Typed t r (j >>= (λ i. kept form.Place (is_int U64 i) >>= (λ _. Ok t)))
position_given r (Ok i) t h = position_rest r (kept form.Place (is_int U64 i)) t h
position_given r (Err broken) t h = position_rest r (Err broken) t h

abbrev element_behind : Result Ty Rule → Result Ty Rule → Result Ty Rule
element_behind j i = j >>= (λ t. i >>= (λ u. there form.Place (element_type t) >>= (λ elem. kept form.Place (is_int U64 u) >>= (λ _. Ok elem))))

element_given : (r : Answer) (o : Option Ty) (j i : Result Ty Rule) (t : Ty) → ((u : Ty) → o ≡ Some u → j ≡ Ok u) → chained o element_type ≡ Some t
    → Gives (λ u. u) r (i >>= (λ x. kept form.Place (is_int U64 x))) → Typed t r (element_behind j i)
element_given r None j i t given e h = absurd (none-some t e)
element_given r (Some whole) j i t given e h =
    let is : element_behind j i ≡ (i >>= (λ x. kept form.Place (is_int U64 x) >>= (λ _. Ok t))) =
    ap (λ (x : Result Ty Rule). element_behind x i) (given whole refl)
    ∙ ap (λ (x : Option Ty). i >>= (λ u. there form.Place x >>= (λ elem. kept form.Place (is_int U64 u) >>= (λ _. Ok elem)))) e in
    subst (Typed t r) (sym is) (position_given r i t h)

element_stops : (broken : Broken) (o : Option Ty) (j i : Result Ty Rule) (t : Ty) → ((u : Ty) → o ≡ Some u → Stops broken j) → chained o element_type ≡ Some t → Stops broken (element_behind j i)
element_stops broken None j i t given e = absurd (none-some t e)
element_stops broken (Some whole) j i t given e =
    stops_then broken j (λ t. i >>= (λ u. there form.Place (element_type t) >>= (λ elem. kept form.Place (is_int U64 u) >>= (λ _. Ok elem)))) (given whole refl)

module _ (at : Surroundings) where
  pub given_local : (x : LocalName) → GivesWhereTyped at (Ok tt) (place.Local x)
  given_local x t e = judged_local_there at x ∙ ap (there form.Place) (sym (type_of_local at.locals x) ∙ e)

  -- what is judged has the type
  pub given_judged : (p : Place) (u : Ty) → judged_place at p ≡ Ok u → GivesWhereTyped at (Ok tt) p
  given_judged p u h t e = h ∙ ap (λ (x : Ty). Ok x) (same_Some u t (sym (judged_typed at p u h) ∙ e))

  pub given_stops : (p : Place) (broken : Broken) → Stops broken (judged_place at p) → GivesWhereTyped at (Err broken) p
  given_stops p broken h t e = h

  pub given_field : (p : Place) (n : ℕ) (r : Answer) → GivesWhereTyped at r p → GivesWhereTyped at r (place.Field p n)
  given_field p n r given t e =
      subst (Typed t r) (sym (judged_field at p n))
      (part_given r (type_of_place at.locals p) (judged_place at p) (λ u. field_type u n) t given (sym (type_of_field at.locals p n) ∙ e))

  pub given_variant : (p : Place) (n : Num) (r : Answer) → GivesWhereTyped at r p → GivesWhereTyped at r (place.Variant p n)
  given_variant p n r given t e =
      subst (Typed t r) (sym (judged_variant_place at p n))
      (part_given r (type_of_place at.locals p) (judged_place at p) (λ u. variant_type u n) t given (sym (type_of_variant_place at.locals p n) ∙ e))

  pub given_index : (p : Place) (i : Value) (r : Answer) → GivesWhereTyped at (Ok tt) p → Gives (λ u. u) r (judged_position at i) → GivesWhereTyped at r (place.Index p i)
  given_index p i r given h t e =
      subst (Typed t r) (sym (judged_index at p i))
      (element_given r (type_of_place at.locals p) (judged_place at p) (judged_value at i) t given (sym (type_of_index at.locals p i) ∙ e) h)

  pub index_stops : (p : Place) (i : Value) (broken : Broken) → GivesWhereTyped at (Err broken) p → GivesWhereTyped at (Err broken) (place.Index p i)
  index_stops p i broken given t e =
      subst (Stops broken) (sym (judged_index at p i))
      (element_stops broken (type_of_place at.locals p) (judged_place at p) (judged_value at i) t given (sym (type_of_index at.locals p i) ∙ e))

  -- a variant that has a type
  pub part_told : (p : Place) (n : Num) (u : Ty) → GivesWhereTyped at (Ok tt) p → type_of_place at.locals (place.Variant p n) ≡ Some u → judged_place at (place.Variant p n) ≡ Ok u
  part_told p n u given e = given_variant p n (Ok tt) given u e

  pub part_stops : (p : Place) (n : Num) (u : Ty) (broken : Broken) → GivesWhereTyped at (Err broken) p → type_of_place at.locals (place.Variant p n) ≡ Some u → Stops broken (judged_place at (place.Variant p n))
  part_stops p n u broken given e = given_variant p n (Err broken) given u e

pub ruleset given_laws = (given_local, given_judged, given_stops, given_field, given_variant, given_index, index_stops)

pub ruleset part_laws = (part_told, part_stops)
