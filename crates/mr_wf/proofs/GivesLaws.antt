-- What follows of an answer for the walk that goes on behind it.
use Rattle.mr_wf.proofs.Common.{◌≡◌, ℕ, suc, ◌+◌, ◌<◌, ◌≤◌, List, [], ◌∷◌, ◌++◌, length, drop, get_or, Option, Result, Ok, Err, refl, sym, ap, subst, ◌∙◌, arith, append_assoc, drop_more, Rule, BlockName, Value, Ty, Surroundings, ◌>>=◌, judged_value, judged_values, Judged, Walked, ◌then◌, each_walked, placed, Gives, Stops, Walks}
use Rattle.std.proofs.Common.{append-nil}
use Rattle.std.proofs.lemmas.List.{drop_all}
use Rattle.mr_typing.specs.declared.fault.Item.{Item}
use Rattle.mr_wf.specs.declared.fault.Broken.{Broken}
use Rattle.mr_wf.specs.declared.fault.Stopped.{Stopped}
use Rattle.mr_wf.specs.Gives.{placing}
use Rattle.mr_wf.specs.declared.fault.Broken.TheVariants as why
use Rattle.mr_wf.specs.declared.fault.Stopped.TheVariants as stopped

-- ---- the types of values

-- what is judged of the values that are left, behind the types of those before them
abbrev pub with_types : List Ty → Result (List Ty) Rule → Result (List Ty) Rule
with_types front r = r >>= (λ ts. Ok (front ++ ts))

with_types-push : (front : List Ty) (t : Ty) (r : Result (List Ty) Rule) → with_types front (r >>= (λ ts. Ok (t ∷ ts))) ≡ with_types (front ++ t ∷ []) r
with_types-push front t (Ok ts) = ap (λ (all : List Ty). Ok all) (sym (append_assoc front (t ∷ []) ts))
with_types-push front t (Err broken) = refl

pub with_none : (r : Result (List Ty) Rule) → with_types [] r ≡ r
with_none (Ok ts) = refl
with_none (Err broken) = refl

module _ (at : Surroundings) (front : List Ty) (vs : List Value) (i : ℕ) (whole : Result (List Ty) Rule) (so_far : with_types front (judged_values at (drop i vs)) ≡ whole) where
  abbrev rest_judged : Result Ty Rule → Result (List Ty) Rule
  rest_judged r = with_types front (r >>= (λ t. judged_values at (drop (i + 1) vs) >>= (λ ts. Ok (t ∷ ts))))

  values_left : (v : Value) → i < length vs → v ≡ get_or vs i v → rest_judged (judged_value at v) ≡ whole
  values_left v lt is =
      ap (λ (x : Value). rest_judged (judged_value at x)) is ∙ ap (λ (left : List Value). with_types front (judged_values at left)) (sym (drop_more vs i v lt)) ∙ so_far

  -- one more value has a type
  pub value_goes_on : (v : Value) (t : Ty) → i < length vs → v ≡ get_or vs i v → judged_value at v ≡ Ok t → with_types (front ++ t ∷ []) (judged_values at (drop (i + 1) vs)) ≡ whole
  value_goes_on v t lt is e = sym (with_types-push front t (judged_values at (drop (i + 1) vs))) ∙ ap rest_judged (sym e) ∙ values_left v lt is

  -- one more value breaks a rule
  pub value_stops : (v : Value) (broken : Broken) → i < length vs → v ≡ get_or vs i v → Stops broken (judged_value at v) → Stops broken whole
  value_stops v (why.Rule broken) lt is h = sym (values_left v lt is) ∙ ap rest_judged h
  value_stops v why.Memory lt is h = tt

  -- no value is left
  pub values_done : length vs ≤ i → whole ≡ Ok front
  values_done le =
      sym so_far ∙ ap (λ (left : List Value). with_types front (judged_values at left)) (drop_all i vs le) ∙ ap (λ (ts : List Ty). Ok ts) (append-nil front)

-- ---- positions

walks_stop : (e : Stopped) (r next : Walked) → Walks (Err e) r → Walks (Err e) (r then next)
walks_stop (stopped.At fault) r next h = ap (λ (s : Walked). s then next) h
walks_stop stopped.Memory r next h = tt

-- what is judged at a position is walked there
pub placed_walks : (it : Item) (block : Option BlockName) (place : ℕ) (answer : Result (Unit {0}) Broken) (r : Judged)
    → Gives (λ u. u) answer r → Walks (placing it block place answer) (placed it block place r)
placed_walks it block place (Ok u) r h = ap (placed it block place) h
placed_walks it block place (Err (why.Rule broken)) r h = ap (placed it block place) h
placed_walks it block place (Err why.Memory) r h = tt

-- ---- things in a row

module _ {A : Type 0} (walk : ℕ → A → Walked) (xs : List A) (i : ℕ) (whole : Walked) (so_far : each_walked walk i (drop i xs) ≡ whole) where
  things_left : (x : A) → i < length xs → x ≡ get_or xs i x → (walk i x then each_walked walk (i + 1) (drop (i + 1) xs)) ≡ whole
  things_left x lt is =
      let one : i + 1 ≡ suc i = omega arith in
      ap (λ (y : A). walk i y then each_walked walk (i + 1) (drop (i + 1) xs)) is
      ∙ ap (λ (n : ℕ). walk i (get_or xs i x) then each_walked walk n (drop (i + 1) xs)) one
      ∙ ap (each_walked walk i) (sym (drop_more xs i x lt)) ∙ so_far

  -- one more breaks no rule
  pub thing_goes_on : (x : A) → i < length xs → x ≡ get_or xs i x → walk i x ≡ Ok tt → each_walked walk (i + 1) (drop (i + 1) xs) ≡ whole
  thing_goes_on x lt is e = ap (λ (r : Walked). r then each_walked walk (i + 1) (drop (i + 1) xs)) (sym e) ∙ things_left x lt is

  -- one more breaks a rule
  pub thing_stops : (e : Stopped) (x : A) → i < length xs → x ≡ get_or xs i x → Walks (Err e) (walk i x) → Walks (Err e) whole
  thing_stops e x lt is h = subst (Walks (Err e)) (things_left x lt is) (walks_stop e (walk i x) (each_walked walk (i + 1) (drop (i + 1) xs)) h)

  -- nothing is left
  pub things_done : length xs ≤ i → whole ≡ Ok tt
  things_done le = sym so_far ∙ ap (each_walked walk i) (drop_all i xs le)
