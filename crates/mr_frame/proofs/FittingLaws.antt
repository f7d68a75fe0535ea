-- Whether the types of a call are those of a function, one after another.
use Rattle.mr_frame.proofs.Common.{◌≡◌, ℕ, ◌+◌, ◌<◌, ◌≤◌, refl, sym, ap, ◌∙◌, subst, arith, true, false, List, [], ◌∷◌, length, map, drop, get_or, Some, add-one, length-drop, drop-cons, nat_tests, drop_all, length-map, All-head, All-tail, same_Some, slice_get_within, option_map, All, slice_get, ◌==◌, ◌&&◌, Value, Function, Local, LocalName, Ty, same_type, type_of_value, env_surround, Surround, Env, ArgsIn, TypedIn, arg_types, written_types, both_there, local_type, same_types}
use Rattle.std.proofs.lemmas.Option.{get_or_from_slice_get}
use Rattle.mr_frame.proofs.BeginSteps.{FirstTyped, first_typed, names_within, row_length}
use Rattle.mr_frame.proofs.CallSafe.{types_there}
use Rattle.mr_frame.proofs.TypeRows.{First, first_there, none_there}

-- the types of arguments are there
pub args_known : (e : Env) (args : List Value) → ArgsIn e args → (types : List Ty) × (arg_types (env_surround e) args ≡ Some types)
args_known e [] h = ([], refl)
args_known e (v ∷ args) h =
    let here = All-head (TypedIn e) v args h in
    let rest = args_known e args (All-tail (TypedIn e) v args h) in
    (here.ty ∷ rest.0, λ i. option_map (λ e. e.0 ∷ e.1) (both_there (here.is i) (rest.1 i)))

-- These arguments and locals are not compared still; those before them have the same types.
pub record Fitting (s : Surround) (fn : Function) (args : List Value) (names : List LocalName) (all_args : List Value) (all_names : List LocalName) : Type 0 where
  pub given : List Ty
  pub kept : List Ty
  pub given_is : arg_types s args ≡ Some given
  pub kept_is : written_types fn names ≡ Some kept
  pub so_far : (ts us : List Ty) → arg_types s all_args ≡ Some ts → written_types fn all_names ≡ Some us → same_types ts us ≡ same_types given kept

pub fitting_first : (e : Env) (fn : Function) (args : List Value) (names : List LocalName) → ArgsIn e args → All (λ (x : LocalName). x.0 < length fn.locals) names → Fitting (env_surround e) fn args names args names
fitting_first e fn args names has within =
    let ts = args_known e args has in
    let us = types_there fn names (names_within fn names within) in
    record {
      given = ts.0;
      kept = us.0;
      given_is = ts.1;
      kept_is = us.1;
      so_far = λ a b p q. λ i. same_types (same_Some a ts.0 (sym p ∙ ts.1) i) (same_Some b us.0 (sym q ∙ us.1) i);
    }

module _ (s : Surround) (fn : Function) (v : Value) (args all_args : List Value) (all_names : List LocalName) where
  -- no local is left
  pub fitting_none : Fitting s fn (v ∷ args) [] all_args all_names → (ts us : List Ty) → arg_types s all_args ≡ Some ts → written_types fn all_names ≡ Some us → same_types ts us ≡ false
  fitting_none h ts us p q =
      let f = first_there (type_of_value s.locals v) (map (type_of_value s.locals) args) h.given h.given_is in
      h.so_far ts us p q ∙ (λ i. same_types (f.is i) (none_there h.kept h.kept_is i))

  module _ (x : LocalName) (names : List LocalName) (h : Fitting s fn (v ∷ args) (x ∷ names) all_args all_names) (t : Ty) (typed : type_of_value s.locals v ≡ Some t) (l : Local) (there : slice_get fn.locals x.0 ≡ Some l) where
    first : First (type_of_value s.locals v) (map (type_of_value s.locals) args) h.given
    first = first_there (type_of_value s.locals v) (map (type_of_value s.locals) args) h.given h.given_is

    wanted : FirstTyped fn names h.kept l
    wanted = first_typed fn x names h.kept l there h.kept_is

    both : (ts us : List Ty) → arg_types s all_args ≡ Some ts → written_types fn all_names ≡ Some us → same_types ts us ≡ same_type t l.ty && same_types first.rest wanted.rest
    both ts us p q =
        h.so_far ts us p q
        ∙ (λ i. same_types (first.is i) (wanted.is i))
        ∙ ap (λ (u : Ty). same_type u l.ty && same_types first.rest wanted.rest) (same_Some first.first t (sym first.here ∙ typed))

    -- of one type
    pub fitting_next : same_type t l.ty ≡ true → Fitting s fn args names all_args all_names
    fitting_next same = record {
      given = first.rest;
      kept = wanted.rest;
      given_is = first.behind;
      kept_is = wanted.behind;
      so_far = λ ts us p q. both ts us p q ∙ ap (λ b. b && same_types first.rest wanted.rest) same;
    }

    -- of two
    pub fitting_stops : same_type t l.ty ≡ false → (ts us : List Ty) → arg_types s all_args ≡ Some ts → written_types fn all_names ≡ Some us → same_types ts us ≡ false
    fitting_stops other ts us p q = both ts us p q ∙ ap (λ b. b && same_types first.rest wanted.rest) other

-- none is left to be compared
pub fitting_last : (s : Surround) (fn : Function) (names : List LocalName) (all_args : List Value) (all_names : List LocalName) → Fitting s fn [] names all_args all_names
    → (ts us : List Ty) → arg_types s all_args ≡ Some ts → written_types fn all_names ≡ Some us → same_types ts us ≡ (length names == 0)
fitting_last s fn names all_args all_names h ts us p q =
    h.so_far ts us p q ∙ ap (λ (given : List Ty). same_types given h.kept) (none_there h.given h.given_is) ∙ by_length h.kept (length names) (row_length (map (local_type fn) names) h.kept h.kept_is ∙ length-map names (local_type fn))
  where
    by_length : (kept : List Ty) (n : ℕ) → length kept ≡ n → same_types [] kept ≡ (n == 0)
    by_length [] n e = ap (λ k. k == 0) e
    by_length (t ∷ ts) n e = let some : 0 < n = omega (arith, e) in grind (arith, nat_tests)

-- ---- by the positions at which a loop stands

module _ (s : Surround) (fn : Function) (args : List Value) (names : List LocalName) (k : ℕ) (lt : k < length args) (v : Value) (is : v ≡ get_or args k v) where
  abbrev pub FittingAt : Type 0
  FittingAt = Fitting s fn (drop k args) (drop k names) args names

  args_cut : drop k args ≡ v ∷ drop (k + 1) args
  args_cut = drop-cons args k v lt ∙ (λ i. sym is i ∷ drop (sym (add-one k) i) args)

  pub cut_none : length names ≤ k → FittingAt → Fitting s fn (v ∷ drop (k + 1) args) [] args names
  cut_none le h = subst (λ (z : List Value × List LocalName). Fitting s fn z.0 z.1 args names) (λ i. (args_cut i, drop_all k names le i)) h

  pub cut_both : (x : LocalName) → slice_get names k ≡ Some x → FittingAt → Fitting s fn (v ∷ drop (k + 1) args) (x ∷ drop (k + 1) names) args names
  cut_both x there h =
      let inside = slice_get_within names k x there in
      let here = get_or_from_slice_get names k x x there in
      subst (λ (z : List Value × List LocalName). Fitting s fn z.0 z.1 args names)
      (λ i. (args_cut i, (drop-cons names k x inside ∙ (λ j. here j ∷ drop (sym (add-one k) j) names)) i)) h

pub cut_last : (s : Surround) (fn : Function) (args : List Value) (names : List LocalName) (k : ℕ) → length args ≤ k → k ≤ length args → k ≤ length names → Fitting s fn (drop k args) (drop k names) args names
    → (ts us : List Ty) → arg_types s args ≡ Some ts → written_types fn names ≡ Some us → (length args == length names) ≡ same_types ts us
cut_last s fn args names k low high inside h ts us p q =
    let left = length-drop k names in
    tests (length args) (length names) (length (drop k names)) (omega arith) (omega (arith, left))
    ∙ sym (fitting_last s fn (drop k names) args names (subst (λ (vs : List Value). Fitting s fn vs (drop k names) args names) (drop_all k args low) h) ts us p q)
  where
    tests : (a b c : ℕ) → a ≤ b → c + a ≡ b → (a == b) ≡ (c == 0)
    tests a b c le e = grind (arith, nat_tests)
