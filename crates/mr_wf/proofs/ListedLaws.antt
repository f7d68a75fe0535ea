-- What follows from the list of a function's types: each type is that of what it is listed for, whatever is listed behind it.
use Rattle.mr_wf.proofs.Common.{◌≡◌, ℕ, zero, suc, ◌+◌, ◌<◌, Bool, true, false, List, [], ◌∷◌, ◌++◌, length, map, drop, get_or, Option, None, Some, Result, Ok, Err, refl, sym, ap, subst, ◌∙◌, ◌&&◌, slice_get, drop_more, Rule, Num, Ty, Place, Value, LocalName, chained, element_type, field_type, type_of_place, variant_type, is_int, match_element, Surroundings, ◌>>=◌, judged_place, judged_value, judged_values, kept, sound_type, there, AlikeValue, AlikeValues, AreClasses, AreListed, HasType, IsWhole}
use Rattle.std.proofs.Common.{true≢false, inl, inr, Bor}
use Rattle.std.specs.Prelude.{if◌then◌else◌, option_copied}
use Rattle.std.specs.Option.{option_map}
use Rattle.std.proofs.lemmas.Bool.{or_parts}
use Rattle.std.proofs.lemmas.Option.{none-some, same_Some, slice_get-get_or, slice_get-map}
use Rattle.mr_ast.specs.declared.types.IntType.TheVariants.{U64}
use Rattle.mr_ast.specs.declared.types.Variant.{Variant}
use Rattle.mr_ast.specs.declared.program.Local.{Local}
use Rattle.mr_ast.proofs.ExprInduction.{ExprCases, place_induction}
use Rattle.mr_ast.proofs.NameLaws.{push_cases}
use Rattle.mr_layout.specs.Alike.{number_twice}
use Rattle.mr_layout.specs.EnumRules.{is_number_of, same_num}
use Rattle.mr_layout.proofs.TreeOk.{same_num_equal}
use Rattle.mr_typing.specs.Types.{variant_among}
use Rattle.mr_typing.specs.SameTypes.{same_type}
use Rattle.mr_typing.specs.Operands.{is_pointer}
use Rattle.mr_typing.proofs.JudgedLaws.{judged_deref, judged_field, judged_index, judged_load, judged_local_there, judged_variant_place}
use Rattle.mr_typing.proofs.SameTypeLaws.{same_num_itself, same_type_equal, same_type_itself}
use Rattle.mr_typing.proofs.TypeLaws.{type_of_deref, type_of_field, type_of_index, type_of_local, type_of_variant_place}
use Rattle.mr_wf.specs.declared.listing.Listed.{Listed}
use Rattle.mr_wf.specs.declared.listing.Origin.{Origin}
use Rattle.mr_wf.specs.declared.listing.Types.{Types}
use Rattle.mr_wf.specs.Listed.{AlikeSome, AreTypes, Lists, around, listed_at, origin_at, type_from}
use Rattle.mr_ast.specs.declared.rule.Rule.TheVariants as form
use Rattle.mr_ast.specs.declared.expr.Place.TheVariants as place
use Rattle.mr_ast.specs.declared.expr.Value.TheVariants as value
use Rattle.mr_wf.specs.declared.listing.Origin.TheVariants as origin

-- ---- one more in a list

-- what was listed stays listed
kept_push : (list : List Listed) (l : Listed) (at : ℕ) (t : Ty) → listed_at list at ≡ Some t → listed_at (list ++ l ∷ []) at ≡ Some t
kept_push [] l at t e = absurd (none-some t e)
kept_push (x ∷ list) l zero t e = e
kept_push (x ∷ list) l (suc at) t e = kept_push list l at t e

chained_kept : (o p : Option Ty) (f : Ty → Option Ty) (u : Ty) → ((t : Ty) → o ≡ Some t → p ≡ Some t) → chained o f ≡ Some u → chained p f ≡ Some u
chained_kept None p f u kept e = absurd (none-some u e)
chained_kept (Some t) p f u kept e = ap (λ (x : Option Ty). chained x f) (kept t refl) ∙ e

-- what was the type of an origin stays so
from_kept : (locals : List Local) (old new : List Listed) (o : Origin) (u : Ty) → ((at : ℕ) (t : Ty) → listed_at old at ≡ Some t → listed_at new at ≡ Some t)
    → type_from locals old o ≡ Some u → type_from locals new o ≡ Some u
from_kept locals old new (origin.Local n) u kept e = e
from_kept locals old new (origin.Field whole n) u kept e = chained_kept (listed_at old whole) (listed_at new whole) (λ t. field_type t n) u (kept whole) e
from_kept locals old new (origin.Element whole) u kept e = chained_kept (listed_at old whole) (listed_at new whole) element_type u (kept whole) e
from_kept locals old new (origin.Variant whole n) u kept e = chained_kept (listed_at old whole) (listed_at new whole) (λ t. variant_type t n) u (kept whole) e

-- one more type is listed
pub lists_one : (locals : List Local) (list : List Listed) (l : Listed) → AreListed locals list → type_from locals list l.origin ≡ Some l.ty.now → Lists locals list (list ++ l ∷ [])
lists_one locals list l listed is =
    let new = list ++ l ∷ [] in
    let grown = λ (o : Origin) (u : Ty) (e : type_from locals list o ≡ Some u). from_kept locals list new o u (kept_push list l) e in
    record {
      listed = λ at x e. elim (push_cases list l x at e) [
        | inl before ↦ grown x.origin x.ty.now (listed at x before)
        | inr same ↦ subst (λ (y : Listed). type_from locals new y.origin ≡ Some y.ty.now) same (grown l.origin l.ty.now is)
      ];
      kept = kept_push list l;
    }

-- no type is listed at all
pub listed_none : (locals : List Local) (list : List Listed) → list ≡ [] → AreListed locals list
listed_none locals list is at l e = absurd (none-some l (sym (ap (λ (xs : List Listed). slice_get xs at) is) ∙ e))

-- and none has a number
pub classes_none : (list : List Listed) (classes : List ℕ) → classes ≡ [] → AreClasses list classes
classes_none list classes is at class e = absurd (none-some class (sym (ap (λ (ns : List ℕ). slice_get ns at) is) ∙ e))

-- none more is listed
pub lists_none : (locals : List Local) (list : List Listed) → AreListed locals list → Lists locals list list
lists_none locals list listed = record { listed = listed; kept = λ at t e. e }

-- ---- parts of a listed type

module _ (locals : List Local) (list : List Listed) (at : ℕ) (t : Ty) (is : IsWhole locals list at t) where
  pub variant_from : (n : Num) (u : Ty) → variant_type t n ≡ Some u → type_from locals list (origin.Variant at n) ≡ Some u
  variant_from n u e = ap (λ (o : Option Ty). chained o (λ x. variant_type x n)) is.whole ∙ e

-- ---- variants of which no two have one number

apart_turned : (n m : Num) → same_num n m ≡ false → same_num m n ≡ false
apart_turned n m e = by_test (same_num m n) refl
  where
    by_test : (b : Bool) → same_num m n ≡ b → b ≡ false
    by_test false h = refl
    by_test true h = absurd (true≢false (sym (same_num_itself n) ∙ ap (same_num n) (sym (same_num_equal m n h)) ∙ e))

other_number : (vs : List Variant) (i : ℕ) (v : Variant) (n : Num) → is_number_of n vs ≡ false → slice_get vs i ≡ Some v → same_num v.number n ≡ false
other_number [] i v n e is = absurd (none-some v is)
other_number (w ∷ vs) zero v n e is =
    ap (λ (x : Variant). same_num x.number n) (sym (same_Some w v is)) ∙ (or_parts (same_num w.number n) (is_number_of n vs) e).0
other_number (w ∷ vs) (suc i) v n e is = other_number vs i v n (or_parts (same_num w.number n) (is_number_of n vs) e).1 is

abbrev first_or : Bool → Ty → Option Ty → Option Ty
first_or b t o = if b then Some t else o

-- each of them is the first with its number
pub apart_first : (vs : List Variant) (i : ℕ) (v : Variant) → number_twice vs ≡ false → slice_get vs i ≡ Some v → variant_among vs v.number ≡ Some v.ty
apart_first [] i v e is = absurd (none-some v is)
apart_first (w ∷ vs) zero v e is =
    subst (λ (x : Variant). variant_among (w ∷ vs) x.number ≡ Some x.ty) (same_Some w v is)
    (ap (λ (b : Bool). first_or b w.ty (variant_among vs w.number)) (same_num_itself w.number))
apart_first (w ∷ vs) (suc i) v e is =
    let parts = or_parts (is_number_of w.number vs) (number_twice vs) e in
    let other : same_num w.number v.number ≡ false = apart_turned v.number w.number (other_number vs i v w.number parts.0 is) in
    ap (λ (b : Bool). first_or b w.ty (variant_among vs v.number)) other ∙ apart_first vs i v parts.1 is

-- and so it is found by its number
pub apart_from : (locals : List Local) (list : List Listed) (at : ℕ) (t : Ty) (vs : List Variant) (i : ℕ) (v : Variant) → IsWhole locals list at t
    → ((n : Num) → variant_type t n ≡ variant_among vs n) → number_twice vs ≡ false → i < length vs → v ≡ get_or vs i v
    → type_from locals list (origin.Variant at v.number) ≡ Some v.ty
apart_from locals list at t vs i v is variants apart lt item =
    variant_from locals list at t is v.number v.ty (variants v.number ∙ apart_first vs i v apart (slice_get-get_or vs i v lt ∙ ap (λ (x : Variant). Some x) (sym item)))

-- ---- numbers of equal types

-- each has its own position as its number
abbrev pub Own : List ℕ → Type 0
Own classes = (at class : ℕ) → slice_get classes at ≡ Some class → at ≡ class

-- ---- answers of the walk

ok_then : {A B : Type 0} (r : Result A Rule) (f : A → Result B Rule) (y : B) → (r >>= f) ≡ Ok y → (x : A) × (r ≡ Ok x) × (f x ≡ Ok y)
ok_then (Ok x) f y e = (x, refl, e)
ok_then (Err broken) f y e = absurd (cc)

there_ok : {A : Type 0} (broken : Rule) (o : Option A) (x : A) → there broken o ≡ Ok x → o ≡ Some x
there_ok broken None x e = absurd (cc)
there_ok broken (Some y) x e = let same : y ≡ x = cc in ap (λ z. Some z) same

ok_same : {A : Type 0} (r : Result A Rule) (x y : A) → r ≡ Ok x → r ≡ Ok y → x ≡ y
ok_same r x y e f = cc

-- the type that is judged of a place is its type
judged_cases : (at : Surroundings) → ExprCases (λ (p : Place). (t : Ty) → judged_place at p ≡ Ok t → type_of_place at.locals p ≡ Some t) (λ (v : Value). Unit {0})
judged_cases at = record {
  at_local = λ x t h.
      type_of_local at.locals x ∙ there_ok form.Place (option_map (λ (l : Local). l.ty) (slice_get at.locals x.0)) t (sym (judged_local_there at x) ∙ h);
  at_deref = λ v u _ t h.
      let one = ok_then (judged_value at v) (λ x. sound_type u >>= (λ _. kept form.Place (is_pointer x) >>= (λ _. Ok u))) t (sym (judged_deref at v u) ∙ h) in
      let two = ok_then (sound_type u) (λ _. kept form.Place (is_pointer one.0) >>= (λ _. Ok u)) t one.2 in
      let three = ok_then (kept form.Place (is_pointer one.0)) (λ _. Ok u) t two.2 in
      type_of_deref at.locals v u ∙ ap (λ (x : Ty). Some x) (ok_same (Ok u) u t refl three.2);
  at_field = λ p n told t h.
      let step = ok_then (judged_place at p) (λ u. there form.Place (field_type u n)) t (sym (judged_field at p n) ∙ h) in
      type_of_field at.locals p n ∙ ap (λ (o : Option Ty). chained o (λ u. field_type u n)) (told step.0 step.1) ∙ there_ok form.Place (field_type step.0 n) t step.2;
  at_index = λ p i told _ t h.
      let one = ok_then (judged_place at p) (λ u. judged_value at i >>= (λ x. there form.Place (element_type u) >>= (λ elem. kept form.Place (is_int U64 x) >>= (λ _. Ok elem)))) t (sym (judged_index at p i) ∙ h) in
      let two = ok_then (judged_value at i) (λ x. there form.Place (element_type one.0) >>= (λ elem. kept form.Place (is_int U64 x) >>= (λ _. Ok elem))) t one.2 in
      let three = ok_then (there form.Place (element_type one.0)) (λ elem. kept form.Place (is_int U64 two.0) >>= (λ _. Ok elem)) t two.2 in
      let four = ok_then (kept form.Place (is_int U64 two.0)) (λ _. Ok three.0) t three.2 in
      type_of_index at.locals p i ∙ ap (λ (o : Option Ty). chained o element_type) (told one.0 one.1) ∙ there_ok form.Place (element_type one.0) three.0 three.1
      ∙ ap (λ (x : Ty). Some x) (ok_same (Ok three.0) three.0 t refl four.2);
  at_variant_place = λ p n told t h.
      let step = ok_then (judged_place at p) (λ u. there form.Place (variant_type u n)) t (sym (judged_variant_place at p n) ∙ h) in
      type_of_variant_place at.locals p n ∙ ap (λ (o : Option Ty). chained o (λ u. variant_type u n)) (told step.0 step.1) ∙ there_ok form.Place (variant_type step.0 n) t step.2;
  at_int = λ i n. tt;
  at_true = tt;
  at_false = tt;
  at_raw = λ n. tt;
  at_fn = λ f. tt;
  at_global = λ g n. tt;
  at_tuple = λ u vs _. tt;
  at_union = λ u n v _. tt;
  at_variant = λ u n v _. tt;
  at_load = λ p _. tt;
  at_disc = λ p _. tt;
  at_addr_of = λ u p _. tt;
  at_cast = λ i v _. tt;
  at_transmute = λ u v _. tt;
  at_unary = λ o v _. tt;
  at_binary = λ o a b _ _. tt;
}

pub judged_typed : (at : Surroundings) (p : Place) (t : Ty) → judged_place at p ≡ Ok t → type_of_place at.locals p ≡ Some t
judged_typed at = place_induction (λ (p : Place). (t : Ty) → judged_place at p ≡ Ok t → type_of_place at.locals p ≡ Some t) (λ (v : Value). Unit {0}) (judged_cases at)

-- ---- the places of a function

-- what is listed is the type of what it is listed for
from_origin : (locals : List Local) (list : List Listed) (k : ℕ) (o : Origin) → AreListed locals list → origin_at list k ≡ Some o → type_from locals list o ≡ listed_at list k
from_origin locals list k o listed e = by_entry (slice_get list k) refl e
  where
    by_entry : (s : Option Listed) → slice_get list k ≡ s → option_map (λ (l : Listed). l.origin) s ≡ Some o → type_from locals list o ≡ option_map (λ (l : Listed). l.ty.now) s
    by_entry None is h = absurd (none-some o h)
    by_entry (Some l) is h = ap (type_from locals list) (sym (same_Some l.origin o h)) ∙ listed k l is

module _ (locals : List Local) (types : Types) (are : AreTypes locals types) (k : ℕ) where
  abbrev list : List Listed
  list = types.list.items

  pub local_typed : (x : LocalName) → origin_at list k ≡ Some (origin.Local x.0) → type_of_place locals (place.Local x) ≡ listed_at list k
  local_typed x e = type_of_local locals x ∙ from_origin locals list k (origin.Local x.0) are.listed e

  pub field_typed : (whole : Place) (n w : ℕ) → type_of_place locals whole ≡ listed_at list w → origin_at list k ≡ Some (origin.Field w n) → type_of_place locals (place.Field whole n) ≡ listed_at list k
  field_typed whole n w is e =
      type_of_field locals whole n ∙ ap (λ (o : Option Ty). chained o (λ t. field_type t n)) is ∙ from_origin locals list k (origin.Field w n) are.listed e

  pub index_typed : (array : Place) (index : Value) (w : ℕ) → type_of_place locals array ≡ listed_at list w → origin_at list k ≡ Some (origin.Element w) → type_of_place locals (place.Index array index) ≡ listed_at list k
  index_typed array index w is e =
      type_of_index locals array index ∙ ap (λ (o : Option Ty). chained o element_type) is ∙ from_origin locals list k (origin.Element w) are.listed e

  pub variant_typed : (whole : Place) (n : Num) (w : ℕ) → type_of_place locals whole ≡ listed_at list w → origin_at list k ≡ Some (origin.Variant w n) → type_of_place locals (place.Variant whole n) ≡ listed_at list k
  variant_typed whole n w is e =
      type_of_variant_place locals whole n ∙ ap (λ (o : Option Ty). chained o (λ t. variant_type t n)) is ∙ from_origin locals list k (origin.Variant w n) are.listed e

pub ruleset listed_laws = (local_typed, field_typed, index_typed, variant_typed)

-- the variant that is listed is that of the type that is judged
pub variant_told : (at : Surroundings) (p : Place) (n : Num) (t u : Ty) → judged_place at p ≡ Ok t → type_of_place at.locals (place.Variant p n) ≡ Some u → variant_type t n ≡ Some u
variant_told at p n t u h e =
    ap (λ (o : Option Ty). chained o (λ x. variant_type x n)) (sym (judged_typed at p t h)) ∙ sym (type_of_variant_place at.locals p n) ∙ e

-- ---- places and values of one type

-- what is loaded has the type of its place
pub load_alike : (locals : List Local) (a b : Place) → type_of_place locals a ≡ type_of_place locals b → AlikeValue locals a (value.Load b)
load_alike locals a b alike sizes t u h k =
    let at = around sizes locals in
    same_Some t u (sym (judged_typed at a t h) ∙ alike ∙ judged_typed at b u (sym (judged_load at b) ∙ k))

pub loads_alike : (locals : List Local) (a : Place) (v : Value) → AlikeValue locals a v → AlikeValues locals (value.Load a) v
loads_alike locals a v alike sizes t u h k = alike sizes t u (sym (judged_load (around sizes locals) a) ∙ h) k

-- equal types are written alike
pub same_from : (t u : Ty) → t ≡ u → true ≡ same_type t u
same_from t u e = sym (same_type_itself t) ∙ ap (same_type t) e

-- ---- elements

-- a value is an element as the last one was, where both are loaded from places of one type
pub element_alike : (sizes : List ℕ) (locals : List Local) (last value : Option (Bor Value)) (elem t : Ty) → HasType (around sizes locals) last elem → HasType (around sizes locals) value t
    → AlikeSome locals last value → true ≡ same_type t elem
element_alike sizes locals (Some v) (Some w) elem t before h alike = same_from t elem (sym (alike sizes elem t before h))
element_alike sizes locals (Some v) None elem t before h alike = absurd (true≢false (sym alike))
element_alike sizes locals None value elem t before h alike = absurd (true≢false (sym alike))

-- the first of some values, and those behind it
first_judged : (at : Surroundings) (v : Value) (vs : List Value) (t : Ty) (ts : List Ty) → judged_values at (v ∷ vs) ≡ Ok (t ∷ ts) → (judged_value at v ≡ Ok t) × (judged_values at vs ≡ Ok ts)
first_judged at v vs t ts e =
    let one = ok_then (judged_value at v) (λ x. judged_values at vs >>= (λ xs. Ok (x ∷ xs))) (t ∷ ts) e in
    let two = ok_then (judged_values at vs) (λ xs. Ok (one.0 ∷ xs)) (t ∷ ts) one.2 in
    let same : one.0 ∷ two.0 ≡ t ∷ ts = ok_same (Ok (one.0 ∷ two.0)) (one.0 ∷ two.0) (t ∷ ts) refl two.2 in
    let heads : one.0 ≡ t = cc in
    let tails : two.0 ≡ ts = cc in
    (one.1 ∙ ap (λ x. Ok x) heads, two.1 ∙ ap (λ xs. Ok xs) tails)

none_judged : (at : Surroundings) (v : Value) (vs : List Value) → judged_values at (v ∷ vs) ≡ Ok [] → ⊥
none_judged at v vs e =
    let one = ok_then (judged_value at v) (λ x. judged_values at vs >>= (λ xs. Ok (x ∷ xs))) [] e in
    let two = ok_then (judged_values at vs) (λ xs. Ok (one.0 ∷ xs)) [] one.2 in
    let same : one.0 ∷ two.0 ≡ [] = ok_same (Ok (one.0 ∷ two.0)) (one.0 ∷ two.0) [] refl two.2 in
    cc

-- the value at a position
judged_at : (at : Surroundings) (vs : List Value) (ts : List Ty) (i : ℕ) (v : Value) (t : Ty) → judged_values at vs ≡ Ok ts → slice_get vs i ≡ Some v → slice_get ts i ≡ Some t → judged_value at v ≡ Ok t
judged_at at [] ts i v t e is has = absurd (none-some v is)
judged_at at (w ∷ vs) [] i v t e is has = absurd (none_judged at w vs e)
judged_at at (w ∷ vs) (u ∷ ts) zero v t e is has =
    ap (judged_value at) (sym (same_Some w v is)) ∙ (first_judged at w vs u ts e).0 ∙ ap (λ x. Ok x) (same_Some u t has)
judged_at at (w ∷ vs) (u ∷ ts) (suc i) v t e is has = judged_at at vs ts i v t (first_judged at w vs u ts e).1 is has

pub has_type_at : (at : Surroundings) (vs : List Value) (ts : List Ty) (i : ℕ) (value : Option (Bor Value)) (t : Ty) → judged_values at vs ≡ Ok ts → option_copied value ≡ slice_get vs i → slice_get ts i ≡ Some t
    → HasType at value t
has_type_at at vs ts i None t e is has = tt
has_type_at at vs ts i (Some v) t e is has = judged_at at vs ts i v.now t e (sym is) has

-- the type at a position, of types that are known
pub known_at : {X : Type 0} (type : X → Ty) (xs : List X) (i : ℕ) (x : X) → i < length xs → x ≡ get_or xs i x → slice_get (map type xs) i ≡ Some (type x)
known_at type xs i x lt is = slice_get-map type xs i ∙ ap (option_map type) (slice_get-get_or xs i x lt ∙ ap (λ (y : _). Some y) (sym is))

-- what has the type of an element is one, and what is judged to have its type has that of the elements
pub has_element : (at : Surroundings) (value : Option (Bor Value)) (t elem : Ty) → HasType at value t → true ≡ same_type t elem → HasType at value elem
has_element at value t elem h same = subst (HasType at value) (same_type_equal t elem (sym same)) h

-- an element, and those behind it
pub elements_next : {X : Type 0} (type : X → Ty) (elem : Ty) (xs : List X) (i : ℕ) (x : X) → i < length xs → x ≡ get_or xs i x → true ≡ same_type (type x) elem
    → match_element elem (map type (drop i xs)) ≡ match_element elem (map type (drop (i + 1) xs))
elements_next type elem xs i x lt is same =
    let rest = match_element elem (map type (drop (i + 1) xs)) in
    ap (λ (ys : List _). match_element elem (map type ys)) (drop_more xs i x lt)
    ∙ ap (λ (b : Bool). b && rest) (ap (λ (y : _). same_type (type y) elem) (sym is) ∙ sym same)
