-- An intrinsic that is due: what it is given, and how it ends, part by part.
use Rattle.mr_frame.proofs.Common.{◌≡◌, ℕ, ◌+◌, ◌<◌, ◌≤◌, refl, sym, ap, ◌∙◌, subst, true, List, [], ◌∷◌, ◌++◌, length, map, drop, get_or, Option, None, Some, add-one, append-nil, append_assoc, drop-cons, drop_all, All-cons, All-head, All-nil, All-tail, same_Some, flat_map, list_all, option_map, All, ◌&&◌, and_parts, Stop, is_block, is_optional_place, named_in, is_shaped_value, Place, Value, BlockName, Function, Intrinsic, Ty, Pointer, Memory, Val, broken_in_result, broken_in_value, surroundings, type_of_place, type_of_value, both_nothing, typed_do, Done, Outcome, Refused, Went, ◌>>=◌, on, run, run_bind, env_surround, each_valued, placed, Surround, place_script, values_script, or_ill_formed, ReadScript, Seen, reading, World, Env, arg_types, all_there, both_there, PlainIn, ResultIn, given_operands, is_plain, result_stored, finished, stored_in, Look, Stack, at_block, scene_in, with_top, InProgram, TermIn, DueDo, Operands, done_stack, result_place, result_type, store_result, Site}
use Rattle.mr_typing.proofs.ExprWalk.{Judges}
use Rattle.mr_typing.proofs.StmtWalk.{Gives}
use Rattle.mr_frame.specs.Doing.{result_placed, result_typed, with_types}
use Rattle.mr_frame.specs.Effects.{argued}
use Rattle.mr_ast.specs.declared.program.Term.TheVariants as term
use Rattle.mr_frame.proofs.ActedLaws.{memory_bind, on_same}
use Rattle.mr_frame.proofs.CallSafe.{heads, tails}
use Rattle.mr_frame.proofs.InsideLaws.{scene_locals, type_there}
use Rattle.mr_frame.proofs.PlainLaws.{AllPlain, PlainResult, plain_intrinsic}
use Rattle.mr_frame.proofs.TypeRows.{first_there, none_there}

-- ---- what stands in it

module _ (e : Env) (f : Function) (h : InProgram f e) where
  -- the arguments are of plain types
  plain_args : (args : List Value) (types : List Ty) → Judges (surroundings e.program.now f) args types → AllPlain types → list_all (is_shaped_value (named_in e.program.now f)) args ≡ true
      → flat_map (broken_in_value (surroundings e.program.now f)) args ≡ [] → All (PlainIn e) args
  plain_args [] types are plain shaped none = All-nil (PlainIn e)
  plain_args (v ∷ args) [] are plain shaped none = absurd (cc)
  plain_args (v ∷ args) (t ∷ types) are plain shaped none =
      let named = named_in e.program.now f in
      let first = and_parts (is_shaped_value named v) (list_all (is_shaped_value named) args) shaped in
      let rules = both_nothing (broken_in_value (surroundings e.program.now f) v) (flat_map (broken_in_value (surroundings e.program.now f)) args) none in
      All-cons (PlainIn e) v args
      (record {
        typed = record {
          inside = record { function = f; env = h.env; shaped = first.0; unbroken = rules.0 };
          ty = t;
          is = ap (λ ls. type_of_value ls v) (scene_locals e f h) ∙ heads are;
        };
        plain = plain.0;
      })
      (plain_args args types (tails are) plain.1 first.1 rules.1)

  plain_place : (place : Option Place) (result : Option Ty) → Gives (surroundings e.program.now f) place result → PlainResult result → is_optional_place (named_in e.program.now f) place ≡ true
      → broken_in_result (surroundings e.program.now f) place ≡ [] → ResultIn e place
  plain_place None result gives plain shaped none = tt
  plain_place (Some p) result gives plain shaped none =
      let there = type_there e f h p shaped none in
      let same : gives.0 ≡ there.0 = same_Some gives.0 there.0 (sym gives.2 ∙ sym (ap (λ ls. type_of_place ls p) (scene_locals e f h)) ∙ there.1.is) in
      record {
        inside = record { function = f; env = h.env; shaped = shaped; unbroken = none };
        ty = there.0;
        typed = there.1;
        plain = subst (λ (t : Ty). is_plain t ≡ true) same (subst PlainResult gives.1 plain);
      }

module _ (e : Env) (op : Intrinsic) (args : List Value) (place : Option Place) (next : BlockName) (h : TermIn e (term.Do op args place next)) where
  pub do_operands : All (PlainIn e) args × ResultIn e place
  do_operands =
      let f = h.function in
      let named = named_in e.program.now f in
      let row = and_parts (list_all (is_shaped_value named) args) (is_optional_place named place && is_block named next) h.shaped in
      let last = and_parts (is_optional_place named place) (is_block named next) row.1 in
      let typed = typed_do named f (surroundings e.program.now f) refl op args place next h.shaped h.unbroken in
      let plain = plain_intrinsic op typed.types typed.result typed.fits in
      (plain_args e f h.inside args typed.types typed.are plain.0 row.0 typed.unbroken_args, plain_place e f h.inside place typed.result typed.gives plain.1 last.0 typed.unbroken_place)

-- ---- types of arguments, one after another

pub record Typing (s : Surround) (args all_args : List Value) (done : List Ty) : Type 0 where
  pub types : List Ty
  pub are : arg_types s args ≡ Some types
  pub so_far : arg_types s all_args ≡ Some (done ++ types)

plain_known : (e : Env) (args : List Value) → All (PlainIn e) args → (types : List Ty) × (arg_types (env_surround e) args ≡ Some types)
plain_known e [] h = ([], refl)
plain_known e (v ∷ args) h =
    let here = All-head (PlainIn e) v args h in
    let rest = plain_known e args (All-tail (PlainIn e) v args h) in
    (here.typed.ty ∷ rest.0, λ i. option_map (λ e. e.0 ∷ e.1) (both_there (here.typed.is i) (rest.1 i)))

pub typing_first : (e : Env) (args : List Value) → All (PlainIn e) args → Typing (env_surround e) args args []
typing_first e args h = let known = plain_known e args h in record { types = known.0; are = known.1; so_far = known.1 }

pub typing_next : (s : Surround) (v : Value) (args all_args : List Value) (done after : List Ty) (t : Ty) → Typing s (v ∷ args) all_args done → type_of_value s.locals v ≡ Some t → after ≡ done ++ t ∷ [] → Typing s args all_args after
typing_next s v args all_args done after t h typed joins =
    let f = first_there (type_of_value s.locals v) (map (type_of_value s.locals) args) h.types h.are in
    let same : f.first ≡ t = same_Some f.first t (sym f.here ∙ typed) in
    record {
      types = f.rest;
      are = f.behind;
      so_far =
          h.so_far
          ∙ ap (λ (ts : List Ty). Some (done ++ ts)) (f.is ∙ ap (λ (u : Ty). u ∷ f.rest) same)
          ∙ sym (ap (λ (ts : List Ty). Some ts) (append_assoc done (t ∷ []) f.rest))
          ∙ ap (λ (ts : List Ty). Some (ts ++ f.rest)) (sym joins);
    }

module _ (s : Surround) (args : List Value) (k : ℕ) (done : List Ty) where
  pub typing_cut : (v : Value) → k < length args → v ≡ get_or args k v → Typing s (drop k args) args done → Typing s (v ∷ drop (k + 1) args) args done
  typing_cut v lt is h =
      subst (λ (vs : List Value). Typing s vs args done) (drop-cons args k v lt ∙ (λ i. sym is i ∷ drop (sym (add-one k) i) args)) h

  pub typing_end : length args ≤ k → Typing s (drop k args) args done → arg_types s args ≡ Some done
  typing_end le h =
      let last = subst (λ (vs : List Value). Typing s vs args done) (drop_all k args le) h in
      last.so_far ∙ ap (λ (ts : List Ty). Some (done ++ ts)) (none_there last.types last.are) ∙ ap (λ (ts : List Ty). Some ts) (append-nil done)

-- ---- what it comes to

-- the place for the result
placed_run : (m : Memory) (s : Surround) (place : Option Place) (seen : Seen) → run (reading m) (result_place s place) seen ≡ result_placed m s place seen
unfolding placed
placed_run m s None seen = refl
placed_run m s (Some p) seen = run_bind (reading m) (place_script s p) (λ q. Done (Some q)) seen

module _ (m : Memory) (s : Surround) (p : Option Pointer) (vs : List Val) (seen : Seen) where
  abbrev Last : Option Ty → Option (List Ty) → ReadScript Operands
  Last t ts = or_ill_formed ts >>= λ us. Done (record { result = p; result_type = t; args = vs; arg_types = us })

  last_run : (t : Option Ty) (ts : Option (List Ty)) → run (reading m) (Last t ts) seen ≡ with_types p vs (Some t) ts seen
  last_run t None = refl
  last_run t (Some us) = refl

  typed_run : (place : Option Place) (ts : Option (List Ty)) → run (reading m) (result_type s place >>= λ t. Last t ts) seen ≡ with_types p vs (result_typed s place) ts seen
  typed_run None ts = last_run None ts
  typed_run (Some q) ts = by_type (type_of_place s.locals q)
    where
      some_typed : Option Ty → Option (Option Ty)
      some_typed None = None
      some_typed (Some t) = Some (Some t)

      by_type : (o : Option Ty) → run (reading m) ((or_ill_formed o >>= λ t. Done (Some t)) >>= λ t. Last t ts) seen ≡ with_types p vs (some_typed o) ts seen
      by_type None = refl
      by_type (Some t) = last_run (Some t) ts

module _ (m : Memory) (s : Surround) (args : List Value) (place : Option Place) (seen : Seen) where
  pub given_is : given_operands m s args place seen ≡ on (result_placed m s place seen) (λ p s1. on (each_valued m s args s1) (λ vs s2. with_types p vs (result_typed s place) (arg_types s args) s2))
  unfolding given_operands
  given_is = refl

  pub given_known : (p : Option Pointer) (s1 : Seen) (vs : List Val) (s2 : Seen) → result_placed m s place seen ≡ Went p s1 → each_valued m s args s1 ≡ Went vs s2
      → given_operands m s args place seen ≡ with_types p vs (result_typed s place) (arg_types s args) s2
  given_known p s1 vs s2 at row =
      given_is
      ∙ ap (λ (o : Outcome (Option Pointer) Seen). on o (λ q l. on (each_valued m s args l) (λ xs last. with_types q xs (result_typed s place) (arg_types s args) last))) at
      ∙ ap (λ (o : Outcome (List Val) Seen). on o (λ xs last. with_types p xs (result_typed s place) (arg_types s args) last)) row

pub ruleset operand_laws = (given_is)

-- WHAT AN INTRINSIC IS GIVEN, by its parts
pub argued_is : (m : Memory) (look : Look) (d : DueDo) (seen : Seen) → argued m look d seen ≡ given_operands m (scene_in look d.site.function d.site.frame) d.args d.place seen
unfolding argued given_operands each_valued
argued_is m look d seen =
    let s = scene_in look d.site.function d.site.frame in
    run_bind (reading m) (result_place s d.place) _ seen
    ∙ ap (λ (o : Outcome (Option Pointer) Seen). on o (λ p s1. run (reading m) (values_script s d.args >>= λ vs. result_type s d.place >>= λ t. or_ill_formed (all_there (map (type_of_value s.locals) d.args)) >>= λ ts. Done (record { result = p; result_type = t; args = vs; arg_types = ts })) s1)) (placed_run m s d.place seen)
    ∙ on_same (result_placed m s d.place seen) _ _
    (λ p s1. run_bind (reading m) (values_script s d.args) _ s1
    ∙ on_same (run (reading m) (values_script s d.args) s1) _ _ (λ vs s2. typed_run m s p vs s2 d.place (all_there (map (type_of_value s.locals) d.args))))

-- ---- how it ends

pub stored_some : (p : Pointer) (t : Ty) (v : Val) (w : World) → result_stored (Some p) (Some t) (Some v) w ≡ stored_in t p v w
unfolding result_stored stored_in
stored_some p t v w = refl

pub stored_none : (w : World) → result_stored None None None w ≡ Went tt w
unfolding result_stored
stored_none w = refl

pub finished_is : (s : Stack) (d : DueDo) (o : Operands) (v : Option Val) (w : World) → finished s d o v w ≡ on (result_stored o.result o.result_type v w) (λ _ u. Went (done_stack s d) u)
unfolding finished result_stored
finished_is s d o v w = memory_bind (store_result o.result o.result_type v) (λ _. Done (done_stack s d)) w

pub finished_stop : (s : Stack) (d : DueDo) (o : Operands) (v : Option Val) (w : World) (r : Stop) → result_stored o.result o.result_type v w ≡ Refused r → finished s d o v w ≡ Refused r
finished_stop s d o v w r e = finished_is s d o v w ∙ ap (λ (x : Outcome (Unit {0}) World). on x (λ _ u. Went (done_stack s d) u)) e

pub finished_went : (s : Stack) (d : DueDo) (o : Operands) (v : Option Val) (w u : World) → result_stored o.result o.result_type v w ≡ Went tt u → finished s d o v w ≡ Went (done_stack s d) u
finished_went s d o v w u e = finished_is s d o v w ∙ ap (λ (x : Outcome (Unit {0}) World). on x (λ _ u. Went (done_stack s d) u)) e

-- the stack behind it, by where it stands
pub done_is : (s : Stack) (d : DueDo) (at : Site) → d.site ≡ at → done_stack s d ≡ with_top s at.below (at_block at.frame d.next.0)
done_is s d at e = λ i. with_top s ((e i).below) (at_block ((e i).frame) d.next.0)
