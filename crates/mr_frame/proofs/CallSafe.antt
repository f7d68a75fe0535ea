-- A call in a frame of a well-formed program is never ill-formed, and the frames fit again behind it; so does a function's first frame.
use Rattle.mr_frame.proofs.Common.{◌≡◌, ℕ, suc, ◌+◌, ◌<◌, refl, sym, ap, ◌∙◌, subst, arith, List, [], ◌∷◌, length, Bool, true, false, Option, Some, None, map, length-replicate, same_Some, slice_get, ◌&&◌, if◌then◌else◌, replicate, option_map, flat_map, list_all, and_parts, plainly, is_optional_block, is_shaped_term, named_in, Named, is_shaped_place, is_shaped_value, Place, Value, BlockName, Function, Local, LocalName, Program, Ty, Pointer, SignatureMismatch, Val, out-Val, broken_in_parts, broken_in_value, sizes_of, surroundings, is_fn_ptr, same_type, type_of_place, type_of_value, WellFormed, begins_regular, fn_ptr_is, both_nothing, typed_call, Done, Undefined, IllFormed, ◌>>=◌, Surround, place_script, value_script, values_script, pointer_in, pointer_of_value, IsSafe, Stands, any_result, around, place_safe, value_safe, Shaped, safe_found, safe_then, HaveShapes, CreatesNothing, IsSafeChange, change_then, store, all_there, allocate_each, behind_first, both_there, call, call_function, call_number, call_plan, callee_of, calling, enter, enter_at, enter_with, first_frame, given_types, kept_types, local_type, position_from, same_pointer, same_types, storage_asks, store_each, AreCalling, FitsFrame, FitsOnward, IsCalling, IsLook, IsSafePlan, Frame, GoesOn, Look, Stack, scene_in, Site, kept_locals, item_there, all_at}
use Rattle.mr_value.specs.declared.val.Val.TheOpen.{Val-F}
use Rattle.mr_value.proofs.ShapeLaws.{shape_fn_ptr}
use Rattle.mr_typing.proofs.ExprWalk.{Judges}
use Rattle.mr_typing.proofs.SameTypeLaws.{same_type_equal}
use Rattle.mr_ast.specs.declared.program.Term.TheVariants as term
use Rattle.mr_value.specs.declared.val.Val.TheVariants as val
use Rattle.mr_frame.proofs.ChangesSafe.{store_safe}
use Rattle.mr_frame.proofs.Frames.{Keeps, function_keeps, here, stands}
use Rattle.mr_frame.proofs.Places.{AllWithin, each_has, length-with_each}

-- ---- values in a row

pub heads : {A : Type 0} {x y : A} {xs ys : List A} → x ∷ xs ≡ y ∷ ys → x ≡ y
heads h = cc

pub tails : {A : Type 0} {x y : A} {xs ys : List A} → x ∷ xs ≡ y ∷ ys → xs ≡ ys
tails h = cc

module _ (named : Named) (sizes : List ℕ) (s : Surround) (stand : Stands named s) where
  pub row_safe : (vs : List Value) (types : List Ty) → Judges (around sizes s) vs types → list_all (is_shaped_value named) vs ≡ true → flat_map (broken_in_value (around sizes s)) vs ≡ []
      → IsSafe (HaveShapes types) (values_script s vs)
  row_safe [] [] are shaped none = tt
  row_safe [] (t ∷ types) are shaped none = absurd (cc)
  row_safe (v ∷ vs) [] are shaped none = absurd (cc)
  row_safe (v ∷ vs) (t ∷ types) are shaped none =
      let first = and_parts (is_shaped_value named v) (list_all (is_shaped_value named) vs) shaped in
      let rules = both_nothing (broken_in_value (around sizes s) v) (flat_map (broken_in_value (around sizes s)) vs) none in
      let is = value_safe named sizes s stand v first.0 rules.0 in
      let same : is.ty ≡ t = same_Some is.ty t (sym is.is ∙ heads are) in
      safe_then (Shaped is.ty) (HaveShapes (t ∷ types)) (value_script s v) _ is.safe
      (λ x h. safe_then (HaveShapes types) (HaveShapes (t ∷ types)) (values_script s vs) _ (row_safe vs types (tails are) first.1 rules.1)
      (λ xs hs. (subst (λ (u : Ty). Shaped u x) same h, hs)))

-- a pointer to a function
fn_ptr_layer : (t : Ty) (v : Val) → is_fn_ptr t ≡ true → Shaped t v → (a : Pointer) × (out-Val v ≡ Val-F.Ptr a)
fn_ptr_layer t v e shape =
    let is = shape_fn_ptr v (subst (λ (u : Ty). Shaped u v) (fn_ptr_is t e) shape) in
    (is.pointer, ap out-Val is.is ∙ val.outs-Ptr is.pointer)

-- ---- types that are there

pub judged_there : {A : Type 0} (os : List (Option A)) (xs : List A) → os ≡ map (λ x. Some x) xs → all_there os ≡ Some xs
judged_there os xs e = ap all_there e ∙ all_some xs
  where
    all_some : {A : Type 0} (ys : List A) → all_there (map (λ y. Some y) ys) ≡ Some ys
    all_some [] = refl
    all_some (y ∷ ys) = ap (λ o. option_map (λ e. e.0 ∷ e.1) (both_there (Some y) o)) (all_some ys)

-- the types of locals that are within
pub types_there : (fn : Function) (xs : List LocalName) → AllWithin (length fn.locals) xs → (types : List Ty) × (all_there (map (local_type fn) xs) ≡ Some types) × (length types ≡ length xs)
types_there fn [] all = ([], refl, refl)
types_there fn (x ∷ xs) all =
    let l = item_there fn.locals x.0 all.0 in
    let rest = types_there fn xs all.1 in
    let here : local_type fn x ≡ Some l.0.ty = ap (λ o. option_map (λ (k : Local). k.ty) o) l.1 in
    (l.0.ty ∷ rest.0, (λ i. option_map (λ e. e.0 ∷ e.1) (both_there (here i) (rest.1 i))), ap suc rest.2)

pub equal_types : (ts us : List Ty) → same_types ts us ≡ true → ts ≡ us
equal_types [] [] e = refl
equal_types [] (u ∷ us) e = absurd (cc)
equal_types (t ∷ ts) [] e = absurd (cc)
equal_types (t ∷ ts) (u ∷ us) e =
    let parts = and_parts (same_type t u) (same_types ts us) e in
    λ i. same_type_equal t u parts.0 i ∷ equal_types ts us parts.1 i

-- ---- the storage of a new frame

allocates : (types : List Ty) (picks : List ℕ) → length picks ≡ length (storage_asks types) → IsSafeChange (λ ps. length ps ≡ length types) (allocate_each types picks)
allocates [] [] e = refl
allocates [] (a ∷ picks) e = absurd (omega arith)
allocates (t ∷ ts) [] e = absurd (omega arith)
allocates (t ∷ ts) (a ∷ picks) e =
    λ q good. change_then (λ ps. length ps ≡ length ts) (λ ps. length ps ≡ suc (length ts)) (allocate_each ts picks) (λ ps. Done (q ∷ ps)) (allocates ts picks (omega arith)) (λ ps h. ap suc h)

-- ---- the start of a function

stores : (ts : List Ty) (ps : List Pointer) (vs : List Val) → length ps ≡ length ts → HaveShapes ts vs → IsSafeChange any_result (store_each ts ps vs)
stores [] [] [] e h = tt
stores [] [] (v ∷ vs) e h = absurd h
stores [] (p ∷ ps) vs e h = absurd (omega arith)
stores (t ∷ ts) [] vs e h = absurd (omega arith)
stores (t ∷ ts) (p ∷ ps) [] e h = absurd h
stores (t ∷ ts) (p ∷ ps) (v ∷ vs) e h =
    change_then any_result any_result (store t p v) (λ _. store_each ts ps vs) (store_safe t p v h.0) (λ u k. stores ts ps vs (omega arith) h.1)

-- ---- the start of a function

rest_lengths : {A B : Type 0} (xs : List A) (ys : List B) → length xs ≡ length ys → length (behind_first xs) ≡ length (behind_first ys)
rest_lengths [] [] e = refl
rest_lengths [] (y ∷ ys) e = absurd (omega arith)
rest_lengths (x ∷ xs) [] e = absurd (omega arith)
rest_lengths (x ∷ xs) (y ∷ ys) e = omega arith

pub all_within : (n : ℕ) (xs : List LocalName) → ((i : ℕ) (x : LocalName) → slice_get xs i ≡ Some x → x.0 < n) → AllWithin n xs
all_within n [] h = tt
all_within n (x ∷ xs) h = (h 0 x refl, all_within n xs (λ i y e. h (suc i) y e))

-- the types of the locals that are kept
pub record KeptTypes (fn : Function) : Type 0 where
  pub ret : Ty
  pub args : List Ty
  pub ret_is : local_type fn fn.ret ≡ Some ret
  pub is : kept_types fn ≡ Some (ret ∷ args)
  pub many : length args ≡ length fn.args

module _ (p : Program) (fn : Function) (kept : Keeps p fn) where
  pub args_within : AllWithin (length fn.locals) fn.args
  args_within = all_within (length fn.locals) fn.args (λ i x e. all_at (λ (y : LocalName). y.0 < length fn.locals) fn.args i x kept.shaped.args e)

  pub kept_there : KeptTypes fn
  kept_there =
      let l = item_there fn.locals fn.ret.0 kept.shaped.ret in
      let rest = types_there fn fn.args args_within in
      let here : local_type fn fn.ret ≡ Some l.0.ty = ap (λ o. option_map (λ (k : Local). k.ty) o) l.1 in
      record {
        ret = l.0.ty;
        args = rest.0;
        ret_is = here;
        is = λ i. option_map (λ e. e.0 ∷ e.1) (both_there (here i) (rest.1 i));
        many = rest.2;
      }

  -- the first frame of the function of this number
  pub record IsFirst (new : Frame) : Type 0 where
    pub fits : FitsFrame p new
    pub same : fits.function ≡ fn
    pub bare : new.call ≡ None

  module _ (number : ℕ) (is : slice_get p.functions number ≡ Some fn) (ps : List Pointer) (many : length ps ≡ length (kept_locals fn)) where
    abbrev pub first_fits : FitsFrame p (first_frame number fn ps)
    first_fits =
        let none : Option Pointer = None in
        let sized : length (replicate (length fn.locals) none) ≡ length fn.locals = length-replicate (length fn.locals) none in
        let block = item_there fn.blocks 0 kept.shaped.has_start in
        record {
          function = fn;
          is = is;
          locals = length-with_each (kept_locals fn) (replicate (length fn.locals) None) ps ∙ sized;
          kept = each_has (kept_locals fn) (replicate (length fn.locals) None) ps (sym many) (subst (λ n. AllWithin n (kept_locals fn)) (sym sized) (kept.shaped.ret, args_within));
          block = block.0;
          here = block.1;
          at = omega arith;
        }

  pub enter_safe : (number : ℕ) → slice_get p.functions number ≡ Some fn → (vs : List Val) (picks : List ℕ) (ts : List Ty) → kept_types fn ≡ Some ts → length picks ≡ length (storage_asks ts) → HaveShapes (behind_first ts) vs
      → IsSafeChange IsFirst (enter number (Some fn) vs picks)
  enter_safe number is vs picks ts typed e shapes =
      let k = kept_there in
      let same : ts ≡ k.ret ∷ k.args = same_Some ts (k.ret ∷ k.args) (sym typed ∙ k.is) in
      subst (λ (w : Option (List Ty)). IsSafeChange IsFirst (enter_at number fn w vs picks)) (sym typed)
      (by_test (begins_regular fn.blocks) kept.unbroken.first
      (change_then (λ ps. length ps ≡ length ts) IsFirst (allocate_each ts picks) _ (allocates ts picks e)
      (λ ps many. change_then any_result IsFirst (store_each (behind_first ts) (behind_first ps) vs) _ (stores (behind_first ts) (behind_first ps) vs (rest_lengths ps ts many) shapes)
      (λ u h. record { fits = first_fits number is ps (many ∙ ap length same ∙ ap suc k.many); same = refl; bare = refl }))))
    where
      by_test : (b : Bool) → b ≡ true → IsSafeChange IsFirst (enter_with number fn ts vs picks) → IsSafeChange IsFirst (if b then enter_with number fn ts vs picks else IllFormed)
      by_test true h k = k
      by_test false h k = absurd (cc)

-- ---- call

pub position_below : (i : ℕ) (qs : List Pointer) (a : Pointer) (n : ℕ) → position_from i qs a ≡ Some n → n < i + length qs
position_below i [] a n h = absurd (cc)
position_below i (q ∷ qs) a n h = by_test (same_pointer q a) (λ e. position_below (suc i) qs a n e) h
  where
    by_test : (b : Bool) → (position_from (suc i) qs a ≡ Some n → n < suc i + length qs) → (if b then Some i else position_from (suc i) qs a) ≡ Some n → n < i + suc (length qs)
    by_test true later e = let same : i ≡ n = same_Some i n e in omega arith
    by_test false later e = let k = later e in omega arith

module _ (look : Look) (is : IsLook look) (well : WellFormed look.program) (s : Stack) (f : Frame) (below : List Frame) (fits : FitsFrame look.program f) (under : AreCalling look.program (local_type fits.function fits.function.ret) below) where
  abbrev p : Program
  p = look.program

  abbrev fn : Function
  fn = fits.function

  abbrev site : Site
  site = here look is well f below fits

  abbrev scene : Surround
  scene = scene_in look fn f

  module _ (callee : Value) (args : List Value) (place : Place) (next unwind : Option BlockName) (end : f.at ≡ length fits.block.stmts) (due : fits.block.term ≡ term.Call callee args place next unwind) where
    -- the caller keeps the place for the result
    abbrev pub kept_caller : (q : Pointer) (result : Option Ty) → type_of_place fn.locals place ≡ result → IsCalling p result (record f { call = Some q })
    kept_caller q result typed = record {
      fits = record { function = fn; is = fits.is; locals = fits.locals; kept = fits.kept; block = fits.block; here = fits.here; at = fits.at };
      end = end;
      callee = callee;
      args = args;
      place = place;
      next = next;
      unwind = unwind;
      term = due;
      typed = typed;
      kept_place = q;
      keeps = refl;
    }

    onward_call : (q : Pointer) (called : Function) (kept : Keeps p called) (new : Frame) → IsFirst p called kept new → type_of_place fn.locals place ≡ local_type called called.ret → FitsOnward p (GoesOn (calling s site q new))
    onward_call q called kept new first typed =
        let same : local_type called called.ret ≡ local_type first.fits.function first.fits.function.ret = ap (λ (g : Function). local_type g g.ret) (sym first.same) in
        (first.fits, first.bare, (kept_caller q (local_type first.fits.function first.fits.function.ret) (typed ∙ same), under))

    module _ (q : Pointer) (vs : List Val) (t : Ty) (types : List Ty) (given : given_types scene place args ≡ Some (t ∷ types)) (typed : type_of_place fn.locals place ≡ Some t) (shapes : HaveShapes types vs) where
      planned_safe : (number : ℕ) (called : Function) → slice_get p.functions number ≡ Some called → IsSafe (IsSafePlan p) (call_function look s site (given_types scene place args) q vs number (Some called))
      planned_safe number called there =
          let kept = function_keeps p well number called there in
          let k = kept_there p called kept in
          subst (λ (w : Option (List Ty) × Option (List Ty)). IsSafe (IsSafePlan p) (call_plan s site q number called vs (both_there w.0 w.1))) (sym (λ i. (given i, k.is i)))
          (by_test k kept (same_types (t ∷ types) (k.ret ∷ k.args)) refl)
        where
          goes : (k : KeptTypes called) (kept : Keeps p called) → same_types (t ∷ types) (k.ret ∷ k.args) ≡ true → (picks : List ℕ) → length picks ≡ length (storage_asks (k.ret ∷ k.args))
              → IsSafeChange (FitsOnward p) (enter number (Some called) vs picks >>= λ new. Done (GoesOn (calling s site q new)))
          goes k kept same picks e =
              let equal : t ∷ types ≡ k.ret ∷ k.args = equal_types (t ∷ types) (k.ret ∷ k.args) same in
              change_then (IsFirst p called kept) (FitsOnward p) (enter number (Some called) vs picks) _
              (enter_safe p called kept number there vs picks (k.ret ∷ k.args) k.is e (subst (λ ts. HaveShapes ts vs) (tails equal) shapes))
              (λ new first. onward_call q called kept new first (typed ∙ ap (λ u. Some u) (heads equal) ∙ sym k.ret_is))

          by_test : (k : KeptTypes called) (kept : Keeps p called) (b : Bool) → same_types (t ∷ types) (k.ret ∷ k.args) ≡ b
              → IsSafe (IsSafePlan p) (if b then Done (record { creates = CreatesNothing; asks = storage_asks (k.ret ∷ k.args); go = λ picks. enter number (Some called) vs picks >>= λ new. Done (GoesOn (calling s site q new)) }) else Undefined (plainly SignatureMismatch))
          by_test k kept true same = λ picks e. goes k kept same picks e
          by_test k kept false same = tt

      numbered_safe : (o : Option ℕ) → ((n : ℕ) → o ≡ Some n → n < length p.functions) → IsSafe (IsSafePlan p) (call_number look s site (given_types scene place args) q vs o)
      numbered_safe None h = tt
      numbered_safe (Some number) h =
          let there = item_there p.functions number (h number refl) in
          subst (λ (w : Option Function). IsSafe (IsSafePlan p) (call_function look s site (given_types scene place args) q vs number w)) (sym there.1) (planned_safe number there.0 there.1)

    callee_below : (c : Pointer) (n : ℕ) → callee_of look.functions c ≡ Some n → n < length p.functions
    unfolding callee_of
    callee_below c n e = let k = position_below 0 look.functions c n e in let many = is.functions in omega arith

    pub call_safe : is_shaped_term (named_in p fn) (term.Call callee args place next unwind) ≡ true → broken_in_parts (surroundings p fn) (term.Call callee args place next unwind) ≡ []
        → IsSafe (IsSafePlan p) (call look s site callee args place)
    call_safe shaped none =
        let named = named_in p fn in
        let stand = stands look is well f below fits in
        let typed = typed_call named fn (surroundings p fn) refl callee args place next unwind shaped none in
        let blocks = is_optional_block named next && is_optional_block named unwind in
        let first = and_parts (is_shaped_value named callee) (list_all (is_shaped_value named) args && (is_shaped_place named place && blocks)) shaped in
        let row = and_parts (list_all (is_shaped_value named) args) (is_shaped_place named place && blocks) first.1 in
        let last = and_parts (is_shaped_place named place) blocks row.1 in
        let at_place = place_safe named (sizes_of p.globals) scene stand place last.0 typed.2.unbroken in
        let called = value_safe named (sizes_of p.globals) scene stand callee first.0 typed.0.unbroken in
        let fn_ptr : is_fn_ptr called.ty ≡ true = subst (λ (t : Ty). is_fn_ptr t ≡ true) (same_Some typed.0.ty called.ty (sym typed.0.is ∙ called.is)) typed.0.fits in
        let given : given_types scene place args ≡ Some (typed.2.ty ∷ typed.1.types) =
        λ i. option_map (λ e. e.0 ∷ e.1) (both_there (typed.2.is i) (judged_there (map (type_of_value fn.locals) args) typed.1.types typed.1.are i)) in
        safe_then any_result (IsSafePlan p) (place_script scene place) _ at_place.safe
        (λ q u. safe_then (Shaped called.ty) (IsSafePlan p) (value_script scene callee) _ called.safe
        (λ x shape. let c = fn_ptr_layer called.ty x fn_ptr shape in
        safe_then any_result (IsSafePlan p) (pointer_of_value x) _ (safe_found any_result (pointer_in (out-Val x)) c.0 (ap pointer_in c.1) tt)
        (λ a w. safe_then (HaveShapes typed.1.types) (IsSafePlan p) (values_script scene args) _ (row_safe named (sizes_of p.globals) scene stand args typed.1.types typed.1.are row.0 typed.1.unbroken)
        (λ vs shapes. numbered_safe q vs typed.2.ty typed.1.types given typed.2.is shapes (callee_of look.functions a) (λ n e. callee_below a n e)))))
