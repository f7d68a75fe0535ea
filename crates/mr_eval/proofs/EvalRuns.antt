-- What the evaluation of each construct comes to, over a memory.
use Rattle.mr_eval.proofs.Common.{◌≡◌, ℕ, ◌+◌, ◌<◌, length, drop, get_or, List, [], ◌∷◌, Option, None, Some, pos, true, false, refl, ap, ◌∙◌, drop_more, Bool, is_some, if◌then◌else◌, slice_get, plainly, IntType, Num, Ty, out-Ty, Ty-F, Variant, BinaryOp, UnaryOp, Place, Value, FnName, GlobalName, LocalName, Pointer, TransmuteInvalid, Memory, ◌>>=◌, Broken, Done, IllFormed, Outcome, Went, on, run, on_same, run_bind, Val, bits_of_number, encoding_of, has_shape, chained, type_of_place, type_of_value, variant_type, ReadScript, Seen, reading, behind, moved, meant, searched, binary_of, cast_value, index_of_value, or_ill_formed, pointer_of_value, unary_of, Surround, as_variant, bare, discriminant_at, discriminant_layer, element_at, elements_in, loaded, offset_in, place_script, stored, transmuted, union_of, value_script, values_script, each_valued, found_number, meant_by, placed, read_typed, transmuted_to, valued}
use Rattle.mr_eval.specs.Evaluated.{at_variant, disc_at, disc_layer, in_array, in_field, load_at}
use Rattle.mr_ast.specs.declared.expr.Place.TheVariants as place
use Rattle.mr_ast.specs.declared.expr.Value.TheVariants as value
use Rattle.mr_value.specs.declared.val.Val.TheVariants as val
use Rattle.mr_eval.proofs.EvaluationLaws.{script_addr_of, script_binary, script_cast, script_deref, script_disc, script_false, script_field, script_fn, script_global, script_index, script_int, script_load, script_local, script_raw, script_transmute, script_true, script_tuple, script_unary, script_union, script_variant, script_variant_place}

module _ (m : Memory) (s : Surround) (old : Seen) where
  -- scripts that are one run to one outcome
  along : {A : Type 0} (x y : ReadScript A) → x ≡ y → run (reading m) x old ≡ run (reading m) y old
  along x y e = ap (λ (script : ReadScript _). run (reading m) script old) e

  -- a script that goes on behind another
  runs_on : {A B : Type 0} (x : ReadScript B) (y : ReadScript A) (f : A → ReadScript B) → x ≡ (y >>= f) → run (reading m) x old ≡ on (run (reading m) y old) (λ a t. run (reading m) (f a) t)
  runs_on x y f e = along x (y >>= f) e ∙ run_bind (reading m) y f old

  -- ---- places

  pub eval_local : (x : LocalName) → placed m s (place.Local x) old ≡ run (reading m) (stored (slice_get s.storage x.0)) old
  unfolding placed
  eval_local x = along _ _ (script_local s x)

  pub eval_deref : (v : Value) (t : Ty) → placed m s (place.Deref v t) old ≡ on (valued m s v old) (λ a seen. run (reading m) (pointer_of_value a) seen)
  unfolding placed valued
  eval_deref v t = runs_on _ (value_script s v) pointer_of_value (script_deref s v t)

  pub eval_field : (p : Place) (k : ℕ) → placed m s (place.Field p k) old ≡ on (placed m s p old) (λ a seen. in_field m (type_of_place s.locals p) k a seen)
  unfolding placed in_field
  eval_field p k = runs_on _ (place_script s p) (λ a. or_ill_formed (offset_in (type_of_place s.locals p) k) >>= (λ n. moved a (pos n))) (script_field s p k)

  pub eval_index : (p : Place) (i : Value) → placed m s (place.Index p i) old ≡ on (placed m s p old) (λ a seen. on (valued m s i seen) (λ v last. in_array m (type_of_place s.locals p) v a last))
  unfolding placed valued in_array
  eval_index p i =
      let last : Pointer → Val → ReadScript Pointer = λ a v. index_of_value v >>= (λ n. or_ill_formed (elements_in (type_of_place s.locals p)) >>= element_at a n) in
      runs_on _ (place_script s p) (λ a. value_script s i >>= last a) (script_index s p i)
      ∙ on_same (placed m s p old) _ _ (λ a seen. run_bind (reading m) (value_script s i) (last a) seen)

  tested_run : (b : Bool) (a : Pointer) (seen : Seen) → run (reading m) (if b then Done a else IllFormed) seen ≡ (if b then Went a seen else Broken)
  tested_run true a seen = refl
  tested_run false a seen = refl

  pub eval_variant_place : (p : Place) (n : Num) → placed m s (place.Variant p n) old ≡ on (placed m s p old) (λ a seen. at_variant (type_of_place s.locals p) n a seen)
  unfolding placed
  eval_variant_place p n =
      runs_on _ (place_script s p) (as_variant (type_of_place s.locals p) n) (script_variant_place s p n)
      ∙ on_same (placed m s p old) _ _ (tested_run (is_some (chained (type_of_place s.locals p) (λ u. variant_type u n))))

  -- a place whose type has the variant stays where it is
  pub variant_stays : (p : Place) (n : Num) (a : Pointer) (new : Seen) (t : Ty) → type_of_place s.locals p ≡ Some t → is_some (variant_type t n) ≡ true
      → placed m s p old ≡ Went a new → placed m s (place.Variant p n) old ≡ Went a new
  variant_stays p n a new t typed there went =
      eval_variant_place p n
      ∙ ap (λ (o : Outcome Pointer Seen). on o (λ b seen. at_variant (type_of_place s.locals p) n b seen)) went
      ∙ ap (λ (o : Option Ty). at_variant o n a new) typed
      ∙ ap (λ (b : Bool). if b then Went a new else Broken) there

  -- ---- values

  pub eval_int : (i : IntType) (n : Num) → valued m s (value.Int i n) old ≡ Went (val.Int (bits_of_number i n)) old
  unfolding valued
  eval_int i n = along _ _ (script_int s i n)

  pub eval_true : valued m s value.True old ≡ Went (val.Bool true) old
  unfolding valued
  eval_true = along _ _ (script_true s)

  pub eval_false : valued m s value.False old ≡ Went (val.Bool false) old
  unfolding valued
  eval_false = along _ _ (script_false s)

  pub eval_raw : (a : ℕ) → valued m s (value.Raw a) old ≡ Went (val.Ptr (bare a)) old
  unfolding valued
  eval_raw a = along _ _ (script_raw s a)

  pub eval_fn : (f : FnName) → valued m s (value.Fn f) old ≡ run (reading m) (or_ill_formed (slice_get s.functions f.0) >>= (λ p. Done (val.Ptr p))) old
  unfolding valued
  eval_fn f = along _ _ (script_fn s f)

  pub eval_global : (g : GlobalName) (k : ℕ) → valued m s (value.Global g k) old ≡ run (reading m) (or_ill_formed (slice_get s.globals g.0) >>= (λ p. Done (val.Ptr (behind p k)))) old
  unfolding valued
  eval_global g k = along _ _ (script_global s g k)

  -- a pointer that is there, and one that is not
  pub fn_there : (f : FnName) (p : Pointer) → slice_get s.functions f.0 ≡ Some p → valued m s (value.Fn f) old ≡ Went (val.Ptr p) old
  fn_there f p e = eval_fn f ∙ ap (λ (o : Option Pointer). run (reading m) (or_ill_formed o >>= (λ q. Done (val.Ptr q))) old) e

  pub fn_missing : (f : FnName) → slice_get s.functions f.0 ≡ None → valued m s (value.Fn f) old ≡ Broken
  fn_missing f e = eval_fn f ∙ ap (λ (o : Option Pointer). run (reading m) (or_ill_formed o >>= (λ q. Done (val.Ptr q))) old) e

  pub global_there : (g : GlobalName) (k : ℕ) (p : Pointer) → slice_get s.globals g.0 ≡ Some p → valued m s (value.Global g k) old ≡ Went (val.Ptr (behind p k)) old
  global_there g k p e = eval_global g k ∙ ap (λ (o : Option Pointer). run (reading m) (or_ill_formed o >>= (λ q. Done (val.Ptr (behind q k)))) old) e

  pub global_missing : (g : GlobalName) (k : ℕ) → slice_get s.globals g.0 ≡ None → valued m s (value.Global g k) old ≡ Broken
  global_missing g k e = eval_global g k ∙ ap (λ (o : Option Pointer). run (reading m) (or_ill_formed o >>= (λ q. Done (val.Ptr (behind q k)))) old) e

  pub eval_tuple : (t : Ty) (vs : List Value) → valued m s (value.Tuple t vs) old ≡ on (each_valued m s vs old) (λ xs seen. Went (val.Tuple xs) seen)
  unfolding valued each_valued
  eval_tuple t vs = runs_on _ (values_script s vs) (λ xs. Done (val.Tuple xs)) (script_tuple s t vs)

  pub eval_union : (t : Ty) (k : ℕ) (v : Value) → valued m s (value.Union t k v) old ≡ on (valued m s v old) (λ a seen. run (reading m) (union_of t k a) seen)
  unfolding valued
  eval_union t k v = runs_on _ (value_script s v) (union_of t k) (script_union s t k v)

  pub eval_variant : (t : Ty) (n : Num) (v : Value) → valued m s (value.Variant t n v) old ≡ on (valued m s v old) (λ a seen. Went (val.Variant n a) seen)
  unfolding valued
  eval_variant t n v = runs_on _ (value_script s v) (λ a. Done (val.Variant n a)) (script_variant s t n v)

  pub eval_addr_of : (t : Ty) (p : Place) → valued m s (value.AddrOf t p) old ≡ on (placed m s p old) (λ a seen. Went (val.Ptr a) seen)
  unfolding placed valued
  eval_addr_of t p = runs_on _ (place_script s p) (λ a. Done (val.Ptr a)) (script_addr_of s t p)

  pub eval_cast : (i : IntType) (v : Value) → valued m s (value.Cast i v) old ≡ on (valued m s v old) (λ a seen. run (reading m) (cast_value i (type_of_value s.locals v) a) seen)
  unfolding valued
  eval_cast i v = runs_on _ (value_script s v) (cast_value i (type_of_value s.locals v)) (script_cast s i v)

  pub eval_unary : (o : UnaryOp) (v : Value) → valued m s (value.Unary o v) old ≡ on (valued m s v old) (λ a seen. run (reading m) (unary_of o (type_of_value s.locals v) a) seen)
  unfolding valued
  eval_unary o v = runs_on _ (value_script s v) (unary_of o (type_of_value s.locals v)) (script_unary s o v)

  pub eval_binary : (o : BinaryOp) (a b : Value) → valued m s (value.Binary o a b) old ≡ on (valued m s a old) (λ x seen. on (valued m s b seen) (λ y last. run (reading m) (binary_of o (type_of_value s.locals a) (type_of_value s.locals b) x y) last))
  unfolding valued
  eval_binary o a b =
      let last : Val → Val → ReadScript Val = binary_of o (type_of_value s.locals a) (type_of_value s.locals b) in
      runs_on _ (value_script s a) (λ x. value_script s b >>= last x) (script_binary s o a b)
      ∙ on_same (valued m s a old) _ _ (λ x seen. run_bind (reading m) (value_script s b) (last x) seen)

-- ---- what reads memory behind its operand

module _ (m : Memory) where
  load_is : (t : Option Ty) (p : Pointer) (seen : Seen) → run (reading m) (loaded t p) seen ≡ load_at m t p seen
  unfolding read_typed
  load_is None p seen = refl
  load_is (Some t) p seen = refl

  layer_is : (t : Ty-F Ty Variant) (p : Pointer) (seen : Seen) → run (reading m) (discriminant_layer t p) seen ≡ disc_layer m t p seen
  unfolding found_number
  layer_is (Ty-F.Enum size align disc variants tree) p seen = run_bind (reading m) (searched tree p) (λ n. Done (val.Int (bits_of_number disc n))) seen
  layer_is (Ty-F.Int i) p seen = refl
  layer_is Ty-F.Bool p seen = refl
  layer_is Ty-F.Raw p seen = refl
  layer_is Ty-F.FnPtr p seen = refl
  layer_is (Ty-F.Ref size align never) p seen = refl
  layer_is (Ty-F.Tuple size align fields) p seen = refl
  layer_is (Ty-F.Array count elem) p seen = refl
  layer_is (Ty-F.Union size align fields chunks) p seen = refl

  disc_is : (t : Option Ty) (p : Pointer) (seen : Seen) → run (reading m) (discriminant_at t p) seen ≡ disc_at m t p seen
  disc_is None p seen = refl
  disc_is (Some t) p seen = layer_is (out-Ty t) p seen

  transmute_is : (to : Ty) (from : Option Ty) (v : Val) (seen : Seen) → run (reading m) (transmuted to from v) seen ≡ transmuted_to m to from v seen
  unfolding meant_by
  transmute_is to None v seen = refl
  transmute_is to (Some from) v seen = by_shape (has_shape from v)
    where
      by_shape : (b : Bool) → run (reading m) (if b then meant (plainly TransmuteInvalid) to (encoding_of from v) else IllFormed) seen
          ≡ (if b then run (reading m) (meant (plainly TransmuteInvalid) to (encoding_of from v)) seen else Broken)
      by_shape true = refl
      by_shape false = refl

  pub eval_load : (s : Surround) (old : Seen) (p : Place) → valued m s (value.Load p) old ≡ on (placed m s p old) (λ a seen. load_at m (type_of_place s.locals p) a seen)
  unfolding placed valued
  eval_load s old p = runs_on m s old _ (place_script s p) (loaded (type_of_place s.locals p)) (script_load s p) ∙ on_same (placed m s p old) _ _ (load_is (type_of_place s.locals p))

  pub eval_disc : (s : Surround) (old : Seen) (p : Place) → valued m s (value.Disc p) old ≡ on (placed m s p old) (λ a seen. disc_at m (type_of_place s.locals p) a seen)
  unfolding placed valued
  eval_disc s old p = runs_on m s old _ (place_script s p) (discriminant_at (type_of_place s.locals p)) (script_disc s p) ∙ on_same (placed m s p old) _ _ (disc_is (type_of_place s.locals p))

  pub eval_transmute : (s : Surround) (old : Seen) (t : Ty) (v : Value) → valued m s (value.Transmute t v) old ≡ on (valued m s v old) (λ a seen. transmuted_to m t (type_of_value s.locals v) a seen)
  unfolding valued
  eval_transmute s old t v = runs_on m s old _ (value_script s v) (transmuted t (type_of_value s.locals v)) (script_transmute s t v) ∙ on_same (valued m s v old) _ _ (transmute_is t (type_of_value s.locals v))

-- ---- rows

pub each_none : (m : Memory) (s : Surround) (old : Seen) → each_valued m s [] old ≡ Went [] old
unfolding each_valued
each_none m s old = refl

pub each_more : (m : Memory) (s : Surround) (old : Seen) (v : Value) (vs : List Value)
    → each_valued m s (v ∷ vs) old ≡ on (valued m s v old) (λ x seen. on (each_valued m s vs seen) (λ xs last. Went (x ∷ xs) last))
unfolding valued each_valued
each_more m s old v vs =
    run_bind (reading m) (value_script s v) (λ x. values_script s vs >>= (λ xs. Done (x ∷ xs))) old
    ∙ on_same (valued m s v old) _ _ (λ x seen. run_bind (reading m) (values_script s vs) (λ xs. Done (x ∷ xs)) seen)

-- the values from a position on, of which one is first
pub each_at : (m : Memory) (s : Surround) (old : Seen) (vs : List Value) (i : ℕ) (d : Value) → i < length vs
    → each_valued m s (drop i vs) old ≡ on (valued m s (get_or vs i d) old) (λ x seen. on (each_valued m s (drop (i + 1) vs) seen) (λ xs last. Went (x ∷ xs) last))
each_at m s old vs i d lt = ap (λ (row : List Value). each_valued m s row old) (drop_more vs i d lt) ∙ each_more m s old (get_or vs i d) (drop (i + 1) vs)

pub ruleset eval_laws = (eval_local, eval_deref, eval_field, eval_index, eval_variant_place, variant_stays, eval_int, eval_true, eval_false, eval_raw, fn_there, fn_missing, global_there, global_missing, eval_tuple, eval_union, eval_variant, eval_addr_of, eval_cast, eval_unary, eval_binary, eval_load, eval_disc, eval_transmute)
