-- The public calls: what stands in a function of a well-formed program is sound there, and no call comes to a state without a rule.
use Rattle.mr_eval.proofs.Common.{◌≡◌, ℕ, List, [], Option, Err, true, length, false, sym, ap, ap₂, subst, ◌∙◌, Place, Value, Local, Ty, Pointer, Reached, TypeOk, Memory, Broken, Outcome, Refused, Went, align_of, encoding_of, Bytes, has_shape, Val, broken_in_place, broken_in_value, Halt, Gives, ShapedAs, env_surround, placed, read_typed, valued, Surround, Seen, Comes, SoundPlace, SoundValue, Stands, any_result, loading}
use Rattle.std.proofs.Common.{All}
use Rattle.std.proofs.lemmas.Option.{get_or_from_slice_get, slice_get_within}
use Rattle.mr_ast.specs.Shaped.{named_in}
use Rattle.mr_ast.specs.declared.program.Function.{Function}
use Rattle.mr_typing.specs.Broken.{sizes_of}
use Rattle.mr_typing.specs.Unbroken.{UnbrokenFunction}
use Rattle.mr_typing.specs.Walk.{WellFormed}
use Rattle.mr_typing.proofs.UnbrokenLaws.{well_formed_keeps}
use Rattle.mr_eval.specs.declared.env.Env.{Env}
use Rattle.mr_eval.specs.Environment.{IsEnvOf, IsRuled, PlaceIn, ValueIn, locals_of}
use Rattle.mr_eval.specs.Stores.{stored_typed, storing}
use Rattle.mr_eval.specs.declared.halt.Halt.TheVariants as halt
use Rattle.mr_eval.proofs.SafeLaws.{loading_safe}
use Rattle.mr_eval.proofs.SafeRuns.{place_comes, safe_comes, value_comes}
use Rattle.mr_eval.proofs.ExprSafe.{value_safe}
use Rattle.mr_eval.proofs.FoundFits.{comes_to}

-- a surround with these locals
abbrev pub with_locals : Surround → List Local → Surround
with_locals s ls = record s { locals = ls }

-- a stop of a run that is never without a rule
pub ruled : {X Y S : Type 0} (view : X → Y) (h : Halt) (o : Outcome Y S) (s : S) (refused : Option Reached) (P : Y → Type 0) → Gives view (Err h) o s refused → Comes P o → IsRuled h
ruled view (halt.Undefined r) o s refused P given comes = tt
ruled view halt.IllFormed o s refused P given comes = subst (Comes P) given comes
ruled view halt.Memory o s refused P given comes = tt

module _ (e : Env) (well : WellFormed e.program.now) where
  -- the locals of the function are those of the surround, and their types break no rule
  surround_locals : (f : Function) → IsEnvOf f e → (env_surround e).locals ≡ f.locals
  surround_locals f env = ap locals_of env.function

  types_ok : (f : Function) → IsEnvOf f e → All (λ (l : Local). TypeOk l.ty) (env_surround e).locals
  types_ok f env =
      let all = (well_formed_keeps e.program.now well).functions in
      let within = slice_get_within e.program.now.functions e.function.0 f env.function in
      let whole : UnbrokenFunction e.program.now f = subst (UnbrokenFunction e.program.now) (get_or_from_slice_get e.program.now.functions e.function.0 f f env.function) (all e.function.0 f within) in
      subst (All (λ (l : Local). TypeOk l.ty)) (sym (surround_locals f env)) whole.locals

  surround_stands : (f : Function) → IsEnvOf f e → Stands (named_in e.program.now f) (env_surround e)
  surround_stands f env = record {
    locals = sym (ap length (surround_locals f env));
    storage = env.locals ∙ sym (ap length (surround_locals f env));
    functions = env.functions;
    globals = env.globals;
    types = types_ok f env;
  }

  pub env_place : (p : Place) → PlaceIn e p → SoundPlace (env_surround e) p
  env_place p h = record {
    named = named_in e.program.now h.function;
    sizes = sizes_of e.program.now.globals;
    stands = surround_stands h.function h.env;
    shaped = h.shaped;
    unbroken = subst (λ (ls : List Local). broken_in_place (record { sizes = sizes_of e.program.now.globals; locals = ls }) p ≡ []) (sym (surround_locals h.function h.env)) h.unbroken;
  }

  pub env_value : (v : Value) → ValueIn e v → SoundValue (env_surround e) v
  env_value v h = record {
    named = named_in e.program.now h.function;
    sizes = sizes_of e.program.now.globals;
    stands = surround_stands h.function h.env;
    shaped = h.shaped;
    unbroken = subst (λ (ls : List Local). broken_in_value (record { sizes = sizes_of e.program.now.globals; locals = ls }) v ≡ []) (sym (surround_locals h.function h.env)) h.unbroken;
  }

-- ---- what the calls come to

comes_also : {A S : Type 0} (P Q : A → Type 0) → ((x : A) → P x → Q x) → (o : Outcome A S) → Comes P o → Comes Q o
comes_also P Q f (Went x s) h = f x h
comes_also P Q f (Refused r) h = tt
comes_also P Q f Broken h = h

pub place_ruled : (m : Memory) (s : Surround) (p : Place) (old : Seen) → SoundPlace s p → Comes any_result (placed m s p old)
place_ruled m s p old h = place_comes h.named h.sizes s h.stands m old p h.shaped h.unbroken

pub value_ruled : (m : Memory) (s : Surround) (v : Value) (old : Seen) → SoundValue s v → Comes (ShapedAs s v) (valued m s v old)
value_ruled m s v old h =
    let is = value_safe h.named h.sizes s h.stands v h.shaped h.unbroken in
    comes_also (λ x. has_shape is.ty x ≡ true) (ShapedAs s v) (λ x k. record { ty = is.ty; is = is.is; shape = k }) (valued m s v old)
    (value_comes h.named h.sizes s h.stands m old v h.shaped h.unbroken)

pub load_ruled : (m : Memory) (t : Ty) (p : Pointer) (old : Seen) → TypeOk t → Comes (λ v. has_shape t v ≡ true) (read_typed m t p old)
unfolding read_typed
load_ruled m t p old ok = safe_comes (λ v. has_shape t v ≡ true) m (loading t p) (loading_safe t p ok) old

pub value_shaped : (m : Memory) (s : Surround) (v : Value) (x : Val) (old new : Seen) → SoundValue s v → valued m s v old ≡ Went x new → ShapedAs s v x
value_shaped m s v x old new h went = comes_to (ShapedAs s v) _ x new went (value_ruled m s v old h)

-- the store of the bytes of a value
pub store_run : (m : Memory) (t : Ty) (p : Pointer) (v : Val) (seen : Seen) (bytes : Bytes) (align : ℕ) → bytes ≡ encoding_of t v → align ≡ align_of t
    → stored_typed m t p v seen ≡ storing m false p bytes align seen
unfolding stored_typed
store_run m t p v seen bytes align written aligned = sym (ap₂ (λ (b : Bytes) (a : ℕ). storing m false p b a seen) written aligned)
