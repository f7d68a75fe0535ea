-- What stands in a function of a well-formed program: its places have types that break no rule, and its values have the shapes that are needed.
use Rattle.mr_frame.proofs.Common.{◌≡◌, ℕ, Bool, true, false, List, [], ◌∷◌, Some, refl, sym, ap, ◌∙◌, subst, is_some, same_Some, and_parts, named_in, is_shaped_num, is_shaped_place, is_shaped_value, Num, Tag, Ty, out-Ty, Ty-F, Variant, Place, Value, Function, are_tags, same_num, TypeOk, Val, has_shape, broken_in_place, sizes_of, surroundings, tags_among, tags_layer, type_of_place, type_of_value, variant_type, typed_assign, typed_disc_stmt, ShapedAs, env_surround, Surround, Stands, Env, place_safe, tags_in, InProgram, StmtIn, all_at}
use Rattle.mr_ast.specs.declared.types.Ty.{roll-Ty}
use Rattle.mr_layout.specs.EnumRules.{are_all_tags}
use Rattle.mr_layout.proofs.WellFormed.{enum_ok}
use Rattle.mr_typing.specs.Unbroken.{UnbrokenFunction}
use Rattle.mr_ast.proofs.TypeInduction.{type_made}
use Rattle.mr_typing.proofs.TypedStmts.{TypedAssign}
use Rattle.mr_typing.proofs.UnbrokenLaws.{well_formed_keeps}
use Rattle.mr_eval.specs.Environment.{PlaceIn, ValueIn, locals_of}
use Rattle.mr_frame.specs.Inside.{TypeAt}
use Rattle.mr_ast.specs.declared.types.Ty.TheVariants as ty
use Rattle.mr_ast.specs.declared.program.Stmt.TheVariants as stmt
use Rattle.mr_frame.proofs.ChangesSafe.{tags_there}

module _ (e : Env) (f : Function) (h : InProgram f e) where
  -- the locals of the scene are those of the function
  pub scene_locals : (env_surround e).locals ≡ f.locals
  scene_locals = ap locals_of h.env.function

  abbrev scene : Surround
  scene = record { locals = f.locals; storage = e.locals.now; functions = e.functions.now; globals = e.globals.now }

  pub env_stands : Stands (named_in e.program.now f) scene
  env_stands = record {
    locals = refl;
    storage = h.env.locals;
    functions = h.env.functions;
    globals = h.env.globals;
    types = (all_at (UnbrokenFunction e.program.now) e.program.now.functions e.function.0 f (well_formed_keeps e.program.now h.well).functions h.env.function).locals;
  }

  -- a place that breaks no rule has a type
  pub type_there : (p : Place) → is_shaped_place (named_in e.program.now f) p ≡ true → broken_in_place (surroundings e.program.now f) p ≡ [] → (t : Ty) × TypeAt e p t
  type_there p shaped none =
      let is = place_safe (named_in e.program.now f) (sizes_of e.program.now.globals) scene env_stands p shaped none in
      (is.ty, record { is = ap (λ ls. type_of_place ls p) scene_locals ∙ is.is; ok = is.ok })

module _ (e : Env) (p : Place) where
  pub deinit_type : StmtIn e (stmt.Deinit p) → (t : Ty) × TypeAt e p t
  deinit_type h = type_there e h.function h.inside p h.shaped h.unbroken

  pub validate_type : StmtIn e (stmt.Validate p) → (t : Ty) × TypeAt e p t
  validate_type h = type_there e h.function h.inside p h.shaped h.unbroken

  -- ---- assignments

  assign_typed : (v : Value) (h : StmtIn e (stmt.Assign p v)) → TypedAssign (surroundings e.program.now h.function) p v
  assign_typed v h = typed_assign (named_in e.program.now h.function) h.function (surroundings e.program.now h.function) refl p v h.shaped h.unbroken

  pub assign_place : (v : Value) → StmtIn e (stmt.Assign p v) → PlaceIn e p
  assign_place v h =
      let parts = and_parts (is_shaped_place (named_in e.program.now h.function) p) (is_shaped_value (named_in e.program.now h.function) v) h.shaped in
      record { function = h.function; env = h.inside.env; shaped = parts.0; unbroken = (assign_typed v h).unbroken_place }

  pub assign_value : (v : Value) → StmtIn e (stmt.Assign p v) → ValueIn e v
  assign_value v h =
      let parts = and_parts (is_shaped_place (named_in e.program.now h.function) p) (is_shaped_value (named_in e.program.now h.function) v) h.shaped in
      record { function = h.function; env = h.inside.env; shaped = parts.1; unbroken = (assign_typed v h).unbroken_value }

  pub assign_type : (v : Value) → StmtIn e (stmt.Assign p v) → (t : Ty) × TypeAt e p t
  assign_type v h =
      let parts = and_parts (is_shaped_place (named_in e.program.now h.function) p) (is_shaped_value (named_in e.program.now h.function) v) h.shaped in
      type_there e h.function h.inside p parts.0 (assign_typed v h).unbroken_place

  -- the value has the shape of the place's type
  pub assign_shape : (v : Value) (t : Ty) (x : Val) → StmtIn e (stmt.Assign p v) → TypeAt e p t → ShapedAs (env_surround e) v x → has_shape t x ≡ true
  assign_shape v t x h at shaped =
      let typed = assign_typed v h in
      let locals = scene_locals e h.function h.inside in
      let one : t ≡ typed.ty = same_Some t typed.ty (sym at.is ∙ ap (λ ls. type_of_place ls p) locals ∙ typed.place) in
      let other : shaped.ty ≡ typed.ty = same_Some shaped.ty typed.ty (sym shaped.is ∙ ap (λ ls. type_of_value ls v) locals ∙ typed.value) in
      subst (λ (u : Ty). has_shape u x ≡ true) (other ∙ sym one) shaped.shape

  -- ---- discriminants

  pub disc_place : (n : Num) → StmtIn e (stmt.Disc p n) → PlaceIn e p
  disc_place n h =
      let parts = and_parts (is_shaped_place (named_in e.program.now h.function) p) (is_shaped_num n) h.shaped in
      record { function = h.function; env = h.inside.env; shaped = parts.0; unbroken = (typed_disc_stmt (named_in e.program.now h.function) h.function (surroundings e.program.now h.function) refl p n h.shaped h.unbroken).unbroken }

  pub disc_type : (n : Num) → StmtIn e (stmt.Disc p n) → (t : Ty) × TypeAt e p t
  disc_type n h = let is = disc_place n h in type_there e is.function (record { env = is.env; well = h.inside.well }) p is.shaped is.unbroken

  -- the variant of the number is there
  pub disc_tags : (n : Num) (t : Ty) → StmtIn e (stmt.Disc p n) → TypeAt e p t → (tags : List Tag) × (tags_in (Some t) n ≡ Some tags)
  disc_tags n t h at =
      let typed = typed_disc_stmt (named_in e.program.now h.function) h.function (surroundings e.program.now h.function) refl p n h.shaped h.unbroken in
      let one : typed.ty ≡ t = same_Some typed.ty t (sym typed.is ∙ ap (λ ls. type_of_place ls p) (sym (scene_locals e h.function h.inside)) ∙ at.is) in
      tags_there t n (subst (λ (u : Ty). is_some (variant_type u n) ≡ true) one typed.fits)

-- the tags of a variant fit
tags_kept : (size : ℕ) (variants : List Variant) (n : Num) (tags : List Tag) → are_all_tags size variants ≡ true → tags_among variants n ≡ Some tags → (u : Ty) × (are_tags size u tags ≡ true)
tags_kept size [] n tags all e = absurd (cc)
tags_kept size (v ∷ variants) n tags all e =
    let both = and_parts (are_tags size v.ty v.tags) (are_all_tags size variants) all in
    by_test (same_num v.number n) refl (tags_kept size variants n tags both.1)
  where
    by_test : (b : Bool) → same_num v.number n ≡ b → (tags_among variants n ≡ Some tags → (u : Ty) × (are_tags size u tags ≡ true)) → (u : Ty) × (are_tags size u tags ≡ true)
    by_test true is more =
        let here : Some v.tags ≡ Some tags = rw is at e in
        let same : v.tags ≡ tags = same_Some v.tags tags here in
        (v.ty, subst (λ ts. are_tags size v.ty ts ≡ true) same (and_parts (are_tags size v.ty v.tags) (are_all_tags size variants) all).0)
    by_test false is more = more (rw is at e)

pub tags_fit : (t : Ty) (n : Num) (tags : List Tag) → TypeOk t → tags_layer (out-Ty t) n ≡ Some tags → (size : ℕ) × (u : Ty) × (are_tags size u tags ≡ true)
tags_fit t n tags ok e = by_layer (out-Ty t) refl e
  where
    by_layer : (x : Ty-F Ty Variant) → out-Ty t ≡ x → tags_layer x n ≡ Some tags → (size : ℕ) × (u : Ty) × (are_tags size u tags ≡ true)
    by_layer (Ty-F.Enum size align disc variants tree) is h =
        let made : t ≡ ty.Enum size align disc variants tree = sym (type_made t) ∙ ap roll-Ty is ∙ ty.rolls-Enum size align disc variants tree in
        let kept = tags_kept size variants n tags (enum_ok size align disc variants tree (subst TypeOk made ok)).tagged h in
        (size, kept.0, kept.1)
    by_layer _ is h = absurd (cc)

pub ruleset stmt_laws = (deinit_type, validate_type, assign_place, assign_value, assign_type, assign_shape, disc_place, disc_type)
