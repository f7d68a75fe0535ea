use Rattle.mr_frame.proofs.Common.{◌≡◌, Bool, true, Option, Some, subst, sym, ap, ◌∙◌, if◌then◌else◌, Place, Value, Ty, Pointer, Memory, Val, has_shape, Broken, Outcome, Went, on, type_of_place, seen, Leaves, env_surround, placed, valued, Surround, Seen, stored_typed, assigned, stored_at}
use Rattle.mr_frame.proofs.InsideLaws.{assign_place, assign_shape, assign_value}
use Rattle.mr_frame.proofs.changes.assign.Goals as goal

-- where both sides are found, and the value has the shape of the place's type, the value is stored
assign_went : (m : Memory) (s : Surround) (place : Place) (value : Value) (seen s1 s2 : Seen) (p : Pointer) (v : Val) (t : Ty)
    → placed m s place seen ≡ Went p s1 → valued m s value s1 ≡ Went v s2 → type_of_place s.locals place ≡ Some t → has_shape t v ≡ true → assigned m s place value seen ≡ stored_typed m t p v s2
unfolding assigned
assign_went m s place value seen s1 s2 p v t at went typed shape =
    ap (λ (o : Outcome Pointer Seen). on o (λ q l. on (valued m s value l) (λ x last. stored_at m (type_of_place s.locals place) q x last))) at
    ∙ ap (λ (o : Outcome Val Seen). on o (λ x last. stored_at m (type_of_place s.locals place) p x last)) went
    ∙ ap (λ (o : Option Ty). stored_at m o p v s2) typed
    ∙ ap (λ (b : Bool). if b then stored_typed m t p v s2 else Broken) shape

pub place-requires : goal.place-requires
place-requires c = assign_place c.args.e.now c.args.to.now c.args.«from».now c.requires

pub value-requires : goal.value-requires
value-requires c = assign_value c.args.e.now c.args.to.now c.args.«from».now c.requires

pub store_typed-requires-clause-shape : goal.store_typed-requires-clause-shape
store_typed-requires-clause-shape c = assign_shape c.args.e.now c.args.to.now c.args.«from».now c.type_at.result.now c.in_ok-v.v c.requires c.type_at.ensures c.in_ok-v.ensures.shape

pub returns : goal.returns
returns c =
    let e = c.args.e.now in
    let shape = assign_shape e c.args.to.now c.args.«from».now c.type_at.result.now c.in_ok-v.v c.requires c.type_at.ensures c.in_ok-v.ensures.shape in
    let is = assign_went c.args.m.now (env_surround e) c.args.to.now c.args.«from».now (seen c.args.n.now) (seen c.place.new.n) (seen c.value.new.n) c.in_ok-p.p c.in_ok-v.v c.type_at.result.now
    c.in_ok-p.ensures.given c.in_ok-v.ensures.given c.type_at.ensures.is shape in
    let P : Outcome Memory Seen → Type 0 = λ o. Leaves c.store_typed.result o c.store_typed.new.m (seen c.store_typed.new.n) c.store_typed.new.n.refused in
    subst P (sym is) c.store_typed.ensures.given
