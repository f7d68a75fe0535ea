use Rattle.mr_frame.proofs.Common.{◌∙◌, ap, sym, subst, Option, option_copied, Ty, Pointer, Outcome, Tells, World, world_of, FitsResult, result_stored}
use Rattle.mr_frame.specs.Effects.{stored_in}
use Rattle.mr_frame.proofs.DoLaws.{stored_none, stored_some}
use Rattle.mr_frame.proofs.dos.store_result.Goals as goal

pub returns-in-Some-Some-Some : goal.returns-in-Some-Some-Some
returns-in-Some-Some-Some c =
    let here = c.in-Some-Some-Some in
    let w = world_of c.args.s.now in
    let P : Outcome (Unit {0}) World → Type 0 = λ o. Tells c.store.result o (world_of c.store.new.s) c.store.new.s.notes.refused in
    subst P (sym ((λ i. result_stored (here.is-0 i) (here.is-1 i) (option_copied (here.is-2 i)) w) ∙ stored_some here.p here.t here.v.now w ∙ ap (λ (t : Ty). stored_in t here.p here.v.now w) (sym c.ty.ensures))) c.store.ensures

pub returns-in_default-3 : goal.returns-in_default-3
returns-in_default-3 c =
    let none = c.in_default.is-0 in
    let w = world_of c.args.s.now in
    let P : Option Pointer → Type 0 = λ o. FitsResult o c.args.call.now.result_type (option_copied c.args.value) in
    let fits = subst P none c.requires in
    (λ i. result_stored (none i) (fits.0 i) (fits.1 i) w) ∙ stored_none w
