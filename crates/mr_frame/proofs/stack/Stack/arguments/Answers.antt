use Rattle.mr_frame.proofs.Common.{List, Option, refl, sym, ap, ◌∙◌, subst, All, Place, Value, Term, Outcome, seen, Seen, TellsBy, PlainIn, ResultIn, given_operands, operands_of, scene_in, TermIn, below_of, frame_of, look_of, stack_of, Operands, Site, due_term}
use Rattle.mr_frame.proofs.DoLaws.{argued_is, do_operands}
use Rattle.mr_frame.proofs.IntrinsicLaws.{same_do, site_due}
use Rattle.mr_frame.proofs.StandLaws.{term_in_block}
use Rattle.mr_frame.proofs.stack.Stack.arguments.Goals as goal

pub operands-requires-clause-args : goal.operands-requires-clause-args
operands-requires-clause-args c =
    let here = c.in-Do in
    let t = c.due_do.result.now in
    let due = c.due_do.ensures.due in
    let is = term_in_block c.args.look.now c.args.self.now (due_term t) due t refl c.env-env.result (c.env-env.ensures.inside due.stands.fits) c.env-env.ensures.program in
    let both = do_operands c.env-env.result here.field-0 here.args here.place here.field-3 (subst (λ (x : Term). TermIn c.env-env.result x) here.is is) in
    subst (λ (vs : List Value). All (PlainIn c.env-env.result) vs) (sym c.as_slice.ensures) both.0

pub operands-requires-clause-place : goal.operands-requires-clause-place
operands-requires-clause-place c =
    let here = c.in-Do in
    let t = c.due_do.result.now in
    let due = c.due_do.ensures.due in
    let is = term_in_block c.args.look.now c.args.self.now (due_term t) due t refl c.env-env.result (c.env-env.ensures.inside due.stands.fits) c.env-env.ensures.program in
    let both = do_operands c.env-env.result here.field-0 here.args here.place here.field-3 (subst (λ (x : Term). TermIn c.env-env.result x) here.is is) in
    subst (λ (p : Option Place). ResultIn c.env-env.result p) (sym c.as_ref.ensures.value) both.1

pub returns-clause-given : goal.returns-clause-given
returns-clause-given c =
    let look = c.args.look.now in
    let s = c.args.self.now in
    let here = c.in-Do in
    let t = c.due_do.result.now in
    let due = c.due_do.ensures.due in
    let fits = due.stands.fits in
    let m = c.args.m.now in
    let before = seen c.args.notes.now in
    let P : Outcome Operands Seen → Type 0 = λ o. TellsBy operands_of c.operands.result o (seen c.operands.new.n) c.operands.new.n.refused in
    λ d is.
    let same = same_do d.op here.field-0 d.args here.args d.place here.place d.next here.field-3 (sym (c.due_do.ensures.is d is) ∙ here.is) in
    let site = site_due look c.requires.ready (frame_of s.top) (below_of s) (stack_of s).payloads d is t due.stands in
    let scene = ap (λ (at : Site). scene_in (look_of look) at.function at.frame) site ∙ sym (c.env-env.ensures.scene fits.function fits.is) in
    subst P
    (sym (argued_is m (look_of look) d before ∙ (λ i. given_operands m (scene i) ((same.0 ∙ sym c.as_slice.ensures) i) ((same.1 ∙ sym c.as_ref.ensures.value) i) before)))
    c.operands.ensures.given
