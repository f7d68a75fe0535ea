use Rattle.mr_turn.proofs.Common.{◌≡◌, ◌∙◌, [], ap, false, refl, subst, sym, Err, None, Ok, Went, stop_with, seen, TellsBy, operands_of, argued, look_of, shared_of, AsksAnswer, may_ask}
use Rattle.mr_mem.specs.declared.fault.Fault.{Fault}
use Rattle.mr_mem.specs.declared.fault.Fault.TheVariants as fault
use Rattle.mr_turn.proofs.AskAnswers.{behind, given_needs, none_asked, stopped_needs}
use Rattle.mr_turn.proofs.DoAnswers.{operands_fit}
use Rattle.mr_turn.proofs.QuietNeeds.{quiet_needs}
use Rattle.mr_turn.proofs.asking.do_asks.Goals as goal

pub given_asks-requires : goal.given_asks-requires
given_asks-requires c =
    let look = c.args.look.now in
    let stack = c.args.stack.now in
    let m = c.args.m.now in
    let (d, due, is) = c.requires.due in (
      d,
      record {
        ready = c.requires.ready;
        due = due;
        operands = operands_fit look c.requires.ready stack c.requires.fits d due m (seen c.new-notes.result) (seen c.arguments.new.notes) (operands_of c.in-Ok.call) (c.in-Ok.ensures.given d due);
      },
      is,
    )

pub returns-in-Err-Undefined : goal.returns-in-Err-Undefined
returns-in-Err-Undefined c = λ count.
    let look = c.args.look.now in
    let stack = c.args.stack.now in
    let m = c.args.m.now in
    let x = c.args.sync.now in
    let thread = c.args.thread in
    let (d, due, is) = c.requires.due in
    let r = c.in-Err-Undefined.field-0-0 in
    let given = subst (λ (f : Fault). TellsBy operands_of (Err f) (argued m (look_of look) d (seen c.new-notes.result)) (seen c.arguments.new.notes) c.arguments.new.notes.refused) c.in-Err-Undefined.field-0-is (c.in-Err-Undefined.ensures.given d due) in
    let fresh = subst (λ v. TellsBy operands_of (Err (fault.Undefined r)) (argued m (look_of look) d v) (seen c.arguments.new.notes) c.arguments.new.notes.refused) c.new-notes.ensures given in
    subst (λ n. AsksAnswer {E = Unit {0}} (shared_of m x) n c.args.out.now.items c.args.out.now.items (Ok None)) (sym (stopped_needs look stack m x thread count d due (stop_with c.arguments.new.notes.refused r) fresh)) (none_asked (shared_of m x) c.args.out.now.items)

pub returns-then-not-may_ask : goal.returns-then-not-may_ask
returns-then-not-may_ask c = λ count.
    let look = c.args.look.now in
    let m = c.args.m.now in
    let x = c.args.sync.now in
    let (d, due, is) = c.requires.due in
    let quiet : may_ask d.op ≡ false = ap may_ask is ∙ sym c.may_ask.ensures ∙ c.if-not-may_ask.true in
    subst (λ n. AsksAnswer {E = Unit {0}} (shared_of m x) n c.args.out.now.items c.args.out.now.items (Ok None))
    (sym (quiet_needs look c.requires.ready c.args.stack.now c.requires.fits m x c.args.thread count d due quiet))
    (none_asked (shared_of m x) c.args.out.now.items)

pub returns : goal.returns
returns c = λ count.
    let look = c.args.look.now in
    let stack = c.args.stack.now in
    let m = c.args.m.now in
    let x = c.args.sync.now in
    let thread = c.args.thread in
    let (d, due, is) = c.requires.due in
    let call = c.in-Ok.call in
    let given : argued m (look_of look) d (record { accesses = []; touched = [] }) ≡ Went (operands_of call) (seen c.arguments.new.notes) =
    subst (λ v. argued m (look_of look) d v ≡ Went (operands_of call) (seen c.arguments.new.notes)) c.new-notes.ensures (c.in-Ok.ensures.given d due) in
    subst (λ n. AsksAnswer (shared_of m x) n c.args.out.now.items c.given_asks.new.out.items c.given_asks.result)
    (sym (given_needs look stack m x thread count d due call (seen c.arguments.new.notes) given))
    (c.given_asks.ensures d due m (behind look stack m x thread count d due (seen c.arguments.new.notes)) refl)
