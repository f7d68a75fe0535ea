use Rattle.mr_turn.proofs.Common.{subst, sym, Err, None, Ok, operands_of, look_of, shared_of, AsksAnswer, own_of}
use Rattle.mr_turn.proofs.AskAnswers.{asked_given, none_asked, operands_told, told_code, told_needs, told_none}
use Rattle.mr_turn.proofs.asking.operation_asks.Goals as goal

pub returns-in-Err : goal.returns-in-Err
returns-in-Err c = λ d due m n here.
    let look = c.args.look.now in
    let stack = c.args.stack.now in
    let x = c.args.sync.now in
    let call = c.args.call.now in
    let (g, is) = asked_given look stack call c.args.op c.requires.given d due in
    let told = operands_told d.op c.args.op is (operands_of call) g.operands c.as_slice.result.now c.as_slice.ensures.value (Err c.in-Err.field-0) c.args.thread x c.in-Err.ensures m n here in
    subst (λ k. AsksAnswer {E = Unit {0}} (shared_of m x) k c.args.out.now.items c.args.out.now.items (Ok None))
    (sym (told_none (look_of look) (own_of c.args.thread stack) d (operands_of call) (shared_of m x, n) c.args.op is c.requires.kind c.in-Err.field-0 told))
    (none_asked (shared_of m x) c.args.out.now.items)

pub returns-in_ok-push_ask-in-Ok : goal.returns-in_ok-push_ask-in-Ok
returns-in_ok-push_ask-in-Ok c = λ d due m n here.
    let look = c.args.look.now in
    let stack = c.args.stack.now in
    let x = c.args.sync.now in
    let call = c.args.call.now in
    let (g, is) = asked_given look stack call c.args.op c.requires.given d due in
    let told = operands_told d.op c.args.op is (operands_of call) g.operands c.as_slice.result.now c.as_slice.ensures.value (Ok c.in-Ok.needs) c.args.thread x c.in-Ok.ensures m n here in
    subst (λ k. AsksAnswer {E = Unit {0}} (shared_of m x) k c.args.out.now.items c.push_ask.new.out.items (Ok c.over_limit.result))
    (sym (told_needs (look_of look) (own_of c.args.thread stack) d (operands_of call) (shared_of m x, n) c.args.op is c.requires.kind c.in-Ok.needs told))
    (c.in_ok-push_ask-in-Ok.ensures.ok, told_code c.over_limit.result _ (c.over_limit.ensures m))
