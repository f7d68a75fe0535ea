use Rattle.mr_turn.proofs.Common.{◌∙◌, subst, sym, None, Ok, operands_of, look_of, shared_of, AsksAnswer, own_of}
use Rattle.mr_turn.proofs.AskAnswers.{asked_given, none_asked, payload_needs}
use Rattle.mr_turn.proofs.asking.given_asks.Goals as goal

pub returns-in-Payload : goal.returns-in-Payload
returns-in-Payload c = λ d due m n here.
    let look = c.args.look.now in
    let stack = c.args.stack.now in
    let x = c.args.sync.now in
    let call = c.args.call.now in
    let (g, is) = asked_given look stack call c.args.op c.requires d due in
    subst (λ k. AsksAnswer {E = Unit {0}} (shared_of m x) k c.args.out.now.items c.args.out.now.items (Ok None))
    (sym (payload_needs (look_of look) (own_of c.args.thread stack) d (operands_of call) (shared_of m x, n) (is ∙ c.in-Payload.is)))
    (none_asked (shared_of m x) c.args.out.now.items)
