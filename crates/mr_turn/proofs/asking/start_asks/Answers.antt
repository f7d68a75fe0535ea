use Rattle.mr_turn.proofs.Common.{◌∙◌, subst, sym, None, Ok, same_Some, shared_of, AsksAnswer}
use Rattle.mr_turn.proofs.AskAnswers.{asked_start, none_asked, other_needs, thread_needs, told_code}
use Rattle.mr_turn.proofs.SpawnAnswers.{found_types}
use Rattle.mr_turn.proofs.asking.start_asks.Goals as goal

pub returns-then-not-begins_thread : goal.returns-then-not-begins_thread
returns-then-not-begins_thread c = λ d due m n here.
    let look = c.args.look.now in
    let stack = c.args.stack.now in
    let x = c.args.sync.now in
    let call = c.args.call.now in
    let h = asked_start look stack call c.args.f.0 c.requires d due in
    let other = sym (found_types c.function_of.result.now h.at.function h.at.types (same_Some c.function_of.result.now h.at.function (sym c.function_of.ensures ∙ h.at.there)) h.at.typed _ c.if-not-begins_thread.ensures) in
    subst (λ k. AsksAnswer {E = Unit {0}} (shared_of m x) k c.args.out.now.items c.args.out.now.items (Ok None))
    (sym (other_needs look stack call d c.args.f.0 c.args.thread h (shared_of m x, n) other))
    (none_asked (shared_of m x) c.args.out.now.items)

pub returns : goal.returns
returns c = λ d due m n here.
    let look = c.args.look.now in
    let stack = c.args.stack.now in
    let x = c.args.sync.now in
    let call = c.args.call.now in
    let h = asked_start look stack call c.args.f.0 c.requires d due in
    let same = sym (found_types c.function_of.result.now h.at.function h.at.types (same_Some c.function_of.result.now h.at.function (sym c.function_of.ensures ∙ h.at.there)) h.at.typed _ c.if-not-begins_thread.ensures) in
    subst (λ k. AsksAnswer {E = Unit {0}} (shared_of m x) k c.args.out.now.items c.extend_from_slice.new.self.items (Ok c.over_limit.result))
    (sym (thread_needs look stack call d c.args.f.0 c.args.thread h (shared_of m x, n) same))
    (c.in_ok-extend_from_slice.ensures.items, told_code c.over_limit.result _ (c.over_limit.ensures m))
