use Rattle.mr_frame.proofs.Common.{◌≡◌, ◌++◌, List, sym, ap, ◌∙◌, subst, append-nil, OnOk, Stmt, Ask, nothing_seen, below_of, frame_of, stack_of, AtStatement, IsDue}
use Rattle.mr_frame.proofs.AskLaws.{asked_stmt, live_asks, live_inside, live_ok}
use Rattle.mr_frame.proofs.stack.Stack.statement_asks.Goals as goal

pub local_at-requires : goal.local_at-requires
local_at-requires c =
    let due = subst (λ (x : Stmt). IsDue c.args.look.now c.args.self.now (AtStatement x)) c.in-Live.is c.requires in
    live_inside c.args.look.now c.args.self.now c.in-Live.x due c.function-function.result.now c.function-function.ensures

pub push_ask-requires : goal.push_ask-requires
push_ask-requires c =
    let due = subst (λ (x : Stmt). IsDue c.args.look.now c.args.self.now (AtStatement x)) c.in-Live.is c.requires in
    live_ok c.args.look.now c.args.self.now c.in-Live.x due c.function-function.result.now c.function-function.ensures c.local_at.result.now c.local_at.ensures

pub returns-in-Live-clause-ok : goal.returns-in-Live-clause-ok
returns-in-Live-clause-ok c =
    let due = subst (λ (x : Stmt). IsDue c.args.look.now c.args.self.now (AtStatement x)) c.in-Live.is c.requires in
    let P : List Ask → Type 0 = λ asks. OnOk c.push_ask.result (c.push_ask.new.out.items ≡ c.args.out.now.items ++ asks) in
    λ m thread. subst P (sym (live_asks c.args.look.now c.args.self.now c.in-Live.x due c.function-function.result.now c.function-function.ensures c.local_at.result.now c.local_at.ensures m thread nothing_seen)) c.push_ask.ensures.ok

pub returns-in_default-clause-ok : goal.returns-in_default-clause-ok
returns-in_default-clause-ok c =
    let s = c.args.self.now in
    λ m thread. sym (ap (λ (asks : List Ask). c.args.out.now.items ++ asks) (asked_stmt c.args.look.now c.requires.ready (frame_of s.top) (below_of s) (stack_of s).payloads c.args.stmt.now c.in_default.not-Live c.requires.stands m thread nothing_seen) ∙ append-nil c.args.out.now.items)
