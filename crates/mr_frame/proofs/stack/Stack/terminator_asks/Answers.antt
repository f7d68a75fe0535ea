use Rattle.mr_frame.proofs.Common.{◌++◌, List, sym, ap, ◌∙◌, append-nil, Ask, nothing_seen, below_of, frame_of, stack_of}
use Rattle.mr_frame.proofs.AskLaws.{asked_term, no_call}
use Rattle.mr_frame.proofs.stack.Stack.terminator_asks.Goals as goal

pub returns-in_default-clause-ok : goal.returns-in_default-clause-ok
returns-in_default-clause-ok c =
    let s = c.args.self.now in
    λ thread. sym (ap (λ (asks : List Ask). c.args.out.now.items ++ asks) (asked_term c.args.look.now c.requires.due.ready (frame_of s.top) (below_of s) (stack_of s).payloads c.args.t.now c.requires.other (no_call c.args.t.now c.in_default.not-Call) c.requires.due.stands c.args.m.now thread nothing_seen) ∙ append-nil c.args.out.now.items)
