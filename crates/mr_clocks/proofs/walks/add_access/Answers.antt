use Rattle.mr_clocks.proofs.Common.{List, subst, Contains, Access}
use Rattle.mr_clocks.proofs.SkipLaws.{all_among, among_push, pushed_among}
use Rattle.mr_clocks.proofs.walks.add_access.Goals as goal

pub returns-then-has_access-clause-here : goal.returns-then-has_access-clause-here
returns-then-has_access-clause-here c = subst (λ (l : List Access). Contains l c.args.access) c.as_slice.ensures.value (c.has_access.ensures c.if-has_access.true)

pub returns-clause-kept : goal.returns-clause-kept
returns-clause-kept c = among_push c.args.by.now.items c.push.new.self.items c.args.access c.in_ok-push.ensures.items

pub returns-clause-here : goal.returns-clause-here
returns-clause-here c = pushed_among c.args.by.now.items c.push.new.self.items c.args.access c.in_ok-push.ensures.items

pub returns-clause-covered : goal.returns-clause-covered
returns-clause-covered c = λ accesses one two. all_among c.args.by.now.items c.push.new.self.items accesses c.args.access c.in_ok-push.ensures.items one two
