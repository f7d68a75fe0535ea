use Rattle.mr_rust_order.proofs.Common.{[], ◌∷◌}
use Rattle.mr_rust_order.proofs.MarkLaws.{listed_kept, listed_push}
use Rattle.mr_rust_order.proofs.memos.push_if.Goals as goal

pub returns-clause-kept : goal.returns-clause-kept
returns-clause-kept c = λ y t. listed_kept c.args.found.now.items c.push.new.self.items (c.args.x ∷ []) y c.in_ok-push.ensures.items t

pub returns-clause-here : goal.returns-clause-here
returns-clause-here c = λ w. listed_push c.args.found.now.items c.push.new.self.items c.args.x c.in_ok-push.ensures.items
