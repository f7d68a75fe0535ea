use Rattle.mr_clocks.proofs.Common.{◌∷◌, []}
use Rattle.mr_clocks.proofs.MarkLaws.{listed_kept, listed_push}
use Rattle.mr_clocks.proofs.index.add_asked.Goals as goal

pub returns-clause-kept : goal.returns-clause-kept
returns-clause-kept c = λ z t. listed_kept c.args.found.now.items c.push.new.self.items (c.args.x ∷ []) z c.in_ok-push.ensures.items t

pub returns-clause-here : goal.returns-clause-here
returns-clause-here c = λ _. listed_push c.args.found.now.items c.push.new.self.items c.args.x c.in_ok-push.ensures.items
