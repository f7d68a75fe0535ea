use Rattle.mr_clocks.proofs.Common.{sym, subst, IsSkip}
use Rattle.mr_clocks.proofs.SkipLaws.{skips_push}
use Rattle.mr_clocks.proofs.rows.keep_walk.Goals as goal

pub returns : goal.returns
returns c = λ run j links is all.
    skips_push run j links c.args.left.now.items c.push.new.self.items c.new.result c.in_ok-push.ensures.items all
    (subst (λ s. IsSkip run j links s) (sym c.new.ensures) (is c.if-not-walk.false))
