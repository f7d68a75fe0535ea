use Rattle.std.specs.Prelude.{option_copied}
use Rattle.mr_listing.specs.Seen.{seen}
use Rattle.mr_json.specs.Accesses.{access_at}
use Rattle.mr_json.proofs.ListLaws.{viewed_next}
use Rattle.mr_json.proofs.accesses.accesses.Goals as goal

pub loop-at-preserved : goal.loop-at-preserved
loop-at-preserved c =
    viewed_next (access_at (seen c.args.shown.now) (option_copied c.args.values) c.args.accesses.now)
    c.loop-at.list.items c.push.new.self.items c.in_ok-access_at.field-0 c.loop-at.at c.in_ok-push.ensures.items
    c.loop-at.invariant c.in_ok-access_at.ensures
