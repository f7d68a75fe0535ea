use Rattle.serde_json.specs.View.{view}
use Rattle.mr_listing.specs.Seen.{seen}
use Rattle.mr_json.proofs.DepthLaws.{reads_as}
use Rattle.mr_json.proofs.WholeLaws.{whole_text}
use Rattle.mr_json.proofs.run.json.Goals as goal

pub returns-clause-text : goal.returns-clause-text
returns-clause-text c =
    whole_text (seen c.args.shown.now) c.args.values.now (view c.in_ok-run.field-0) c.in_ok-text.text.items
    c.push.new.self.items c.in_ok-run.ensures c.in_ok-text.ensures.text c.in_ok-push.ensures.items

pub returns-clause-reads_back : goal.returns-clause-reads_back
returns-clause-reads_back c =
    reads_as (seen c.args.shown.now) c.args.values.now (view c.in_ok-run.field-0) c.in_ok-text.text.items
    c.push.new.self.items c.in_ok-run.ensures c.in_ok-text.ensures.reads_back c.in_ok-push.ensures.items
