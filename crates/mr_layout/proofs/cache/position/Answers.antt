use Rattle.mr_layout.proofs.CacheLaws.{place_found, place_missing}
use Rattle.mr_layout.proofs.cache.position.Goals as goal

pub returns-clause-found : goal.returns-clause-found
returns-clause-found c = place_found c.args.entries.now.entries c.args.t.now c.get_index_of.result c.get_index_of.ensures.index

pub returns-clause-missing : goal.returns-clause-missing
returns-clause-missing c = place_missing c.args.entries.now.entries c.args.t.now c.get_index_of.result c.get_index_of.ensures.found
