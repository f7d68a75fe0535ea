use Rattle.mr_start.proofs.Common.{sym, subst, HaveRoom}
use Rattle.mr_start.proofs.StartFacts.{have_room}
use Rattle.mr_start.proofs.pieces.pieces.Goals as goal

pub push_globals-requires : goal.push_globals-requires
push_globals-requires c = subst HaveRoom (sym c.as_slice-2.ensures) (have_room c.args.p.now c.requires)
