use Rattle.mr_eval.proofs.Common.{◌≡◌, true, has_shape, same, seen, read_typed}
use Rattle.mr_eval.proofs.CallLaws.{load_ruled, ruled}
use Rattle.mr_eval.proofs.calls.load_typed.Goals as goal

pub fault_of-requires : goal.fault_of-requires
fault_of-requires c =
    ruled same c.in-Err.h (read_typed c.args.m.now c.args.t.now c.args.p (seen c.args.n.now)) (seen c.load.new.notes) c.load.new.notes.refused (λ v. has_shape c.args.t.now v ≡ true)
    c.in-Err.ensures.given (load_ruled c.args.m.now c.args.t.now c.args.p (seen c.args.n.now) c.requires)
