-- When two identities of allocations are one.
use Rattle.std.specs.Prelude.{Bool, ◌&&◌, ◌==◌}
use Rattle.mr_base.specs.declared.byte.AllocId.{AllocId}

-- whether two identities are one
abbrev pub same_id : AllocId → AllocId → Bool
same_id a b = (a.thread == b.thread) && (a.count == b.count)
