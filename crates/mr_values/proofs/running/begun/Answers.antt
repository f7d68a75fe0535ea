use Rattle.mr_values.proofs.running.begun.Goals as goal

pub unreachable-requires : goal.unreachable-requires
unreachable-requires c =
    let broken = rw c.in-Err-BadEntry.field-0-is at c.in-Err-BadEntry.ensures in
    let legal = c.requires in
    absurd (cc)
