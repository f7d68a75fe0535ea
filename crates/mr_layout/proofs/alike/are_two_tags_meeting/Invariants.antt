use Rattle.mr_layout.proofs.Common.{◌≡◌, drop, tags_meeting}
use Rattle.mr_layout.proofs.alike.are_two_tags_meeting.Given as goal

abbrev pub invariant-loop-i : goal.invariant-loop-i
invariant-loop-i l = tags_meeting l.tags ≡ tags_meeting (drop l.i l.tags)
