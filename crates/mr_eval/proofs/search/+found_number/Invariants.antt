use Rattle.mr_eval.proofs.Common.{◌≡◌, drop, Extends, seen, chosen_number, found_number}
use Rattle.mr_eval.proofs.search.+found_number.Given as goal

abbrev pub invariant-loop-case : goal.invariant-loop-case
invariant-loop-case l = record {
  left : found_number l.m l.tree l.p (seen l.fn.notes) ≡ chosen_number l.m l.number (drop l.case-index l.case-items) l.rest l.p (seen l.notes);
  kept : Extends (seen l.fn.notes) (seen l.notes);
}
