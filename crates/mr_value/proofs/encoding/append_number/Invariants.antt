use Rattle.mr_value.proofs.Common.{◌≡◌, ◌-◌, ◌++◌, with_provenance, little_endian, BeginsWith}
use Rattle.mr_value.proofs.encoding.append_number.Given as goal

abbrev pub invariant-loop-i : goal.invariant-loop-i
invariant-loop-i l = record {
  all : l.initial.out.items ++ with_provenance l.provenance (little_endian l.count l.number) ≡ l.out.items ++ with_provenance l.provenance (little_endian (l.count - l._i) l.rest);
  front : BeginsWith l.out.items l.initial.out.items;
}
