use Rattle.mr_wf.proofs.Common.{◌≡◌, take, sizes_of}
use Rattle.mr_wf.proofs.globals.sizes_of.Given as goal

abbrev pub invariant-loop-global : goal.invariant-loop-global
invariant-loop-global l = l.sizes.items ≡ sizes_of (take l.global-index l.globals)
