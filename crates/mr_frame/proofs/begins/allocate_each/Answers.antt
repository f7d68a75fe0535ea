use Rattle.mr_frame.proofs.Common.{◌+◌, arith, get_or, Local, LocalName, TypeOk, world_of, all_at}
use Rattle.mr_frame.proofs.BeginSteps.{allocating_cut, allocating_end, allocating_next, start_can, start_inside, start_next}
use Rattle.mr_frame.proofs.begins.allocate_each.Goals as goal

-- what stands for a name that isn't there
abbrev no_name : LocalName
no_name = record { 0 = 0 }

pub bounds-picks-0 : goal.bounds-picks-0
bounds-picks-0 c = let inside = start_inside c.args.function.now c.requires.function c.args.picks.now (world_of c.args.s.now) c.requires.allocates in omega arith

pub allocate_local-requires-clause-ok : goal.allocate_local-requires-clause-ok
allocate_local-requires-clause-ok c = all_at (λ (l : Local). TypeOk l.ty) c.args.function.now.locals _ c.local_at.result.now c.requires.function.ok c.local_at.ensures

pub allocate_local-requires-clause-allocates : goal.allocate_local-requires-clause-allocates
allocate_local-requires-clause-allocates c =
    start_can c.args.function.now c.requires.function c.args.picks.now (world_of c.args.s.now) c.requires.allocates c.local_at.result.now c.local_at.ensures

pub loop-k-init : goal.loop-k-init
loop-k-init c =
    start_next c.args.function.now c.requires.function c.args.picks.now (world_of c.args.s.now) c.requires.allocates c.local_at.result.now c.local_at.ensures
    c.as_slice-names.result.now c.as_slice-names.ensures c.args.out.now.items c.allocate_local.new.out.items c.requires.none (world_of c.allocate_local.new.s) c.in_ok-allocate_local.ensures

pub allocate_local-requires-in-loop-k-clause-ok : goal.allocate_local-requires-in-loop-k-clause-ok
allocate_local-requires-in-loop-k-clause-ok c = all_at (λ (l : Local). TypeOk l.ty) c.args.function.now.locals _ c.local_at-in-loop-k.result.now c.requires.function.ok c.local_at-in-loop-k.ensures

pub loop-k-preserved : goal.loop-k-preserved
loop-k-preserved c =
    let fn = c.args.function.now in
    let xs = c.as_slice-names.result.now in
    let picks = c.args.picks.now in
    let w = world_of c.args.s.now in
    let k = c.loop-k.k in
    let cut = allocating_cut fn xs k no_name picks w c.loop-k.out.items (world_of c.loop-k.s) c.loop-k-test.true c.loop-k.invariant in
    allocating_next fn (get_or xs k no_name) _ (get_or picks (k + 1) 0) _ picks w c.loop-k.out.items (world_of c.loop-k.s) cut.1 c.local_at-in-loop-k.result.now c.local_at-in-loop-k.ensures
    c.allocate_local-in-loop-k.new.out.items (world_of c.allocate_local-in-loop-k.new.s) c.in_ok-allocate_local-2.ensures

pub returns : goal.returns
returns c =
    allocating_end c.args.function.now c.as_slice-names.result.now c.loop-k.k no_name c.args.picks.now (world_of c.args.s.now) c.loop-k.out.items (world_of c.loop-k.s) c.loop-k-test.false c.loop-k.invariant
