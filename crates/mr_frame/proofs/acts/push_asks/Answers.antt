use Rattle.mr_frame.proofs.Common.{List, sym, subst, get_or, Local, LocalName, TypeOk, all_at}
use Rattle.mr_frame.proofs.AskLaws.{Asking, asking_cut, asking_end, asking_first, asking_next}
use Rattle.mr_frame.proofs.acts.push_asks.Goals as goal

-- what stands for a name that isn't there
abbrev no_name : LocalName
no_name = record { 0 = 0 }

pub loop-x-init : goal.loop-x-init
loop-x-init c =
    let fn = c.args.function.now in
    let before = c.args.out.now.items in
    let after = c.push_ask.new.out.items in
    subst (λ (xs : List LocalName). Asking fn xs before after) (sym c.as_slice-names.ensures)
    (asking_next fn fn.ret fn.args before before after c.local_at.result.now c.local_at.ensures (asking_first fn c.requires before) c.in_ok-push_ask.ensures.ok)

pub push_ask-requires-in-loop-x : goal.push_ask-requires-in-loop-x
push_ask-requires-in-loop-x c = all_at (λ (l : Local). TypeOk l.ty) c.args.function.now.locals _ c.local_at-in-loop-x.result.now c.requires.ok c.local_at-in-loop-x.ensures

pub loop-x-preserved : goal.loop-x-preserved
loop-x-preserved c =
    let fn = c.args.function.now in
    let xs = c.as_slice-names.result.now in
    let k = c.loop-x.x-index in
    let before = c.args.out.now.items in
    asking_next fn (get_or xs k no_name) _ before c.loop-x.out.items c.push_ask-in-loop-x.new.out.items c.local_at-in-loop-x.result.now c.local_at-in-loop-x.ensures
    (asking_cut fn xs k before c.loop-x.out.items no_name c.loop-x-test.true c.loop-x.invariant) c.in_ok-push_ask-2.ensures.ok

pub returns : goal.returns
returns c = asking_end c.args.function.now c.as_slice-names.result.now c.loop-x.x-index c.args.out.now.items c.loop-x.out.items c.loop-x-test.false c.loop-x.invariant
