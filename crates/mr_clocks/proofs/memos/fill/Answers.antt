use Rattle.mr_clocks.proofs.Common.{subst, sym, refl, arith, AreMemos, IsMemo, no_memo}
use Rattle.mr_clocks.proofs.Each.{each_pushed}
use Rattle.mr_clocks.proofs.MemoLaws.{memo_none}
use Rattle.mr_clocks.proofs.memos.fill.Goals as goal

pub loop-k-init : goal.loop-k-init
loop-k-init c = record { each = λ rows h. h; count = sym c.len-k.ensures; room = refl }

pub loop-k-preserved : goal.loop-k-preserved
loop-k-preserved c =
    let i = c.loop-k.invariant in
    record {
      each = λ rows h. each_pushed (IsMemo rows) no_memo c.none.result c.loop-k.memos.items c.push_reserved.new.self.items c.push_reserved.ensures.items (i.each rows h)
          (memo_none rows c.none.result c.none.ensures);
      count = let n = i.count in let more = c.push_reserved.ensures.len in omega (arith, n, more);
      room = let n = i.room in let same = c.push_reserved.ensures.capacity in omega (arith, n, same);
    }

pub returns-clause-memos : goal.returns-clause-memos
returns-clause-memos c = λ rows h. c.loop-k.invariant.each rows (subst (AreMemos rows) (sym c.in_ok-reserve.ensures.items) h)
