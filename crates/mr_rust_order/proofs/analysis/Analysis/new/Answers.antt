use Rattle.mr_rust_order.proofs.Common.{List, length, ap, sym, subst, arith, to_joiners, to_lock, to_thread, AreMemos, Row}
use Rattle.mr_rust_order.proofs.ChannelLaws.{channels_none}
use Rattle.mr_rust_order.proofs.RowLaws.{rows_none}
use Rattle.mr_rust_order.proofs.analysis.Analysis.new.Goals as goal

pub returns : goal.returns
returns c = λ run.
    record {
      threads = channels_none run to_thread c.new.result.items c.new.ensures.items;
      locks = channels_none run to_lock c.new-2.result.items c.new-2.ensures.items;
      ended = channels_none run to_joiners c.new-3.result.items c.new-3.ensures.items;
      rows = rows_none run c.new-7.result.items c.new-7.ensures.items;
      memos = subst (λ (l : List Row). AreMemos l c.in_ok-memos.memos.items) (sym c.new-7.ensures.items) c.in_ok-memos.ensures;
      marked = λ x lt. absurd (let none = ap length c.new-7.ensures.items in omega (arith, lt, none));
    }
