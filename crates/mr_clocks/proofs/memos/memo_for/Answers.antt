use Rattle.mr_clocks.proofs.Common.{List, sym, ◌∙◌, subst, arith, Row, AreAllAsked}
use Rattle.mr_clocks.proofs.KeyLists.{places_from}
use Rattle.mr_clocks.proofs.memos.memo_for.Goals as goal

pub returns-clause-memo : goal.returns-clause-memo
returns-clause-memo c =
    let noted = c.in_ok-noted.noted in
    let step = c.args.step.now in
    let rows = c.places_for.new.rows.items in
    record {
      stamp = omega (arith, c.len-stamp.ensures, c.places_for.new.rows.ok.0);
      asked = subst (λ (l : List Row). AreAllAsked step l c.in_ok-asked.asked.items) c.as_slice-2.ensures.value c.in_ok-asked.ensures;
      noted = places_from step rows noted.items c.as_slice.result.now c.thread.result
          (c.as_slice.ensures.value ∙ c.in_ok-keys.ensures) c.thread.ensures (sym noted.ok.0 ∙ c.in_ok-noted.ensures.many) c.in_ok-noted.ensures.rows;
    }
