use Rattle.mr_show.proofs.Common.{◌≡◌, ◌∙◌, [], ap, IfOk-weaker, Seen}
use Rattle.mr_show.specs.Next.{positions_in, standing_seen}
use Rattle.mr_show.proofs.next.positions_of.Goals as goal

pub returns : goal.returns
returns c =
    let text = c.args.text.now in
    let rows = c.in_ok-rows.ensures ∙ c.new.ensures.items in
    let rests = c.as_slice.ensures.value ∙ c.in_ok-rests.ensures in
    let same : ◌≡◌ {A = Seen} (record {
      text = text;
      program = c.program.result.now;
      laid = c.in_ok-places.places;
      rows = c.in_ok-rows.rows;
      steps = [];
      stands = [];
      count = 0;
      feet = [];
      lines = [];
      races = [];
      verdict = c.verdict.result;
      rests = c.as_slice.result.now;
    }) (standing_seen text c.args.p.now c.args.machine.now.config) =
    (λ i. record {
      text = text;
      program = c.program.ensures.same i;
      laid = c.in_ok-places.ensures i;
      rows = rows i;
      steps = [];
      stands = [];
      count = 0;
      feet = [];
      lines = [];
      races = [];
      verdict = c.verdict.ensures i;
      rests = rests i;
    }) in
    IfOk-weaker c.each_position.result _ _ (λ xs h. h ∙ ap positions_in same) c.each_position.ensures
