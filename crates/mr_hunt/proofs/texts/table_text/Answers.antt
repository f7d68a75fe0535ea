use Rattle.mr_hunt.proofs.Common.{◌≡◌, ◌∙◌, [], ap, IfOk-weaker}
use Rattle.mr_base.specs.declared.reason.Verdict.TheVariants.{Running}
use Rattle.mr_listing.specs.Seen.{Seen}
use Rattle.mr_hunt.specs.Texts.{seen_with, table_text}
use Rattle.mr_hunt.proofs.texts.table_text.Goals as goal

pub returns : goal.returns
returns c =
    let text = c.args.text.now in
    let laid = c.args.places.now in
    let none = c.in_ok-none.ensures ∙ c.new.ensures.items in
    let same : ◌≡◌ {A = Seen} (record {
      text = text;
      program = c.program.result.now;
      laid = laid;
      rows = c.in_ok-none.none;
      steps = [];
      stands = [];
      count = 0;
      feet = [];
      lines = [];
      races = [];
      verdict = Running;
      rests = [];
    }) (seen_with text c.args.p.now laid [] []) =
    (λ i. record {
      text = text;
      program = c.program.ensures.same i;
      laid = laid;
      rows = none i;
      steps = [];
      stands = [];
      count = 0;
      feet = [];
      lines = [];
      races = [];
      verdict = Running;
      rests = [];
    }) in
    IfOk-weaker c.lines_of.result _ _
    (λ out h. h ∙ ap (λ (s : Seen). table_text s c.args.count c.args.rows.now) same) c.lines_of.ensures
