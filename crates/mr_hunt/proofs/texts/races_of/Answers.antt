use Rattle.mr_hunt.proofs.Common.{◌≡◌, ◌∙◌, [], ap, IfOk-weaker}
use Rattle.mr_base.specs.declared.reason.Verdict.TheVariants.{Running}
use Rattle.mr_listing.specs.Races.{races_text}
use Rattle.mr_listing.specs.Seen.{Seen}
use Rattle.mr_hunt.specs.Texts.{seen_with}
use Rattle.mr_hunt.proofs.texts.races_of.Goals as goal

pub returns : goal.returns
returns c =
    let text = c.args.text.now in
    let laid = c.args.places.now in
    let stands = c.args.stands.now in
    let pairs = c.args.pairs.now in
    let none = c.in_ok-none.ensures ∙ c.new.ensures.items in
    let same : ◌≡◌ {A = Seen} (record {
      text = text;
      program = c.program.result.now;
      laid = laid;
      rows = c.in_ok-none.none;
      steps = [];
      stands = stands;
      count = 0;
      feet = [];
      lines = [];
      races = pairs;
      verdict = Running;
      rests = [];
    }) (seen_with text c.args.p.now laid stands pairs) =
    (λ i. record {
      text = text;
      program = c.program.ensures.same i;
      laid = laid;
      rows = none i;
      steps = [];
      stands = stands;
      count = 0;
      feet = [];
      lines = [];
      races = pairs;
      verdict = Running;
      rests = [];
    }) in
    IfOk-weaker c.races.result _ _ (λ out h. h ∙ ap races_text same) c.races.ensures
