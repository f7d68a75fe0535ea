use Rattle.mr_picture.proofs.Common.{◌≡◌, ◌++◌, ◌<◌, drop, length, seen}
use Rattle.mr_picture.specs.WayTexts.{way_lines}
use Rattle.mr_picture.proofs.way_texts.push_lines.Given as goal

-- the lines from here on are those that are left
abbrev pub invariant-loop-step : goal.invariant-loop-step
invariant-loop-step l = record {
  on :
      l.out.items ++ way_lines (seen l.shown) l.from (drop l.step-index l.steps)
      ≡ l.fn.out.items ++ way_lines (seen l.shown) l.first l.steps;
  here : l.from < length (seen l.shown).feet;
}
