use Rattle.std.proofs.Common.{◌≡◌, map, take}
use Rattle.mr_report.proofs.encoding.told_texts.Given as goal

-- the texts of the lines before this one were told
abbrev pub invariant-loop-line : goal.invariant-loop-line
invariant-loop-line l = map (λ s. s.now) l.texts.items ≡ map (λ l. l.text) (take l.line-index l.lines)
