use Rattle.mr_traced.proofs.Common.{◌≡◌, flat_map, map, take, name_in}
use Rattle.mr_traced.proofs.form.names_in.Given as goal

-- the names of the lines before this one are there
abbrev pub invariant-loop-line : goal.invariant-loop-line
invariant-loop-line l = map (λ n. n.now) l.names.items ≡ flat_map (λ x. name_in x.now) (take l.line-index l.lines)
