use Rattle.mr_traced.proofs.Common.{◌≡◌, flat_map, take, site_in}
use Rattle.mr_traced.proofs.form.sites_in.Given as goal

-- the sites of the lines before this one are there
abbrev pub invariant-loop-line : goal.invariant-loop-line
invariant-loop-line l = l.sites.items ≡ flat_map (λ x. site_in x.now) (take l.line-index l.lines)
