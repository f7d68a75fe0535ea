use Rattle.mr_clocks.proofs.Common.{◌≡◌, ℕ, false, get_or, ap, subst, sym, ◌∙◌, arith, Contains, get_or_default, ℕ_discrete, Access}
use Rattle.std.proofs.lemmas.List.Elements.{Contains-get_or}
use Rattle.mr_clocks.proofs.walks.add_all.Goals as goal

pub loop-i-init : goal.loop-i-init
loop-i-init c = record { kept = λ b h. h; taken = λ k d lt. absurd (omega (arith, lt)); covered = λ accesses one two. one }

pub loop-i-preserved : goal.loop-i-preserved
loop-i-preserved c =
    let none : Access = record { store = false; atomic = false; addr = 0; len = 0 } in
    let more = c.args.more.now in
    let i = c.loop-i.invariant in
    record {
      kept = λ b h. c.in_ok-add_access.ensures.kept b (i.kept b h);
      taken = λ k d lt.
          elim (ℕ_discrete k c.loop-i.i) [
            | yes is ↦
                let same : get_or more c.loop-i.i none ≡ get_or more k d = get_or_default more c.loop-i.i none d c.loop-i-test.true ∙ ap (λ (q : ℕ). get_or more q d) (sym is) in
                subst (λ (a : Access). Contains c.add_access.new.by.items a) same c.in_ok-add_access.ensures.here
            | no ne ↦ c.in_ok-add_access.ensures.kept (get_or more k d) (i.taken k d (omega (arith, lt, ne)))
          ];
      covered = λ accesses one two. c.in_ok-add_access.ensures.covered accesses (i.covered accesses one two) (two (get_or more c.loop-i.i none) (Contains-get_or more c.loop-i.i none c.loop-i-test.true));
    }

pub returns-clause-taken : goal.returns-clause-taken
returns-clause-taken c = λ b h.
    let inside = h.1 in
    subst (λ (a : Access). Contains c.loop-i.by.items a) h.2 (c.loop-i.invariant.taken h.0 b (omega (arith, inside)))
