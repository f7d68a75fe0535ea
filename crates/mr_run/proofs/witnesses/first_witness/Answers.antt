use Rattle.mr_run.proofs.Common.{◌≡◌, List, [], ◌∷◌, Some, ap, arith, subst, sym, ◌∙◌}
use Rattle.std.specs.Prelude.{Contains, option_copied, slice_get}
use Rattle.mr_event.specs.declared.footprint.Pair.{Pair}
use Rattle.mr_run.proofs.witnesses.first_witness.Goals as goal

-- the first of a list is one of it
first_listed : (races : List Pair) (pair : Pair) → slice_get races 0 ≡ Some pair → Contains races pair
first_listed [] pair e = absurd (cc)
first_listed (p ∷ races) pair e = let same : p ≡ pair = cc in (0, omega arith, same)

pub witness_by-requires-clause-listed : goal.witness_by-requires-clause-listed
witness_by-requires-clause-listed c =
    let pair = c.in-Some.pair.now in
    subst (λ (races : List Pair). Contains races pair) c.requires.races
    (first_listed c.args.races.now pair (sym c.first.ensures.value ∙ ap option_copied c.in-Some.is))
