use Rattle.mr_layout.proofs.AlikeLaws.{known_keys}
use Rattle.mr_layout.proofs.alike.is_known.Goals as goal

pub is_among-requires : goal.is_among-requires
is_among-requires c = rw c.as_slice.ensures.value ((rw c.in-Some.is at c.requires).sorted)

pub returns-in-Some : goal.returns-in-Some
returns-in-Some c =
    rw (c.is_among.ensures, c.number_key.ensures, c.as_slice.ensures.value)
    (known_keys c.args.number c.args.variants.now c.in-Some.sorted.items (rw c.in-Some.is at c.requires))
