use Rattle.mr_typing.proofs.Common.{◌≡◌, ◌↔◌, IsTrue, sym, ◌∙◌, rules, tests, ty_of}
use Rattle.mr_typing.proofs.KnownLaws.{int_told, int_untold}
use Rattle.mr_typing.proofs.known.Known.is_int.Goals as goal

pub returns-in-Some : goal.returns-in-Some
returns-in-Some c =
    let same : IsTrue c.eq.result ↔ (c.in-Some.j ≡ c.args.i) = search (rules, tests) in
    int_told c.eq.result (ty_of c.args.self) c.in-Some.j c.args.i (sym c.integer.ensures ∙ c.in-Some.is) same

pub returns-in-None : goal.returns-in-None
returns-in-None c = int_untold (ty_of c.args.self) c.args.i (sym c.integer.ensures ∙ c.in-None.is)
