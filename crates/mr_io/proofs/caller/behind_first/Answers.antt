use Rattle.std.proofs.Common.{◌≡◌, ◌<◌, sym, subst, refl, drop}
use Rattle.std.specs.Prelude.{IfOk}
use Rattle.std.specs.Vec.Iter.{into_iter_items}
use Rattle.std.proofs.lemmas.Iterator.{items_from_collect}
use Rattle.std.proofs.lemmas.Iterator.Adapters.{YieldsList-from_vec}
use Rattle.mr_io.proofs.FirstLaws.{behind_first}
use Rattle.mr_io.proofs.caller.behind_first.Goals as goal

pub returns : goal.returns
returns c =
    let rest = into_iter_items c.next.new.self in
    let counted = c.args.all.rest.ok.0 in
    let behind : drop 1 (into_iter_items c.args.all) ≡ rest =
    behind_first c.next.result (into_iter_items c.args.all) rest c.next.ensures.items (λ some. c.next.ensures.variant.1 (subst (λ n. 0 < n) (sym counted) some)) in
    let left = c.next.new.self.rest.ok.0 in
    subst (λ xs. IfOk c.collect.result (λ words. words.items ≡ xs)) (sym behind) (items_from_collect c.collect.result c.collect.ensures.ran (YieldsList-from_vec rest refl left))
