use Rattle.std.proofs.Common.{ℕ, List, Bor, map, subst, ◌∙◌, arith}
use Rattle.std.specs.Prelude.{All}
use Rattle.std.proofs.lemmas.List.Elements.{All-map}
use Rattle.mr_ast.specs.declared.types.Ty.{Ty}
use Rattle.mr_layout.specs.TypeOk.{TypeOk}
use Rattle.mr_data_tests.proofs.caches.cache_of.Goals as goal

pub new-requires : goal.new-requires
new-requires c =
    let items = c.as_slice-t-items.result.now in
    let all : All TypeOk (map (λ (t : Bor Ty). t.now) items) = All-map TypeOk (λ (t : Bor Ty). t.now) items (λ k d h. c.loop-t.invariant k d (omega arith)) in
    subst (All TypeOk) (c.as_slice-t-items.ensures ∙ c.in_ok-found.ensures) all
