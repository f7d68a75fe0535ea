use Rattle.mr_wf.proofs.Common.{◌≡◌, true, map, ◌∙◌, arith, ty_of, surroundings_of, HasType}
use Rattle.std.proofs.Common.{rules, tests}
use Rattle.mr_typing.specs.SameTypes.{same_type}
use Rattle.mr_wf.proofs.ListedLaws.{elements_next, has_element, has_type_at, known_at}
use Rattle.mr_wf.proofs.alike.match_element.Goals as goal

pub is_element-requires-clause-value : goal.is_element-requires-clause-value
is_element-requires-clause-value c =
    has_type_at (surroundings_of c.args.at) c.args.values.now (map ty_of c.args.types.now) c.loop-i.i c.value_at-value.result (ty_of c.index-types-i.result) c.requires c.value_at-value.ensures
    (known_at ty_of c.args.types.now c.loop-i.i c.index-types-i.result (omega arith) c.index-types-i.is)

pub loop-i-preserved : goal.loop-i-preserved
loop-i-preserved c =
    let yes : true ≡ same_type (ty_of c.index-types-i.result) c.args.elem.now = search (rules, tests) in
    let has : HasType (surroundings_of c.args.at) c.value_at-value.result (ty_of c.index-types-i.result) =
    has_type_at (surroundings_of c.args.at) c.args.values.now (map ty_of c.args.types.now) c.loop-i.i c.value_at-value.result (ty_of c.index-types-i.result) c.requires c.value_at-value.ensures
    (known_at ty_of c.args.types.now c.loop-i.i c.index-types-i.result (omega arith) c.index-types-i.is) in (
      c.loop-i.invariant.0 ∙ elements_next ty_of c.args.elem.now c.args.types.now c.loop-i.i c.index-types-i.result (omega arith) c.index-types-i.is yes,
      has_element (surroundings_of c.args.at) c.value_at-value.result (ty_of c.index-types-i.result) c.args.elem.now has yes,
    )
