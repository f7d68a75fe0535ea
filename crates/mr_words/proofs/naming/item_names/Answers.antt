use Rattle.mr_words.proofs.Common.{◌<◌, length, map, ap, sym, ◌∙◌, arith, append-nil, each_once, with_text, length-with_text}
use Rattle.mr_words.proofs.ScopeLaws.{once-length}
use Rattle.mr_words.proofs.NamingLaws.{one_more_name}
use Rattle.mr_words.proofs.naming.item_names.Goals as goal

pub loop-function-init : goal.loop-function-init
loop-function-init c = (
  c.in_ok-names.ensures ∙ ap each_once (c.globals.ensures ∙ sym (append-nil _)),
  omega (arith, once-length (map (λ w. w.now) c.globals.result.now), ap length c.in_ok-names.ensures, ap length c.globals.ensures, c.requires.few_globals),
)

pub loop-function-preserved : goal.loop-function-preserved
loop-function-preserved c =
    let item = c.function-item.result in
    let lt : c.loop-function.function-index < length c.functions-functions.result.now = omega arith in (
      c.in_ok-add.ensures ∙ ap (with_text c.loop-function.names) c.name.ensures ∙ ap (λ names. with_text names item.name) c.loop-function.invariant.0
          ∙ one_more_name c.args.definitions.now.globals c.functions-functions.result.now c.loop-function.function-index item lt c.function-item.is,
      omega (arith, length-with_text c.loop-function.names c.name.result.now, ap length c.in_ok-add.ensures, c.loop-function.invariant.1),
    )
