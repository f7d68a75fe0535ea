use Rattle.mr_words.proofs.Common.{◌<◌, length, map, ap, sym, subst, ◌∙◌, arith, fold, append-nil, each_once, with_text, names_in}
use Rattle.std.proofs.Common.{All}
use Rattle.mr_words.specs.Naming.{IsSmallFunction}
use Rattle.mr_words.proofs.ScopeLaws.{once-length}
use Rattle.mr_words.proofs.NamingLaws.{length-names_in, length-with_texts, one_more_function}
use Rattle.mr_words.proofs.naming.names_of.Goals as goal

pub add_function-requires-clause-small : goal.add_function-requires-clause-small
add_function-requires-clause-small c =
    subst IsSmallFunction (sym c.function-item.is) (subst (All IsSmallFunction) (sym c.functions-functions.ensures) c.requires.functions c.loop-function.function-index c.function-item.result (omega arith))

pub loop-function-init : goal.loop-function-init
loop-function-init c = (
  c.in_ok-names.ensures ∙ ap each_once (c.globals.ensures ∙ sym (append-nil _)),
  omega (arith, once-length (map (λ w. w.now) c.globals.result.now), ap length c.in_ok-names.ensures, ap length c.globals.ensures, c.requires.few_globals),
)

pub loop-function-preserved : goal.loop-function-preserved
loop-function-preserved c =
    let item = c.function-item.result in
    let lt : c.loop-function.function-index < length c.functions-functions.result.now = omega arith in
    let small : IsSmallFunction item =
    subst IsSmallFunction (sym c.function-item.is) (subst (All IsSmallFunction) (sym c.functions-functions.ensures) c.requires.functions c.loop-function.function-index item lt) in (
      c.in_ok-add_function.ensures ∙ ap (λ names. fold with_text names (names_in item)) c.loop-function.invariant.0
          ∙ one_more_function c.args.definitions.now.globals c.functions-functions.result.now c.loop-function.function-index item lt c.function-item.is,
      omega (arith, length-with_texts c.loop-function.names (names_in item), length-names_in item, ap length c.in_ok-add_function.ensures, small.few_locals, small.few_blocks, c.loop-function.invariant.1),
    )
