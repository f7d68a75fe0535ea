-- The words of a call up to the place of its result.
use Rattle.std.specs.Prelude.{List, ◌∷◌, ◌++◌, codes, Option}
use Rattle.mr_ast.specs.declared.expr.Place.{Place}
use Rattle.mr_ast.specs.declared.expr.Value.{Value}
use Rattle.mr_ast.specs.declared.program.Intrinsic.{Intrinsic}
use Rattle.mr_ast.specs.Words.{Texts}
use Rattle.mr_ast.specs.CanonValues.{NameTexts, words_of_place, words_of_value}
use Rattle.mr_ast.specs.Canon.{arguments, intrinsic_word, optional_result}

unfoldable pub call_words : NameTexts → Value → List Value → Place → Texts
call_words names callee args place =
    codes "call" ∷ words_of_value names callee ++ arguments names args ++ codes "->" ∷ words_of_place names place

unfoldable pub do_words : NameTexts → Intrinsic → List Value → Option Place → Texts
do_words names intrinsic args place =
    codes "do" ∷ intrinsic_word intrinsic ∷ arguments names args ++ optional_result names place
