-- A place and the postfixes that are read behind it.
use Rattle.std.specs.Prelude.{List, Result, Ok}
use Rattle.std.specs.List.{fold}
use Rattle.mr_ast.specs.declared.expr.Place.{Place}
use Rattle.mr_ast.specs.declared.expr.Value.{Value}
use Rattle.mr_ast.specs.declared.words.Bracket.TheVariants.{Square}
use Rattle.mr_ast.specs.Forms.{Word, closing}
use Rattle.mr_ast.specs.ValueGrammar.{Postfix, ByField, ByIndex, ByVariant, with_postfix}
use Rattle.mr_parse.specs.declared.values.Postfix.{Postfix as Written}
use Rattle.mr_parse.specs.declared.values.Postfix.TheVariants as written
use Rattle.mr_words.specs.declared.fault.Stop.{Stop}
use Rattle.mr_grammar.specs.Reading.{◌>>=◌, expected}

-- what a postfix is, however it is kept
abbrev pub postfix_of : Written → Postfix
postfix_of (written.Field n) = ByField n
postfix_of (written.Index v) = ByIndex v
postfix_of (written.Variant n) = ByVariant n

-- the place with all postfixes
abbrev pub with_all : Place → Result (List Postfix × List Word) Stop → Result (Place × List Word) Stop
with_all place read = read >>= λ xs. Ok (fold with_postfix place xs.0, xs.1)

-- the postfix of an index whose bracket is closed behind it
abbrev pub indexed : Value → List Word → Result (Postfix × List Word) Stop
indexed index words = expected (closing Square) words >>= λ rest. Ok (ByIndex index, rest)
