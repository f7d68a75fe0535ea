-- What stands in the brackets of a value.
use Rattle.std.specs.Prelude.{Bool, true, false, codes}
use Rattle.mr_ast.specs.declared.expr.Value.{Value}
use Rattle.mr_ast.specs.declared.expr.Value.TheVariants as value
use Rattle.mr_ast.specs.declared.words.ValueWord.{ValueWord}
use Rattle.mr_ast.specs.declared.words.ValueWord.TheVariants as value_word
use Rattle.mr_ast.specs.Forms.{Empty, Part}
use Rattle.mr_ast.specs.Writing.{ThePlace, TheType, TheValue, Writing, giving, int_form, num_form, u64_form, ◌▪◌, ◌◂◌}
use Rattle.mr_ast.specs.ValueGrammar.{more_values_form}

-- whether brackets stand behind the first word of a value
abbrev pub is_bracketed : ValueWord → Bool
is_bracketed (value_word.Int i) = false
is_bracketed value_word.True = false
is_bracketed value_word.False = false
is_bracketed value_word.Raw = false
is_bracketed value_word.Fn = false
is_bracketed value_word.Global = false
is_bracketed value_word.Tuple = true
is_bracketed value_word.Union = true
is_bracketed value_word.Variant = true
is_bracketed value_word.Load = true
is_bracketed value_word.Disc = true
is_bracketed value_word.AddrOf = true
is_bracketed value_word.Cast = true
is_bracketed value_word.Transmute = true
is_bracketed (value_word.Unary o) = true
is_bracketed (value_word.Binary o) = true

-- the value, from what stands in the brackets
abbrev pub value_inside : ValueWord → Writing Value
value_inside (value_word.Int i) = Empty value.True
value_inside value_word.True = Empty value.True
value_inside value_word.False = Empty value.True
value_inside value_word.Raw = Empty value.True
value_inside value_word.Fn = Empty value.True
value_inside value_word.Global = Empty value.True
value_inside value_word.Tuple = giving (λ parts. value.Tuple parts.0 parts.1) (Part TheType ▪ more_values_form)
value_inside value_word.Union =
    giving (λ parts. value.Union parts.0 parts.1.0 parts.1.1)
    (Part TheType ◂ codes "," ▪ u64_form ◂ codes "," ▪ Part TheValue)
value_inside value_word.Variant =
    giving (λ parts. value.Variant parts.0 parts.1.0 parts.1.1)
    (Part TheType ◂ codes "," ▪ num_form ◂ codes "," ▪ Part TheValue)
value_inside value_word.Load = giving value.Load (Part (ThePlace false))
value_inside value_word.Disc = giving value.Disc (Part (ThePlace false))
value_inside value_word.AddrOf =
    giving (λ parts. value.AddrOf parts.0 parts.1) (Part TheType ◂ codes "," ▪ Part (ThePlace false))
value_inside value_word.Cast = giving (λ parts. value.Cast parts.0 parts.1) (int_form ◂ codes "," ▪ Part TheValue)
value_inside value_word.Transmute =
    giving (λ parts. value.Transmute parts.0 parts.1) (Part TheType ◂ codes "," ▪ Part TheValue)
value_inside (value_word.Unary o) = giving (value.Unary o) (Part TheValue)
value_inside (value_word.Binary o) =
    giving (λ parts. value.Binary o parts.0 parts.1) (Part TheValue ◂ codes "," ▪ Part TheValue)

-- whether a type stands first in the brackets
abbrev pub begins_with_type : ValueWord → Bool
begins_with_type value_word.Tuple = true
begins_with_type value_word.Union = true
begins_with_type value_word.Variant = true
begins_with_type value_word.AddrOf = true
begins_with_type value_word.Transmute = true
begins_with_type _ = false
