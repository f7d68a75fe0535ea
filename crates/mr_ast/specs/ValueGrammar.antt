-- How places and values are written.
use Rattle.std.specs.Prelude.{ℕ, Bool, false, ◌||◌, nat_le, if◌then◌else◌, List, codes, Option, None, Some}
use Rattle.std.specs.List.{fold}
use Rattle.mr_ast.specs.Limits.{max_open}
use Rattle.mr_ast.specs.declared.types.Num.{Num}
use Rattle.mr_ast.specs.declared.expr.Place.{Place}
use Rattle.mr_ast.specs.declared.expr.Place.TheVariants as place
use Rattle.mr_ast.specs.declared.expr.Value.{Value}
use Rattle.mr_ast.specs.declared.expr.Value.TheVariants as value
use Rattle.mr_ast.specs.declared.expr.BinaryOp.{BinaryOp}
use Rattle.mr_ast.specs.declared.words.ValueWord.{ValueWord}
use Rattle.mr_ast.specs.declared.words.ValueWord.TheVariants as value_word
use Rattle.mr_ast.specs.Forms.{Word, Empty, Then, Cases, Either, Many, Within, Part}
use Rattle.mr_ast.specs.declared.words.Bracket.TheVariants.{Round, Square}
use Rattle.mr_ast.specs.declared.words.Role.TheVariants.{UsesLocal}
use Rattle.mr_ast.specs.Words.{looked_up, int_words, unary_words, binary_words, value_words, is_exposed}
use Rattle.mr_ast.specs.Writing.{Judged, ThePlace, TheType, TheValue, Writing, fine, function_use, giving, global_use}
use Rattle.mr_ast.specs.Writing.{int_form, is_word, limited_word, name_form, num_form, u64_form, within, ◌▪◌, ◌▸◌, ◌◂◌}

-- what stands behind a place and makes another of it
pub data Postfix : Type 0 where
  ByField : ℕ → Postfix
  ByIndex : Value → Postfix
  ByVariant : Num → Postfix

-- a place with a postfix behind it
abbrev pub with_postfix : Place → Postfix → Place
with_postfix p (ByField n) = place.Field p n
with_postfix p (ByIndex v) = place.Index p v
with_postfix p (ByVariant n) = place.Variant p n

-- whether a word begins a postfix
abbrev pub begins_postfix : List ℕ → Bool
begins_postfix text = is_word (codes ".") text || (is_word (codes "[") text || is_word (codes "@") text)

-- the postfix of number k on a place, of which there may be as many as brackets may be open
unfoldable pub postfix_form : ℕ → Writing Postfix
postfix_form k =
    let over = nat_le max_open k in
    Either (is_word (codes "[")) (giving ByIndex (Within over Square (Part TheValue)))
    (Either (is_word (codes ".")) (Then (λ u n. ByField n) (limited_word 7 over (codes ".")) u64_form)
    (Then (λ u n. ByVariant n) (limited_word 7 over (codes "@")) num_form))

-- a place without postfixes; its first word is one too many (8) or not
unfoldable pub deref_form : Bool → Writing Place
deref_form over =
    Then (λ u parts. place.Deref parts.0 parts.1)
    (limited_word 8 over (codes "deref")) (within Round (Part TheValue ◂ codes "," ▪ Part TheType))

-- a place without its postfixes
unfoldable pub base_form : Bool → Writing Place
base_form over =
    Either (is_word (codes "deref"))
    (deref_form over) (giving (λ n. place.Local (record { 0 = n })) (name_form over UsesLocal))

-- the postfixes of a place
unfoldable pub postfixes_form : Writing (List Postfix)
postfixes_form = Many begins_postfix postfix_form

-- a place with its postfixes
unfoldable pub place_from : Bool → Writing Place
place_from over = Then (fold with_postfix) (base_form over) postfixes_form

-- the word with which a value begins: that of an integer, of an operator, or another
abbrev pub value_word_of : List ℕ → Option ValueWord
value_word_of text = elim (looked_up int_words text) as (λ _. Option ValueWord) [
  | Some i ↦ Some (value_word.Int i)
  | None ↦ elim (looked_up unary_words text) as (λ _. Option ValueWord) [
    | Some o ↦ Some (value_word.Unary o)
    | None ↦
        elim (looked_up binary_words text) as
        (λ _. Option ValueWord) [ Some o ↦ Some (value_word.Binary o) | None ↦ looked_up value_words text ]
  ]
]

-- the casts between pointers and integers break the limit 9
unfoldable pub judged_value : Word → Judged ValueWord
judged_value w = if is_exposed w.text then Some (value_word.True, Some 9) else fine (value_word_of w.text)

-- a pointer to a global
unfoldable pub global_value_form : Writing Value
global_value_form = Then (λ g n. value.Global g n) global_use (codes "+" ▸ u64_form)

-- values behind one another, each behind a comma
unfoldable pub more_values_form : Writing (List Value)
more_values_form = Many (is_word (codes ",")) (λ k. codes "," ▸ Part TheValue)

-- a tuple or an array
unfoldable pub tuple_value_form : Writing Value
tuple_value_form = giving (λ parts. value.Tuple parts.0 parts.1) (within Round (Part TheType ▪ more_values_form))

-- a union
unfoldable pub union_value_form : Writing Value
union_value_form =
    giving (λ parts. value.Union parts.0 parts.1.0 parts.1.1)
    (within Round (Part TheType ◂ codes "," ▪ u64_form ◂ codes "," ▪ Part TheValue))

-- a variant
unfoldable pub variant_value_form : Writing Value
variant_value_form =
    giving (λ parts. value.Variant parts.0 parts.1.0 parts.1.1)
    (within Round (Part TheType ◂ codes "," ▪ num_form ◂ codes "," ▪ Part TheValue))

-- the address of a place
unfoldable pub addr_of_form : Writing Value
addr_of_form =
    giving (λ parts. value.AddrOf parts.0 parts.1) (within Round (Part TheType ◂ codes "," ▪ Part (ThePlace false)))

-- a cast
unfoldable pub cast_form : Writing Value
cast_form = giving (λ parts. value.Cast parts.0 parts.1) (within Round (int_form ◂ codes "," ▪ Part TheValue))

-- a transmute
unfoldable pub transmute_form : Writing Value
transmute_form =
    giving (λ parts. value.Transmute parts.0 parts.1) (within Round (Part TheType ◂ codes "," ▪ Part TheValue))

-- an operator with two operands
unfoldable pub binary_form : BinaryOp → Writing Value
binary_form o =
    giving (λ parts. value.Binary o parts.0 parts.1) (within Round (Part TheValue ◂ codes "," ▪ Part TheValue))

-- what stands behind the word of a value
abbrev pub value_behind : ValueWord → Writing Value
value_behind (value_word.Int i) = giving (value.Int i) num_form
value_behind value_word.True = Empty value.True
value_behind value_word.False = Empty value.False
value_behind value_word.Raw = giving value.Raw u64_form
value_behind value_word.Fn = giving value.Fn function_use
value_behind value_word.Global = global_value_form
value_behind value_word.Tuple = tuple_value_form
value_behind value_word.Union = union_value_form
value_behind value_word.Variant = variant_value_form
value_behind value_word.Load = giving value.Load (within Round (Part (ThePlace false)))
value_behind value_word.Disc = giving value.Disc (within Round (Part (ThePlace false)))
value_behind value_word.AddrOf = addr_of_form
value_behind value_word.Cast = cast_form
value_behind value_word.Transmute = transmute_form
value_behind (value_word.Unary o) = giving (value.Unary o) (within Round (Part TheValue))
value_behind (value_word.Binary o) = binary_form o

-- a value
unfoldable pub value_form : Writing Value
value_form = Cases (λ scope. judged_value) value_behind
