use Rattle.mr_parse.proofs.Common.{◌≡◌, ◌+◌, ◌-◌, ◌*◌, codes, Part, TheValue, ◌▸◌, is_word, with_all, read, read_outside, many_at}
use Rattle.mr_ast.specs.ValueGrammar.{begins_postfix, more_values_form, postfix_form, postfixes_form}
use Rattle.mr_parse.proofs.Walk.LoopLaws.{with_front}
use Rattle.mr_parse.proofs.reader.Reader.+values.Given as goal

abbrev pub decreases-value : goal.decreases-value
decreases-value l = 8 * l.room + 4

abbrev pub decreases-bracketed : goal.decreases-bracketed
decreases-bracketed l = 8 * l.room + 3

abbrev pub decreases-value_inside : goal.decreases-value_inside
decreases-value_inside l = 8 * l.room + 9

abbrev pub decreases-binary_inside : goal.decreases-binary_inside
decreases-binary_inside l = 8 * l.room + 7

abbrev pub decreases-value_and_comma : goal.decreases-value_and_comma
decreases-value_and_comma l = 8 * l.room + 6

abbrev pub decreases-typed_inside : goal.decreases-typed_inside
decreases-typed_inside l = 8 * l.room + 8

abbrev pub decreases-tuple_inside : goal.decreases-tuple_inside
decreases-tuple_inside l = 8 * l.room + 7

abbrev pub decreases-address_inside : goal.decreases-address_inside
decreases-address_inside l = 8 * l.room + 7

abbrev pub decreases-transmuted_inside : goal.decreases-transmuted_inside
decreases-transmuted_inside l = 8 * l.room + 7

abbrev pub decreases-union_inside : goal.decreases-union_inside
decreases-union_inside l = 8 * l.room + 7

abbrev pub decreases-variant_inside : goal.decreases-variant_inside
decreases-variant_inside l = 8 * l.room + 7

abbrev pub decreases-field_and_value : goal.decreases-field_and_value
decreases-field_and_value l = 8 * l.room + 6

abbrev pub decreases-number_and_value : goal.decreases-number_and_value
decreases-number_and_value l = 8 * l.room + 6

abbrev pub decreases-boxed_value : goal.decreases-boxed_value
decreases-boxed_value l = 8 * l.room + 5

abbrev pub decreases-more_values : goal.decreases-more_values
decreases-more_values l = 8 * l.room + 5

abbrev pub decreases-place : goal.decreases-place
decreases-place l = 8 * l.room + 3

abbrev pub decreases-base : goal.decreases-base
decreases-base l = 8 * l.room + 2

abbrev pub decreases-deref : goal.decreases-deref
decreases-deref l = 8 * l.room + 1

abbrev pub decreases-target_of_pointer : goal.decreases-target_of_pointer
decreases-target_of_pointer l = 8 * l.room + 6

abbrev pub decreases-postfixes : goal.decreases-postfixes
decreases-postfixes l = 8 * l.room + 2

abbrev pub decreases-postfix : goal.decreases-postfix
decreases-postfix l = 8 * l.room + 1

abbrev pub invariant-more_values-loop : goal.invariant-more_values-loop
invariant-more_values-loop l =
    with_front l.values (many_at (λ k. read l.room l.scope (codes "," ▸ Part TheValue)) (is_word (codes ",")) (l.most - l.counter) l.counter l.self)
    ≡ read l.room l.scope more_values_form l.fn.self

abbrev pub invariant-postfixes-loop-k : goal.invariant-postfixes-loop-k
invariant-postfixes-loop-k l =
    with_all l.place (many_at (λ k. read_outside l.room l.scope (postfix_form k)) begins_postfix (l.most - l.k) l.k l.self)
    ≡ with_all l.fn.place (read_outside l.room l.scope postfixes_form l.fn.self)
