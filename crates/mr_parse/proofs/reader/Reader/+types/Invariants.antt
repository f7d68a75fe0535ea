use Rattle.mr_parse.proofs.Common.{◌≡◌, ◌+◌, ◌-◌, ◌*◌, codes, ◌▸◌, is_word, field_form, fields_form, variant_form, variants_form, read, many_at}
use Rattle.mr_parse.proofs.Walk.LoopLaws.{with_front}
use Rattle.mr_parse.proofs.reader.Reader.+types.Given as goal

abbrev pub decreases-ty : goal.decreases-ty
decreases-ty l = 6 * l.room + 2

abbrev pub decreases-array : goal.decreases-array
decreases-array l = 6 * l.room + 1

abbrev pub decreases-tuple_type : goal.decreases-tuple_type
decreases-tuple_type l = 6 * l.room + 1

abbrev pub decreases-union_type : goal.decreases-union_type
decreases-union_type l = 6 * l.room + 1

abbrev pub decreases-enumeration : goal.decreases-enumeration
decreases-enumeration l = 6 * l.room + 1

abbrev pub decreases-fields : goal.decreases-fields
decreases-fields l = 6 * l.room

abbrev pub decreases-variants : goal.decreases-variants
decreases-variants l = 6 * l.room

abbrev pub decreases-some_fields : goal.decreases-some_fields
decreases-some_fields l = 6 * l.room + 5

abbrev pub decreases-some_variants : goal.decreases-some_variants
decreases-some_variants l = 6 * l.room + 5

abbrev pub decreases-field : goal.decreases-field
decreases-field l = 6 * l.room + 4

abbrev pub decreases-variant : goal.decreases-variant
decreases-variant l = 6 * l.room + 4

abbrev pub decreases-variant_head : goal.decreases-variant_head
decreases-variant_head l = 6 * l.room + 3

abbrev pub invariant-some_fields-loop : goal.invariant-some_fields-loop
invariant-some_fields-loop l =
    with_front l.fields (many_at (λ k. read l.room l.scope (codes "," ▸ field_form)) (is_word (codes ",")) (l.most - l.counter) l.counter l.self)
    ≡ read l.room l.scope fields_form l.fn.self

abbrev pub invariant-some_variants-loop : goal.invariant-some_variants-loop
invariant-some_variants-loop l =
    with_front l.variants (many_at (λ k. read l.room l.scope (codes "," ▸ variant_form)) (is_word (codes ",")) (l.most - l.counter) l.counter l.self)
    ≡ read l.room l.scope variants_form l.fn.self
