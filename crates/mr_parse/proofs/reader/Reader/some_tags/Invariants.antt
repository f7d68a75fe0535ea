use Rattle.mr_parse.proofs.Common.{◌≡◌, ◌-◌, codes, ◌▸◌, is_word, tag_form, tags_form, read, many_at}
use Rattle.mr_parse.proofs.Walk.LoopLaws.{with_front}
use Rattle.mr_parse.proofs.reader.Reader.some_tags.Given as goal

abbrev pub invariant-loop : goal.invariant-loop
invariant-loop l =
    with_front l.tags (many_at (λ k. read l.room l.scope (codes "," ▸ tag_form)) (is_word (codes ",")) (l.most - l.counter) l.counter l.self)
    ≡ read l.room l.scope tags_form l.fn.self
