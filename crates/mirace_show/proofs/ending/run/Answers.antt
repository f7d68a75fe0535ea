use Rattle.std.specs.Prelude.{map, string_bytes}
use Rattle.mr_show.proofs.InputEndingLaws.{ended_so}
use Rattle.mirace_show.proofs.ending.run.Goals as goal

pub returns : goal.returns
returns g c =
    ended_so _ _ _ _ _ (λ words. map string_bytes words.items) c.words_of.result c.words_of.ensures.told c.words_of.ensures.cause c.ended.ensures.done
    c.ended.ensures.memory c.ended.ensures.no_words c.ended.ensures.untouched
