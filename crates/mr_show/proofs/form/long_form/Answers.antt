use Rattle.mr_show.proofs.Common.{arith, map, sym}
use Rattle.std.proofs.lemmas.List.{length-map}
use Rattle.std.specs.Prelude.{string_bytes}
use Rattle.mr_show.proofs.FormLaws.{long_none}
use Rattle.mr_show.proofs.form.long_form.Goals as goal

pub returns-in-len3-up : goal.returns-in-len3-up
returns-in-len3-up c =
    sym (long_none c.args.word.now c.args.program.now c.args.third.now c.args.fourth.now c.args.fifth.now
    (map string_bytes c.args.rest.now)
    (omega (arith, c.in-len3-up.len_at_least, length-map c.args.rest.now string_bytes)))
