use Rattle.mr_runs.proofs.Common.{◌∙◌, ◌-◌, drop, length, get_or, sym, arith, get_or_default, stamped, stamped_piece}
use Rattle.mr_runs.proofs.FindLaws.{byte_of_holder}
use Rattle.mr_runs.proofs.StampLaws.{holds_stamped, stamped_tiled}
use Rattle.mr_runs.proofs.ViewLaws.{byte_stamped_init, byte_stamped_uninit}
use Rattle.mr_runs.proofs.views.byte_of_marks.Goals as goal

pub returns-in-Uninit : goal.returns-in-Uninit
returns-in-Uninit c =
    let es = c.args.marks.now.entries in
    let ns = c.args.numbers.now in
    let begin = c.run_at.result.0 in
    let p = c.run_at.result.1.now in
    let h = c.run_at.ensures in
    byte_of_holder (stamped ns es) c.args.at begin (stamped_piece (drop begin ns) p) _ (stamped_tiled es ns (length ns) c.requires.sound) (holds_stamped es ns (length ns) c.args.at begin p c.requires.sound h)
    (byte_stamped_uninit p (drop begin ns) (c.args.at - begin) (sym c.mark.ensures ∙ c.in-Uninit.is) (let from = h.from in let to = h.to in omega (arith, from, to)))

pub returns-in-Init : goal.returns-in-Init
returns-in-Init c =
    let es = c.args.marks.now.entries in
    let ns = c.args.numbers.now in
    let begin = c.run_at.result.0 in
    let p = c.run_at.result.1.now in
    let h = c.run_at.ensures in
    let n = get_or ns c.args.at 0 in
    let from = h.from in
    let to = h.to in
    byte_of_holder (stamped ns es) c.args.at begin (stamped_piece (drop begin ns) p) _ (stamped_tiled es ns (length ns) c.requires.sound) (holds_stamped es ns (length ns) c.args.at begin p c.requires.sound h)
    (byte_stamped_init p ns begin c.args.at c.in-Init.provenance n (sym c.mark.ensures ∙ c.in-Init.is) from to c.requires.inside (get_or_default ns c.args.at 0 n c.requires.inside))
