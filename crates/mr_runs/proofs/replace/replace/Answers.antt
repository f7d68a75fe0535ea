use Rattle.mr_runs.proofs.Common.{◌≡◌, ◌∙◌, ◌+◌, length, take, sym, ap, arith, length-take, bytes_of_piece, bytes_in, seen_piece}
use Rattle.mr_runs.proofs.ExchangeLaws.{on_ok_both, ready_row, replaced}
use Rattle.mr_runs.proofs.PlacedLaws.{length-bytes_in, length-bytes_of_piece}
use Rattle.mr_runs.proofs.RowLaws.{begun_push, begun_room, total_pushed}
use Rattle.mr_runs.proofs.replace.replace.Goals as goal

pub push-requires-clause-room : goal.push-requires-clause-room
push-requires-clause-room c =
    let es = c.args.runs.now.entries in
    begun_room es c.in_ok-row.row.items (take c.args.from (bytes_in es)) c.args.from c.in_ok-row.ensures (omega (arith, length-take c.args.from (bytes_in es)))

pub close-requires-clause-room : goal.close-requires-clause-room
close-requires-clause-room c =
    let es = c.args.runs.now.entries in
    let room = begun_room es c.in_ok-row.row.items (take c.args.from (bytes_in es)) c.args.from c.in_ok-row.ensures (omega (arith, length-take c.args.from (bytes_in es))) in
    omega (arith, room, total_pushed c.in_ok-row.row.items c.args.from (seen_piece c.args.piece) c.push.new.row.items c.in_ok-push.ensures, c.len.ensures)

pub exchange-requires-clause-row : goal.exchange-requires-clause-row
exchange-requires-clause-row c =
    let es = c.args.runs.now.entries in
    let from = c.args.from in
    let p = seen_piece c.args.piece in
    let front_len : length (take from (bytes_in es)) ≡ from = omega (arith, length-take from (bytes_in es), length-bytes_in es, c.requires.inside, c.requires.whole) in
    let begun = begun_push es c.in_ok-row.row.items (take from (bytes_in es)) from p c.push.new.row.items c.in_ok-row.ensures c.in_ok-push.ensures front_len c.requires.some in
    ready_row es c.push.new.row.items c.close.new.row.items from (from + c.len.result) c.in_ok-end.end (bytes_of_piece p) c.requires.tiled begun
    (ap (λ n. from + n) (c.len.ensures ∙ sym (length-bytes_of_piece p))) (omega (arith, c.requires.inside, c.requires.whole, c.len.ensures)) c.in_ok-end.ensures

pub returns-clause-ok : goal.returns-clause-ok
returns-clause-ok c =
    let es = c.args.runs.now.entries in
    let from = c.args.from in
    let p = seen_piece c.args.piece in
    let front_len : length (take from (bytes_in es)) ≡ from = omega (arith, length-take from (bytes_in es), length-bytes_in es, c.requires.inside, c.requires.whole) in
    let begun = begun_push es c.in_ok-row.row.items (take from (bytes_in es)) from p c.push.new.row.items c.in_ok-row.ensures c.in_ok-push.ensures front_len c.requires.some in
    on_ok_both c.exchange.result
    (λ exchanged order. replaced es c.push.new.row.items c.close.new.row.items from (from + c.len.result) c.in_ok-end.end (bytes_of_piece p) c.requires.tiled begun
    (ap (λ n. from + n) (c.len.ensures ∙ sym (length-bytes_of_piece p))) (omega (arith, c.requires.inside, c.requires.whole, c.len.ensures)) c.in_ok-end.ensures c.exchange.new.runs.entries exchanged order)
    c.exchange.ensures.ok c.exchange.ensures.ordered
