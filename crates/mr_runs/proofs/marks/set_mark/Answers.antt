use Rattle.mr_runs.proofs.Common.{◌≡◌, ◌∙◌, ◌+◌, length, take, sym, ap, arith, length-take, marked_piece, bytes_of_piece, piece_len, bytes_in}
use Rattle.mr_runs.proofs.ExchangeLaws.{on_ok_both, ready_row, replaced}
use Rattle.mr_runs.proofs.PlacedLaws.{length-bytes_in, length-bytes_of_piece}
use Rattle.mr_runs.proofs.RowLaws.{begun_push, begun_room, total_pushed}
use Rattle.mr_runs.proofs.StampLaws.{piece_len-marked}
use Rattle.mr_runs.proofs.marks.set_mark.Goals as goal

pub push_mark-requires-clause-room : goal.push_mark-requires-clause-room
push_mark-requires-clause-room c =
    let es = c.args.marks.now.entries in
    begun_room es c.in_ok-row.row.items (take c.args.from (bytes_in es)) c.args.from c.in_ok-row.ensures (omega (arith, length-take c.args.from (bytes_in es)))

pub close_at-requires-clause-room : goal.close_at-requires-clause-room
close_at-requires-clause-room c =
    let es = c.args.marks.now.entries in
    let p = marked_piece c.args.count c.args.mark in
    let room = begun_room es c.in_ok-row.row.items (take c.args.from (bytes_in es)) c.args.from c.in_ok-row.ensures (omega (arith, length-take c.args.from (bytes_in es))) in
    omega (arith, room, total_pushed c.in_ok-row.row.items c.args.from p c.push_mark.new.row.items c.in_ok-push_mark.ensures, piece_len-marked c.args.count c.args.mark)

pub exchange-requires-clause-row : goal.exchange-requires-clause-row
exchange-requires-clause-row c =
    let es = c.args.marks.now.entries in
    let from = c.args.from in
    let p = marked_piece c.args.count c.args.mark in
    let count : piece_len p ≡ c.args.count = piece_len-marked c.args.count c.args.mark in
    let front_len : length (take from (bytes_in es)) ≡ from = omega (arith, length-take from (bytes_in es), length-bytes_in es, c.requires.inside, c.requires.whole) in
    let begun = begun_push es c.in_ok-row.row.items (take from (bytes_in es)) from p c.push_mark.new.row.items c.in_ok-row.ensures c.in_ok-push_mark.ensures front_len (omega (arith, count, c.requires.some)) in
    ready_row es c.push_mark.new.row.items c.close_at.new.row.items from (from + c.args.count) c.in_ok-end.end (bytes_of_piece p) c.requires.tiled begun
    (ap (λ n. from + n) (sym count ∙ sym (length-bytes_of_piece p))) (omega (arith, c.requires.inside, c.requires.whole)) c.in_ok-end.ensures

pub returns-clause-ok : goal.returns-clause-ok
returns-clause-ok c =
    let es = c.args.marks.now.entries in
    let from = c.args.from in
    let p = marked_piece c.args.count c.args.mark in
    let count : piece_len p ≡ c.args.count = piece_len-marked c.args.count c.args.mark in
    let front_len : length (take from (bytes_in es)) ≡ from = omega (arith, length-take from (bytes_in es), length-bytes_in es, c.requires.inside, c.requires.whole) in
    let begun = begun_push es c.in_ok-row.row.items (take from (bytes_in es)) from p c.push_mark.new.row.items c.in_ok-row.ensures c.in_ok-push_mark.ensures front_len (omega (arith, count, c.requires.some)) in
    on_ok_both c.exchange.result
    (λ exchanged order. replaced es c.push_mark.new.row.items c.close_at.new.row.items from (from + c.args.count) c.in_ok-end.end (bytes_of_piece p) c.requires.tiled begun
    (ap (λ n. from + n) (sym count ∙ sym (length-bytes_of_piece p))) (omega (arith, c.requires.inside, c.requires.whole)) c.in_ok-end.ensures c.exchange.new.runs.entries exchanged order)
    c.exchange.ensures.ok c.exchange.ensures.ordered
