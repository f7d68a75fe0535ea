use Rattle.mr_runs.proofs.Common.{◌≡◌, ◌+◌, ◌++◌, length, take, refl, arith, length-append, length-take, bytes_in}
use Rattle.mr_runs.proofs.ExchangeLaws.{on_ok_both, ready_row, replaced}
use Rattle.mr_runs.proofs.PlacedLaws.{length-bytes_in}
use Rattle.mr_runs.proofs.RowLaws.{begun_room}
use Rattle.mr_runs.proofs.replace.write_each.Goals as goal

pub push_each-requires-clause-room : goal.push_each-requires-clause-room
push_each-requires-clause-room c =
    let es = c.args.runs.now.entries in
    begun_room es c.in_ok-row.row.items (take c.args.from (bytes_in es)) c.args.from c.in_ok-row.ensures (omega (arith, length-take c.args.from (bytes_in es)))

pub close-requires-clause-room : goal.close-requires-clause-room
close-requires-clause-room c =
    let es = c.args.runs.now.entries in
    let from = c.args.from in
    let bytes = c.args.bytes.now in
    let front_len : length (take from (bytes_in es)) ≡ from = omega (arith, length-take from (bytes_in es), length-bytes_in es, c.requires.inside, c.requires.whole) in
    let begun = c.in_ok-push_each.ensures es (take from (bytes_in es)) c.in_ok-row.ensures front_len in
    begun_room es c.push_each.new.row.items (take from (bytes_in es) ++ bytes) (from + length bytes) begun (omega (arith, front_len, length-append (take from (bytes_in es)) bytes))

pub exchange-requires-clause-row : goal.exchange-requires-clause-row
exchange-requires-clause-row c =
    let es = c.args.runs.now.entries in
    let from = c.args.from in
    let bytes = c.args.bytes.now in
    let front_len : length (take from (bytes_in es)) ≡ from = omega (arith, length-take from (bytes_in es), length-bytes_in es, c.requires.inside, c.requires.whole) in
    let begun = c.in_ok-push_each.ensures es (take from (bytes_in es)) c.in_ok-row.ensures front_len in
    ready_row es c.push_each.new.row.items c.close.new.row.items from (from + length bytes) c.in_ok-end.end bytes c.requires.tiled begun
    refl (omega (arith, c.requires.inside, c.requires.whole)) c.in_ok-end.ensures

pub returns-clause-ok : goal.returns-clause-ok
returns-clause-ok c =
    let es = c.args.runs.now.entries in
    let from = c.args.from in
    let bytes = c.args.bytes.now in
    let front_len : length (take from (bytes_in es)) ≡ from = omega (arith, length-take from (bytes_in es), length-bytes_in es, c.requires.inside, c.requires.whole) in
    let begun = c.in_ok-push_each.ensures es (take from (bytes_in es)) c.in_ok-row.ensures front_len in
    on_ok_both c.exchange.result
    (λ exchanged order. replaced es c.push_each.new.row.items c.close.new.row.items from (from + length bytes) c.in_ok-end.end bytes c.requires.tiled begun
    refl (omega (arith, c.requires.inside, c.requires.whole)) c.in_ok-end.ensures c.exchange.new.runs.entries exchanged order)
    c.exchange.ensures.ok c.exchange.ensures.ordered
