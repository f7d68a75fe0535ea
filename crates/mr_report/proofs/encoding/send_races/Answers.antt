use Rattle.std.proofs.lemmas.Result.{on_ok_weaker}
use Rattle.mr_report.specs.Sent.{places_data}
use Rattle.mr_report.proofs.SentLaws.{list_sent, places_sent}
use Rattle.mr_report.proofs.encoding.send_races.Goals as goal

pub returns : goal.returns
returns g c =
    let old = g.S.Serializer.written c.args.out.now in
    let new = g.S.Serializer.written c.serialize.new.out in
    on_ok_weaker c.serialize.result (list_sent _ places_data places_sent c.args.races.now old new) c.serialize.ensures
