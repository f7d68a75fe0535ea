use Rattle.std.proofs.Common.{List, ℕ, Bor}
use Rattle.std.proofs.lemmas.Simd.{map-map}
use Rattle.std.proofs.lemmas.Result.{on_ok_weaker}
use Rattle.serde.specs.Event.{Log, Logs, text}
use Rattle.serde_json.specs.Data.{string}
use Rattle.mr_report.proofs.SentLaws.{list_sent}
use Rattle.mr_report.proofs.encoding.send_texts.Goals as goal

pub returns : goal.returns
returns g c =
    let old = g.S.Serializer.written c.args.out.now in
    let new = g.S.Serializer.written c.serialize.new.out in
    on_ok_weaker c.serialize.result
    (λ h. rw map-map (list_sent (λ (s : Bor (List ℕ)) (a b : Log). Logs a b (text s.now)) (λ (s : Bor (List ℕ)). string s.now) (λ s a b sent. sent) c.args.texts.now old new h))
    c.serialize.ensures
