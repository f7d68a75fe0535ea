use Rattle.std.proofs.Common.{ℕ, List, Bor, map, subst}
use Rattle.std.proofs.lemmas.Result.{on_ok_weaker}
use Rattle.serde_json.specs.Events.{SendsValue}
use Rattle.mr_report.specs.Sent.{races_data, texts_data}
use Rattle.mr_report.proofs.encoding.ToldSerialize.serialize.Goals as goal

pub returns : goal.returns
returns g c =
    let written = g.S.Serializer.written in
    let texts =
    subst (λ (t : List (Bor (List ℕ))). SendsValue (texts_data (map (λ s. s.now) t)) (written c.key.new.self) (written c.send_texts.new.out)) c.as_slice.ensures.value c.in_ok-send_texts.ensures in
    let races =
    subst (λ (p : List (ℕ × ℕ)). SendsValue (races_data p) (written c.key-2.new.self) (written c.send_races.new.out)) c.as_slice-2.ensures.value c.in_ok-send_races.ensures in
    on_ok_weaker c.end_map.result
    (λ end. (
      written c.begin_map.new.self,
      c.in_ok-begin_map.ensures,
      (
        written c.key.new.self,
        written c.send_texts.new.out,
        c.in_ok-key.ensures,
        texts,
        (
          written c.key-2.new.self,
          written c.send_races.new.out,
          c.in_ok-key-2.ensures,
          races,
          (
            written c.key-3.new.self,
            written c.serialize.new.out,
            c.in_ok-key-3.ensures,
            c.in_ok-serialize.ensures,
            (written c.key-4.new.self, written c.send_witness.new.out, c.in_ok-key-4.ensures, c.in_ok-send_witness.ensures, end),
          ),
        ),
      ),
    ))
    c.end_map.ensures
