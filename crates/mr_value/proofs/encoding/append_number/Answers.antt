use Rattle.mr_value.proofs.Common.{◌≡◌, ◌-◌, ◌%◌, ◌++◌, ◌∷◌, [], sym, ap, ◌∙◌, arith, Init, with_provenance, little_endian}
use Rattle.mr_value.proofs.EncodeSteps.{begins_with_itself, begins_with_more, number_next, number_end, on_err}
use Rattle.mr_value.proofs.encoding.append_number.Goals as goal

pub loop-i-init : goal.loop-i-init
loop-i-init c =
    let same : c.args.count ≡ c.args.count - 0 = omega arith in
    record {
      all = ap (λ n. c.args.out.now.items ++ with_provenance c.args.provenance (little_endian n c.args.number)) same;
      front = begins_with_itself c.args.out.now.items;
    }

pub loop-i-preserved : goal.loop-i-preserved
loop-i-preserved c =
    let l = c.loop-i in
    record {
      all = l.invariant.all ∙ number_next c.args.provenance c.args.count l._i l.rest l.out.items c.push.new.self.items c.loop-i-test.true c.in_ok-push.ensures.items;
      front = begins_with_more l.out.items c.args.out.now.items (Init (l.rest % 256) c.args.provenance ∷ []) c.push.new.self.items c.in_ok-push.ensures.items l.invariant.front;
    }

pub returns-in_err-push-clause-err : goal.returns-in_err-push-clause-err
returns-in_err-push-clause-err c =
    on_err c.from_residual.result c.from_residual.ensures.0
    (c.loop-i.invariant.front.0, c.in_err-push.ensures.items ∙ c.loop-i.invariant.front.1)

pub returns-clause-ok : goal.returns-clause-ok
returns-clause-ok c =
    sym (c.loop-i.invariant.all ∙ number_end c.args.provenance c.args.count c.loop-i._i c.loop-i.rest c.loop-i.out.items c.loop-i-test.false)
