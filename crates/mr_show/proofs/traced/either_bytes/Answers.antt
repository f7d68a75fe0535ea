use Rattle.mr_show.proofs.Common.{inl, sym, ◌∙◌, Some, IfOk-weaker}
use Rattle.mr_show.proofs.TracedLaws.{traced, untraced}
use Rattle.mr_show.proofs.traced.either_bytes.Goals as goal

pub returns-then-holds_trace-clause-answer : goal.returns-then-holds_trace-clause-answer
returns-then-holds_trace-clause-answer g c = λ contents told.
    traced c.args.what c.args.saying (contents c.args.second.now) c.args.bytes.now _ c.placed_file.result
    (sym c.holds_trace.ensures ∙ c.if-holds_trace.true) (c.placed_file.ensures.answer contents told)

pub returns-then-holds_trace-clause-texts : goal.returns-then-holds_trace-clause-texts
returns-then-holds_trace-clause-texts g c = λ untold.
    let under = c.placed_file.ensures.texts untold in (
      under.0,
      traced c.args.what c.args.saying (Some under.0) c.args.bytes.now _ c.placed_file.result
          (sym c.holds_trace.ensures ∙ c.if-holds_trace.true) under.1,
    )

pub returns-else-holds_trace-clause-answer : goal.returns-else-holds_trace-clause-answer
returns-else-holds_trace-clause-answer g c = λ contents told.
    untraced c.args.what c.args.saying (contents c.args.second.now) c.args.bytes.now _ c.shown_text.result
    (sym c.holds_trace.ensures ∙ c.if-holds_trace.false) (c.shown_text.ensures.answer contents told)

pub returns-else-holds_trace-clause-texts : goal.returns-else-holds_trace-clause-texts
returns-else-holds_trace-clause-texts g c = λ untold.
    let under = c.shown_text.ensures.texts untold in (
      under.0,
      untraced c.args.what c.args.saying (Some under.0) c.args.bytes.now _ c.shown_text.result
          (sym c.holds_trace.ensures ∙ c.if-holds_trace.false) under.1,
    )

pub returns-else-holds_trace-clause-status : goal.returns-else-holds_trace-clause-status
returns-else-holds_trace-clause-status g c =
    IfOk-weaker c.shown_text.result _ _ (λ a h. inl h) c.shown_text.ensures.status
