use Rattle.mr_places.proofs.Common.{◌<◌, arith, ap, sym, ◌∙◌, bytes_eq, length, option_map}
use Rattle.mr_lex.specs.Tokens.{lexeme_of}
use Rattle.mr_places.proofs.LaidLaws.{end_step, other_step, none_past}
use Rattle.mr_places.proofs.ends.ends_in.Goals as goal
use Rattle.mr_places.proofs.ends.ends_in.Goals.{in-Some+then-eq+in_ok-push, in-Some+else-eq, in_default}

pub loop-i-preserved : goal.loop-i-preserved
loop-i-preserved c = elim c.match-get.branch [
  | in-Some+then-eq+in_ok-push w ↦
      ap (λ v. v.items) w.ends-is
      ∙ end_step c.args.tokens.now c.loop-i.i (lexeme_of w.in-Some.token) c.loop-i.ends.items _ (sym c.get.ensures ∙ ap (option_map lexeme_of) w.in-Some.is) c.loop-i.invariant
      (sym (ap (bytes_eq w.in-Some.token.text.now) w.as_slice.ensures) ∙ sym w.eq.ensures ∙ w.if-eq.true) w.in_ok-push.ensures.items
  | in-Some+else-eq w ↦
      ap (λ v. v.items) w.ends-is
      ∙ other_step c.args.tokens.now c.loop-i.i (lexeme_of w.in-Some.token) c.loop-i.ends.items (sym c.get.ensures ∙ ap (option_map lexeme_of) w.in-Some.is) c.loop-i.invariant
      (sym (ap (bytes_eq w.in-Some.token.text.now) w.as_slice.ensures) ∙ sym w.eq.ensures ∙ w.if-eq.false)
  | in_default w ↦
      let less : c.loop-i.i < length c.args.tokens.now = omega (arith, c.loop-i-test.true, c.len-i-end.ensures) in
      absurd (none_past c.args.tokens.now c.loop-i.i (sym c.get.ensures ∙ ap (option_map lexeme_of) w.in_default.is) less)
]
