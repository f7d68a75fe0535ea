use Rattle.mr_rust_order.proofs.Common.{◌≡◌, ◌+◌, List, ℕ, ap, sym, ◌∙◌, subst, arith, Footprint, thread_at, AreSent, clock_at, to_joiners, to_lock, to_thread, IsRaised, AreMemos, Row, AreNoted, AreRows}
use Rattle.mr_rust_order.proofs.ChannelLaws.{channels_more, sent_own, thread_clock}
use Rattle.mr_rust_order.proofs.ClockLaws.{clock_behind, raise_raised, raised_on}
use Rattle.mr_rust_order.proofs.MemoLaws.{memos_kept}
use Rattle.mr_rust_order.proofs.PartnerLaws.{partner_is_race}
use Rattle.mr_rust_order.proofs.RowLaws.{rows_more}
use Rattle.mr_rust_order.proofs.StepLaws.{rows_short}
use Rattle.mr_rust_order.proofs.analysis.Analysis.add.Goals as goal

pub receive_all-requires-clause-own : goal.receive_all-requires-clause-own
receive_all-requires-clause-own c =
    thread_clock c.args.run.now c.args.j c.thread-thread.result c.args.self.now.threads.items c.in_ok-clock.clock c.requires.tracks.threads
    (c.thread-thread.ensures ∙ ap (λ (f : Footprint). f.thread) c.step_of-step.ensures) c.in_ok-clock.ensures.clock

pub partner_of-requires-clause-short : goal.partner_of-requires-clause-short
partner_of-requires-clause-short c =
    rows_short c.args.run.now c.args.j _ (subst (AreRows c.args.run.now c.args.j) (sym c.as_slice-4.ensures.value) c.requires.tracks.rows) (omega arith)

pub returns-clause-race : goal.returns-clause-race
returns-clause-race c =
    partner_is_race c.args.run.now c.args.j c.as_slice-4.result.now c.receive_all.new.clock c.step_of-step.result.now c.in_ok-race.race
    (subst (AreRows c.args.run.now c.args.j) (sym c.as_slice-4.ensures.value) c.requires.tracks.rows) c.in_ok-receive_all.ensures.before c.step_of-step.ensures c.in_ok-race.ensures.partner

pub returns-clause-tracks : goal.returns-clause-tracks
returns-clause-tracks c =
    let run = c.args.run.now in
    let j = c.args.j in
    let old = c.args.self.now in
    let tracks = c.requires.tracks in
    let f = c.step_of-step.result.now in
    let at = c.step_of-step.ensures in
    let t = c.thread-thread.result in
    let of : t ≡ thread_at run j = c.thread-thread.ensures ∙ ap (λ (g : Footprint). g.thread) at in
    let before = c.receive_all.new.clock in
    let clock = c.raise.new.self in
    let raise = c.in_ok-raise.ensures in
    let behind = clock_behind run before clock j t of c.in_ok-receive_all.ensures.before raise.own raise.others in
    let threads = c.put_back.new.clocks.items in
    let raised : IsRaised (clock_at old.threads.items t) clock =
    raised_on (clock_at old.threads.items t) before clock (subst (λ (l : List ℕ). IsRaised l before) c.in_ok-clock.ensures.clock c.in_ok-receive_all.ensures.raised)
    (raise_raised before clock t (j + 1) raise.own raise.others) in
    let to_threads =
    sent_own old.threads.items c.take_out.new.clocks.items c.send_threads.new.threads.items threads clock f t c.thread-thread.ensures c.in_ok-clock.ensures.others c.in_ok-send_threads.ensures
    c.in_ok-put_back.ensures.others c.in_ok-put_back.ensures.clock raised in
    let locks = c.send_lock.new.locks.items in
    let ended = c.send_ended.new.ended.items in
    let rows = c.note_all.new.rows.items in
    record {
      threads = channels_more run j to_thread old.threads.items threads clock tracks.threads behind (subst (λ (g : Footprint). AreSent old.threads.items clock (to_thread g) threads) at to_threads);
      locks = channels_more run j to_lock old.locks.items locks clock tracks.locks behind (subst (λ (g : Footprint). AreSent old.locks.items clock (to_lock g) locks) at c.in_ok-send_lock.ensures);
      ended = channels_more run j to_joiners old.ended.items ended clock tracks.ended behind (subst (λ (g : Footprint). AreSent old.ended.items clock (to_joiners g) ended) at c.in_ok-send_ended.ensures);
      rows = rows_more run j old.rows.items rows clock tracks.rows behind (subst (λ (g : Footprint). AreNoted old.rows.items g.accesses g.thread j clock rows) at c.in_ok-note_all.ensures.noted);
      marked = c.in_ok-note_all.ensures.marked;
      memos = memos_kept old.rows.items rows c.partner_of.new.memos.items f.accesses f.thread j clock c.in_ok-note_all.ensures.noted
          (subst (λ (l : List Row). AreMemos l c.partner_of.new.memos.items) c.as_slice-4.ensures.value c.in_ok-race.ensures.memos);
    }
