use Rattle.mr_clocks.proofs.Common.{ℕ, Bool, List, [], ◌∷◌, ◌++◌, ap, ap₂, ◌∙◌, AllocId, Event, Wakes, end_asked, event_asked, made_keys, touched_keys}
use Rattle.mr_clocks.proofs.KeyLists.{six_parts}
use Rattle.mr_clocks.proofs.keys.asked_by.Goals as goal

pub returns : goal.returns
returns c =
    let g = c.args.step.now in
    six_parts (Wakes g.thread ∷ []) (event_asked g.event) (end_asked g.ended g.thread) (made_keys g.touched) (made_keys g.freed) (touched_keys g.freed)
    c.new-keys.result.items c.push.new.self.items c.add_event_asked.new.keys.items c.add_end_asked.new.keys.items c.add_made.new.keys.items c.add_made-2.new.keys.items c.add_touched.new.keys.items
    c.new-keys.ensures.items
    (c.in_ok-push.ensures.items ∙ ap (λ (n : ℕ). c.new-keys.result.items ++ Wakes n ∷ []) c.thread.ensures)
    (c.in_ok-add_event_asked.ensures ∙ ap (λ (e : Event). c.push.new.self.items ++ event_asked e) c.event.ensures)
    (c.in_ok-add_end_asked.ensures ∙ ap₂ (λ (b : Bool) (n : ℕ). c.add_event_asked.new.keys.items ++ end_asked b n) c.ended.ensures c.thread-2.ensures)
    (c.in_ok-add_made.ensures ∙ ap (λ (l : List AllocId). c.add_end_asked.new.keys.items ++ made_keys l) c.touched.ensures)
    (c.in_ok-add_made-2.ensures ∙ ap (λ (l : List AllocId). c.add_made.new.keys.items ++ made_keys l) c.freed.ensures)
    (c.in_ok-add_touched.ensures ∙ ap (λ (l : List AllocId). c.add_made-2.new.keys.items ++ touched_keys l) c.freed-2.ensures)
