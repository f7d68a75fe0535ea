use Rattle.mr_clocks.proofs.Common.{ℕ, Bool, List, ◌++◌, ap, ap₂, ◌∙◌, Access, AllocId, Event, end_noted, event_noted, made_keys, range_keys, touched_keys}
use Rattle.mr_clocks.specs.Keys.{stores}
use Rattle.mr_clocks.proofs.KeyLists.{five_parts}
use Rattle.mr_clocks.proofs.keys.noted_by.Goals as goal

pub returns : goal.returns
returns c =
    let f = c.args.step.now in
    five_parts (event_noted (stores f) f.event) (end_noted f.ended f.thread) (made_keys f.allocated) (touched_keys f.touched) (range_keys f.accesses)
    c.new-keys.result.items c.add_event_noted.new.keys.items c.add_end_noted.new.keys.items c.add_made.new.keys.items c.add_touched.new.keys.items c.add_ranges.new.keys.items
    c.new-keys.ensures.items
    (c.in_ok-add_event_noted.ensures ∙ ap₂ (λ (b : Bool) (e : Event). c.new-keys.result.items ++ event_noted b e) c.stores.ensures c.event.ensures)
    (c.in_ok-add_end_noted.ensures ∙ ap₂ (λ (b : Bool) (n : ℕ). c.add_event_noted.new.keys.items ++ end_noted b n) c.ended.ensures c.thread.ensures)
    (c.in_ok-add_made.ensures ∙ ap (λ (l : List AllocId). c.add_end_noted.new.keys.items ++ made_keys l) c.allocated.ensures)
    (c.in_ok-add_touched.ensures ∙ ap (λ (l : List AllocId). c.add_made.new.keys.items ++ touched_keys l) c.touched.ensures)
    (c.in_ok-add_ranges.ensures ∙ ap (λ (l : List Access). c.add_touched.new.keys.items ++ range_keys l) c.accesses.ensures)
