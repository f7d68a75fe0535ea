-- Memos beside rows that grow, and beside rows that take links.
use Rattle.mr_clocks.proofs.Common.{◌≡◌, ℕ, ◌+◌, List, length, slice_index, refl, sym, ◌∙◌, ap, subst, arith, Footprint, DoTheSame, Key, Lock, Creation, Spawning, Starts, Joins, Made, Touched, Range, Wakes, Row, asks, has_row, AreMemos, IsMemo, IsMemoOf, memo_at, AreAllAsked, ArePlaces, HaveKeysOf, IsGrown, row_at, false}
use Rattle.mr_event.proofs.AlikeLaws.{alike_equal}
use Rattle.mr_clocks.specs.declared.keys.Key.TheVariants.{Storing}
use Rattle.mr_clocks.specs.Keys.{is_shared}
use Rattle.mr_clocks.specs.Rows.{IsOwn}
use Rattle.mr_clocks.proofs.Noting.{grown_row}

-- a step with whom another one woke
abbrev waking_as : Footprint → Footprint → Footprint
waking_as f g = record {
  thread = f.thread;
  accesses = f.accesses;
  allocated = f.allocated;
  freed = f.freed;
  touched = f.touched;
  event = f.event;
  ended = f.ended;
  woken = g.woken;
}

-- it asks the same keys
asks_waking : (f g : Footprint) (key : Key) → asks (waking_as f g) key ≡ asks f key
asks_waking f g (Lock n) = refl
asks_waking f g (Storing n) = refl
asks_waking f g Creation = refl
asks_waking f g Spawning = refl
asks_waking f g (Starts t) = refl
asks_waking f g (Joins t) = refl
asks_waking f g (Made a) = refl
asks_waking f g (Touched a) = refl
asks_waking f g (Range r) = refl
asks_waking f g (Wakes t) = refl

-- and is noted in rows of the same keys
has_row_waking : (f g : Footprint) (key : Key) → has_row (waking_as f g) key ≡ has_row f key
has_row_waking f g (Lock n) = refl
has_row_waking f g (Storing n) = refl
has_row_waking f g Creation = refl
has_row_waking f g Spawning = refl
has_row_waking f g (Starts t) = refl
has_row_waking f g (Joins t) = refl
has_row_waking f g (Made a) = refl
has_row_waking f g (Touched a) = refl
has_row_waking f g (Range r) = refl
has_row_waking f g (Wakes t) = refl

-- it is a step that did the same, and woke those
waking_alike : (f g : Footprint) → DoTheSame f g → waking_as f g ≡ g
waking_alike f g h = alike_equal (waking_as f g) g (record {
  thread = h.thread;
  event = h.event;
  ended = h.ended;
  accesses = h.accesses;
  touched = h.touched;
  allocated = h.allocated;
  freed = h.freed;
  woken = refl;
})

-- equal steps did the same
pub equal_same : (f g : Footprint) → f ≡ g → DoTheSame f g
equal_same f g e =
    subst (λ (s : Footprint). DoTheSame f s) e
    (record { thread = refl; event = refl; ended = refl; accesses = refl; touched = refl; allocated = refl; freed = refl })

-- steps that do the same ask the same rows
asked_alike : (f g : Footprint) (rows : List Row) (found : List ℕ) → DoTheSame f g → AreAllAsked f rows found → AreAllAsked g rows found
asked_alike f g rows found h all =
    subst (λ (s : Footprint). AreAllAsked s rows found) (waking_alike f g h)
    (λ x lt apart it_asks. all x lt apart (sym (asks_waking f g (row_at rows x).key) ∙ it_asks))

-- and are noted in the same ones
places_alike : (f g : Footprint) (rows : List Row) (places : List ℕ) → DoTheSame f g → ArePlaces f rows places → ArePlaces g rows places
places_alike f g rows places h p =
    subst (λ (s : Footprint). ArePlaces s rows places) (waking_alike f g h) (record {
      each = λ y lt. let at = p.each y lt in (at.0, at.1, has_row_waking f g (row_at rows (slice_index places y)).key ∙ at.2);
      all = λ key noted. p.all key (sym (has_row_waking f g key) ∙ noted);
    })

-- so a memo of the one is one of the other
pub memo_alike : (f g : Footprint) (rows : List Row) (memo : Footprint × ℕ × List ℕ × List ℕ) → DoTheSame f g → IsMemoOf rows f memo → IsMemoOf rows g memo
memo_alike f g rows memo h of = record {
  stamp = of.stamp;
  asked = asked_alike f g rows memo.2 h of.asked;
  noted = places_alike f g rows memo.3 h of.noted;
}

-- the places of rows are those of rows behind which others came
places_grown : (old new : List Row) (step : Footprint) (places : List ℕ) → IsGrown old new → ArePlaces step old places → ArePlaces step new places
places_grown old new step places g p =
    let longer = g.longer in
    record {
      each = λ y lt.
          let at = p.each y lt in
          let inside = at.0 in
          let same = grown_row old new g (slice_index places y) inside in
          (omega (arith, inside, longer), λ own. ap (λ (r : Row). r.thread) same ∙ at.1 (ap (λ (r : Row). is_shared r.key) (sym same) ∙ own), ap (λ (r : Row). has_row step r.key) same ∙ at.2);
      all = λ key noted.
          let t = p.all key noted in
          let at = p.each t.0 t.1 in
          (t.0, t.1, ap (λ (r : Row). r.key) (grown_row old new g (slice_index places t.0) at.0) ∙ t.2);
    }

pub memos_grown : (old new : List Row) (memos : List (Footprint × ℕ × List ℕ × List ℕ)) → IsGrown old new → AreMemos old memos → AreMemos new memos
memos_grown old new memos g all = λ x lt.
    let m = all x lt in
    let memo = memo_at memos x in
    let low = m.low in
    let longer = g.longer in
    record {
      low = omega (arith, low, longer);
      asked = λ y less apart it_asks.
          let same = grown_row old new g y (omega (arith, less, low)) in
          m.asked y less (λ own. apart (subst (λ (r : Row). IsOwn r memo.0.thread) (sym same) own)) (ap (λ (r : Row). asks memo.0 r.key) (sym same) ∙ it_asks);
      noted = λ some. places_grown old new memo.0 memo.3 g (m.noted some);
    }

-- the places of rows are those of rows that have their keys
places_same : (old new : List Row) (step : Footprint) (places : List ℕ) → HaveKeysOf old new → ArePlaces step old places → ArePlaces step new places
places_same old new step places keys p =
    let many = keys.many in
    record {
      each = λ y lt.
          let at = p.each y lt in
          let inside = at.0 in
          let alone : is_shared (row_at new (slice_index places y)).key ≡ false → is_shared (row_at old (slice_index places y)).key ≡ false =
          λ own. ap is_shared (sym (keys.key (slice_index places y))) ∙ own in
          (omega (arith, inside, many), λ own. keys.thread (slice_index places y) (alone own) ∙ at.1 (alone own), ap (has_row step) (keys.key (slice_index places y)) ∙ at.2);
      all = λ key noted.
          let t = p.all key noted in
          (t.0, t.1, keys.key (slice_index places t.0) ∙ t.2);
    }

pub memos_same : (old new : List Row) (memos : List (Footprint × ℕ × List ℕ × List ℕ)) → HaveKeysOf old new → AreMemos old memos → AreMemos new memos
memos_same old new memos keys all = λ x lt.
    let m = all x lt in
    let memo = memo_at memos x in
    let low = m.low in
    let many = keys.many in
    record {
      low = omega (arith, low, many);
      asked = λ r less apart it_asks. m.asked r less (λ own. apart (ap is_shared (keys.key r) ∙ own.0, keys.thread r own.0 ∙ own.1)) (ap (asks memo.0) (sym (keys.key r)) ∙ it_asks);
      noted = λ some. places_same old new memo.0 memo.3 keys (m.noted some);
    }

-- a memo of its own step that is as new as the rows is a memo
pub memo_here : (rows : List Row) (step : Footprint) (memo : Footprint × ℕ × List ℕ × List ℕ) → memo.0 ≡ step → IsMemoOf rows step memo → IsMemo rows memo
memo_here rows step memo own of =
    let stamp = of.stamp in
    let all : AreAllAsked memo.0 rows memo.2 = subst (λ (f : Footprint). AreAllAsked f rows memo.2) (sym own) of.asked in
    record {
      low = omega (arith, stamp);
      asked = λ x less. all x (omega (arith, less, stamp));
      noted = λ _. subst (λ (f : Footprint). ArePlaces f rows memo.3) (sym own) of.noted;
    }

-- a memo that is as new as the rows is one of its step
pub memo_exact : (rows : List Row) (memo : Footprint × ℕ × List ℕ × List ℕ) → memo.1 ≡ length rows + 1 → IsMemo rows memo → IsMemoOf rows memo.0 memo
memo_exact rows memo stamp m =
    record {
      stamp = stamp;
      asked = λ x lt. m.asked x (omega (arith, lt, stamp));
      noted = m.noted (omega (arith, stamp));
    }

-- a memo without a stamp
pub memo_none : (rows : List Row) (memo : Footprint × ℕ × List ℕ × List ℕ) → memo.1 ≡ 0 → IsMemo rows memo
memo_none rows memo none = record {
  low = omega (arith, none);
  asked = λ x less. absurd (omega (arith, none, less));
  noted = λ some. absurd (omega (arith, none, some));
}
