-- Channels to which a step sends its clock, and the clock that a step receives.
use Rattle.mr_rust_order.proofs.Common.{◌≡◌, ℕ, ◌+◌, ◌<◌, ◌≤◌, max, List, [], ◌∷◌, ◌++◌, length, take, get_or, set, slice_index, Bool, true, false, cond, refl, sym, ap, ◌∙◌, subst, inl, inr, ◌⊎◌, arith, ℕ_discrete, dec_lt, ◌||◌, ◌&&◌, ◌==◌, list_any, and_parts, and_from, eq-eqb, ne_eqb, or_cases, or_left, or_right, get_or_append_left, get_or_push, get_or-set_other, get_or-set_same, length_push, Event, Quiet, CreateLock, Acquire, Release, Spawn, Join, Footprint, wakes, spawns, step_at, thread_at, AreChannels, AreSent, IsThreadClock, clock_at, to_joiners, to_lock, to_thread, told_by, IsClockBehind, IsJoin, IsRaised, IsUnder, Reaches, Edge, HappensBefore, IsReadBy, releases, in_thread, started, handed_over, joined, stored}
use Rattle.std.proofs.lemmas.List.{get_or_past}
use Rattle.std.proofs.lemmas.List.Folds.{list_any_more}
use Rattle.mr_base.proofs.Comparisons.{eq_from}
use Rattle.mr_rust_order.specs.Channels.{AreOthersKept, IsSent}
use Rattle.mr_rust_order.proofs.ClockLaws.{join_cases, join_other, under_raised}
use Rattle.mr_rust_order.proofs.OrderLaws.{reach_edge}

-- ---- a clock that is sent

-- past the end a channel has an empty clock
pub join_past : (clocks : List (List ℕ)) (x : ℕ) (clock : List ℕ) → length clocks ≤ x → IsJoin clock (clock_at clocks x) clock
join_past clocks x clock past = λ t.
    let none : slice_index (clock_at clocks x) t ≡ 0 = ap (λ (l : List ℕ). slice_index l t) (get_or_past clocks x [] past) in
    omega (arith, none)

pub sent_none : (old : List (List ℕ)) (clock : List ℕ) → AreSent old clock (λ _. false) old
sent_none old clock = λ x t. refl

pub sent_same : (old new : List (List ℕ)) (clock : List ℕ) (p q : ℕ → Bool) → ((x : ℕ) → p x ≡ q x) → AreSent old clock p new → AreSent old clock q new
sent_same old new clock p q same sent = λ x t.
    sent x t ∙ ap (λ (b : Bool). cond b (max (slice_index (clock_at old x) t) (slice_index clock t)) (slice_index (clock_at old x) t)) (same x)

sent_twice : (a b : Bool) (o c m n : ℕ) → m ≡ cond a (max o c) o → n ≡ cond b (max m c) m → n ≡ cond (a || b) (max o c) o
sent_twice true true o c m n e f = omega (arith, e, f)
sent_twice true false o c m n e f = f ∙ e
sent_twice false true o c m n e f = f ∙ ap (λ (k : ℕ). max k c) e
sent_twice false false o c m n e f = f ∙ e

pub sent_both : (old mid new : List (List ℕ)) (clock : List ℕ) (p q : ℕ → Bool) → AreSent old clock p mid → AreSent mid clock q new → AreSent old clock (λ x. p x || q x) new
sent_both old mid new clock p q one two = λ x t.
    sent_twice (p x) (q x) (slice_index (clock_at old x) t) (slice_index clock t) (slice_index (clock_at mid x) t) (slice_index (clock_at new x) t) (one x t) (two x t)

-- one channel is raised
pub sent_one : (old mid new : List (List ℕ)) (x : ℕ) (clock before behind : List ℕ) → x < length mid → ((y : ℕ) → clock_at mid y ≡ clock_at old y)
    → before ≡ clock_at mid x → IsJoin before clock behind → new ≡ set mid x behind → AreSent old clock (λ y. x == y) new
sent_one old mid new x clock before behind lt same read join put = λ y t.
    elim (ℕ_discrete y x) [
      | yes is ↦
          let at : clock_at new y ≡ behind = ap (λ (l : List (List ℕ)). clock_at l y) put ∙ ap (clock_at (set mid x behind)) is ∙ get_or-set_same mid x behind [] lt in
          let was : before ≡ clock_at old y = read ∙ same x ∙ ap (clock_at old) (sym is) in
          let test : (x == y) ≡ true = eq-eqb x y (sym is) in
          ap (λ (l : List ℕ). slice_index l t) at ∙ join t ∙ ap (λ (l : List ℕ). max (slice_index l t) (slice_index clock t)) was
          ∙ sym (ap (λ (b : Bool). cond b (max (slice_index (clock_at old y) t) (slice_index clock t)) (slice_index (clock_at old y) t)) test)
      | no ne ↦
          let at : clock_at new y ≡ clock_at old y = ap (λ (l : List (List ℕ)). clock_at l y) put ∙ get_or-set_other mid x y behind [] ne ∙ same y in
          let test : (x == y) ≡ false = ne_eqb x y (λ e. ne (sym e)) in
          ap (λ (l : List ℕ). slice_index l t) at
          ∙ sym (ap (λ (b : Bool). cond b (max (slice_index (clock_at old y) t) (slice_index clock t)) (slice_index (clock_at old y) t)) test)
    ]

-- one more of the threads that were woken
pub sent_more : (old mid new : List (List ℕ)) (clock : List ℕ) (woken : List ℕ) (i : ℕ) → i < length woken
    → AreSent old clock (λ y. list_any (λ t. t == y) (take i woken)) mid → AreSent mid clock (λ y. get_or woken i 0 == y) new
    → AreSent old clock (λ y. list_any (λ t. t == y) (take (i + 1) woken)) new
sent_more old mid new clock woken i lt one two =
    sent_same old new clock (λ y. list_any (λ t. t == y) (take i woken) || (get_or woken i 0 == y)) (λ y. list_any (λ t. t == y) (take (i + 1) woken))
    (λ y. sym (list_any_more (λ t. t == y) woken i 0 lt)) (sent_both old mid new clock (λ y. list_any (λ t. t == y) (take i woken)) (λ y. get_or woken i 0 == y) one two)

-- to the threads that a step woke, and to the one that it spawned
pub sent_threads : (old mid new : List (List ℕ)) (clock : List ℕ) (f : Footprint) → AreSent old clock (λ y. list_any (λ t. t == y) f.woken) mid
    → AreSent mid clock (spawns f.event) new → AreSent old clock (wakes f) new
unfolding wakes
sent_threads old mid new clock f one two =
    sent_same old new clock (λ y. list_any (λ t. t == y) f.woken || spawns f.event y) (wakes f) (λ y. refl)
    (sent_both old mid new clock (λ y. list_any (λ t. t == y) f.woken) (spawns f.event) one two)

-- and to its own thread, whose clock was taken out, raised and put back
pub sent_own : (old out sent new : List (List ℕ)) (clock : List ℕ) (f : Footprint) (x : ℕ) → x ≡ f.thread → AreOthersKept old x out → AreSent out clock (wakes f) sent
    → AreOthersKept sent x new → clock_at new x ≡ clock → IsRaised (clock_at old x) clock → AreSent old clock (to_thread f) new
sent_own old out sent new clock f x of taken woken put is raised = λ y t.
    elim (ℕ_discrete y x) [
      | yes at ↦
          let here : slice_index (clock_at new y) t ≡ slice_index clock t = ap (λ (z : ℕ). slice_index (clock_at new z) t) at ∙ ap (λ (l : List ℕ). slice_index l t) is in
          let was : slice_index (clock_at old y) t ≡ slice_index (clock_at old x) t = ap (λ (z : ℕ). slice_index (clock_at old z) t) at in
          let up : slice_index (clock_at old x) t ≤ slice_index clock t = raised t in
          let test : (f.thread == y) ≡ true = eq-eqb f.thread y (sym of ∙ sym at) in
          let most : slice_index (clock_at new y) t ≡ max (slice_index (clock_at old y) t) (slice_index clock t) = omega (arith, here, was, up) in
          most ∙ sym (ap (λ (b : Bool). cond (b || wakes f y) (max (slice_index (clock_at old y) t) (slice_index clock t)) (slice_index (clock_at old y) t)) test)
      | no ne ↦
          let test : (f.thread == y) ≡ false = ne_eqb f.thread y (λ e. ne (sym e ∙ sym of)) in
          ap (λ (l : List ℕ). slice_index l t) (put y ne) ∙ woken y t
          ∙ ap (λ (l : List ℕ). cond (wakes f y) (max (slice_index l t) (slice_index clock t)) (slice_index l t)) (taken y ne)
          ∙ sym (ap (λ (b : Bool). cond (b || wakes f y) (max (slice_index (clock_at old y) t) (slice_index clock t)) (slice_index (clock_at old y) t)) test)
    ]

-- a clock that is put in the place of a channel
pub kept_set : (old mid new : List (List ℕ)) (x : ℕ) (clock : List ℕ) → ((y : ℕ) → clock_at mid y ≡ clock_at old y) → new ≡ set mid x clock → AreOthersKept old x new
kept_set old mid new x clock same put = λ y ne. ap (λ (l : List (List ℕ)). clock_at l y) put ∙ get_or-set_other mid x y clock [] ne ∙ same y

pub put_here : (mid new : List (List ℕ)) (x : ℕ) (clock : List ℕ) → x < length mid → new ≡ set mid x clock → clock_at new x ≡ clock
put_here mid new x clock lt put = ap (λ (l : List (List ℕ)). clock_at l x) put ∙ get_or-set_same mid x clock [] lt

-- ---- channels of one more step

channels_only : (run : List Footprint) (n : ℕ) (sends : Footprint → ℕ → Bool) (old new : List (List ℕ)) (clock : List ℕ) → AreChannels run n sends old → IsClockBehind run clock n
    → AreSent old clock (sends (step_at run n)) new → (x k : ℕ) → IsUnder run (clock_at new x) k → IsSent run (n + 1) sends x k
channels_only run n sends old new clock before behind sent x k under = by (sends (step_at run n) x) refl (sent x (thread_at run k))
  where
    was : IsUnder run (clock_at old x) k → IsSent run (n + 1) sends x k
    was u = let s = before.only x k u in record { step = s.step; within = let lt = s.within in omega (arith, lt); sent = s.sent; reached = s.reached }

    by : (b : Bool) → sends (step_at run n) x ≡ b
        → slice_index (clock_at new x) (thread_at run k) ≡ cond b (max (slice_index (clock_at old x) (thread_at run k)) (slice_index clock (thread_at run k))) (slice_index (clock_at old x) (thread_at run k))
        → IsSent run (n + 1) sends x k
    by true does is = elim (dec_lt k (slice_index (clock_at old x) (thread_at run k))) [
      | yes low ↦ was low
      | no over ↦ record { step = n; within = omega arith; sent = does; reached = behind.only k (omega (arith, is, under, over)) }
    ]
    by false does is = was (omega (arith, is, under))

channels_all : (run : List Footprint) (n : ℕ) (sends : Footprint → ℕ → Bool) (old new : List (List ℕ)) (clock : List ℕ) → AreChannels run n sends old → IsClockBehind run clock n
    → AreSent old clock (sends (step_at run n)) new → (x k : ℕ) → IsSent run (n + 1) sends x k → IsUnder run (clock_at new x) k
channels_all run n sends old new clock before behind sent x k s = by (sends (step_at run n) x) refl (sent x (thread_at run k))
  where
    was : s.step < n → IsUnder run (clock_at old x) k
    was lt = before.all x k (record { step = s.step; within = lt; sent = s.sent; reached = s.reached })

    here : n ≤ s.step → s.step ≡ n
    here le = let lt = s.within in omega (arith, lt, le)

    by : (b : Bool) → sends (step_at run n) x ≡ b
        → slice_index (clock_at new x) (thread_at run k) ≡ cond b (max (slice_index (clock_at old x) (thread_at run k)) (slice_index clock (thread_at run k))) (slice_index (clock_at old x) (thread_at run k))
        → IsUnder run (clock_at new x) k
    by true does is = elim (dec_lt s.step n) [
      | yes lt ↦ let low = was lt in omega (arith, is, low)
      | no over ↦
          let low = behind.all k (subst (λ (m : ℕ). Reaches run k m) (here (omega (arith, over))) s.reached) in
          omega (arith, is, low)
    ]
    by false does is = elim (dec_lt s.step n) [
      | yes lt ↦ let low = was lt in omega (arith, is, low)
      | no over ↦
          let same = here (omega (arith, over)) in
          let yet : true ≡ false = sym s.sent ∙ ap (λ (m : ℕ). sends (step_at run m) x) same ∙ does in
          absurd (cc)
    ]

pub channels_more : (run : List Footprint) (n : ℕ) (sends : Footprint → ℕ → Bool) (old new : List (List ℕ)) (clock : List ℕ) → AreChannels run n sends old → IsClockBehind run clock n
    → AreSent old clock (sends (step_at run n)) new → AreChannels run (n + 1) sends new
channels_more run n sends old new clock before behind sent =
    record { only = channels_only run n sends old new clock before behind sent; all = channels_all run n sends old new clock before behind sent }

-- where there are no clocks, nothing was sent yet
pub channels_none : (run : List Footprint) (sends : Footprint → ℕ → Bool) (clocks : List (List ℕ)) → clocks ≡ [] → AreChannels run 0 sends clocks
channels_none run sends clocks none =
    record {
      only = λ x k under.
          let empty : slice_index (clock_at clocks x) (thread_at run k) ≡ 0 = ap (λ (l : List (List ℕ)). slice_index (clock_at l x) (thread_at run k)) none in
          absurd (omega (arith, empty, under));
      all = λ x k s. absurd (let lt = s.within in omega (arith, lt));
    }

-- ---- what a step receives

-- what was sent to a step's thread happens before it
pub thread_before : (run : List Footprint) (j k : ℕ) → IsSent run j to_thread (thread_at run j) k → HappensBefore run k j
thread_before run j k s =
    elim (or_cases (thread_at run s.step == thread_at run j) (wakes (step_at run s.step) (thread_at run j)) s.sent) [
      | inl same ↦ reach_edge run k s.step j s.reached (in_thread s.within (eq_from (thread_at run s.step) (thread_at run j) same))
      | inr woken ↦ reach_edge run k s.step j s.reached (started s.within woken)
    ]

-- and so does what it was told by its event
pub told_before : (run : List Footprint) (j : ℕ) (locks ended : List (List ℕ)) → AreChannels run j to_lock locks → AreChannels run j to_joiners ended
    → (e : Event) → (step_at run j).event ≡ e → (k : ℕ) → IsUnder run (told_by e locks ended) k → HappensBefore run k j
told_before run j locks ended l d Quiet is k u = absurd (omega (arith, u))
told_before run j locks ended l d (CreateLock n) is k u = absurd (omega (arith, u))
told_before run j locks ended l d (Acquire lock) is k u =
    let s = l.only lock k u in
    reach_edge run k s.step j s.reached (handed_over lock s.within s.sent is)
told_before run j locks ended l d (Release n) is k u = absurd (omega (arith, u))
told_before run j locks ended l d (Spawn n) is k u = absurd (omega (arith, u))
told_before run j locks ended l d (Join thread) is k u =
    let s = d.only thread k u in
    let both = and_parts (step_at run s.step).ended (thread_at run s.step == thread) s.sent in
    let of : thread_at run s.step ≡ thread = eq_from (thread_at run s.step) thread both.1 in
    reach_edge run k s.step j s.reached (joined s.within both.0 (is ∙ ap (λ (t : ℕ). Join t) (sym of)))

-- what reaches a step that has an edge to j lies under a clock that is raised to what j receives
pub received : (run : List Footprint) (j s k : ℕ) (own : List ℕ) (locks ended : List (List ℕ)) (clock : List ℕ)
    → IsThreadClock run j own → AreChannels run j to_lock locks → AreChannels run j to_joiners ended
    → IsRaised own clock → IsRaised (told_by (step_at run j).event locks ended) clock
    → ((byte : ℕ) → IsReadBy run s j byte → IsUnder run clock k)
    → Reaches run k s → Edge run s j → IsUnder run clock k
received run j s k own locks ended clock t l d by_thread by_event loaded reach (in_thread lt same) =
    under_raised run own clock k by_thread
    (t.all k (record { step = s; within = lt; sent = or_left _ _ (eq-eqb (thread_at run s) (thread_at run j) same); reached = reach }))
received run j s k own locks ended clock t l d by_thread by_event loaded reach (started lt woken) =
    under_raised run own clock k by_thread
    (t.all k (record { step = s; within = lt; sent = or_right (thread_at run s == thread_at run j) _ woken; reached = reach }))
received run j s k own locks ended clock t l d by_thread by_event loaded reach (handed_over lock lt released acquired) =
    under_raised run (told_by (step_at run j).event locks ended) clock k by_event
    (subst (λ (e : Event). IsUnder run (told_by e locks ended) k) (sym acquired) (l.all lock k (record { step = s; within = lt; sent = released; reached = reach })))
received run j s k own locks ended clock t l d by_thread by_event loaded reach (joined lt over joins) =
    under_raised run (told_by (step_at run j).event locks ended) clock k by_event
    (subst (λ (e : Event). IsUnder run (told_by e locks ended) k) (sym joins)
    (d.all (thread_at run s) k (record { step = s; within = lt; sent = and_from _ _ over (eq-eqb (thread_at run s) (thread_at run s) refl); reached = reach })))
received run j s k own locks ended clock t l d by_thread by_event loaded reach (stored byte r) = loaded byte r

-- the clock of a step's thread, and one that is joined with it
pub thread_clock : (run : List Footprint) (j t : ℕ) (threads : List (List ℕ)) (clock : List ℕ) → AreChannels run j to_thread threads → t ≡ thread_at run j → clock ≡ clock_at threads t → IsThreadClock run j clock
thread_clock run j t threads clock c at is =
    let same : clock ≡ clock_at threads (thread_at run j) = is ∙ ap (clock_at threads) at in
    subst (IsThreadClock run j) (sym same) (record { only = c.only (thread_at run j); all = c.all (thread_at run j) })

pub thread_joined : (run : List Footprint) (j t : ℕ) (threads : List (List ℕ)) (none clock : List ℕ) → AreChannels run j to_thread threads → t ≡ thread_at run j → none ≡ [] → IsJoin none (clock_at threads t) clock
    → IsThreadClock run j clock
thread_joined run j t threads none clock c at empty join =
    record {
      only = λ k under. known.only k (from k (join_cases none (clock_at threads t) clock (thread_at run k) k join under));
      all = λ k s. under_raised run (clock_at threads t) clock k (join_other none (clock_at threads t) clock join) (known.all k s);
    }
  where
    known : IsThreadClock run j (clock_at threads t)
    known = thread_clock run j t threads (clock_at threads t) c at refl

    from : (k : ℕ) → (k < slice_index none (thread_at run k)) ⊎ (k < slice_index (clock_at threads t) (thread_at run k)) → IsUnder run (clock_at threads t) k
    from k (inl under) = absurd (let zero : slice_index none (thread_at run k) ≡ 0 = ap (λ (l : List ℕ). slice_index l (thread_at run k)) empty in omega (arith, zero, under))
    from k (inr under) = under

-- ---- by the kind of an event

-- what an event of no lock and no join tells, and to which channels an event of another kind sends nothing
pub told_none : (locks ended : List (List ℕ)) (clock : List ℕ) (e : Event) → ((lock : ℕ) → e ≡ Acquire lock → ⊥) → ((thread : ℕ) → e ≡ Join thread → ⊥) → IsJoin clock (told_by e locks ended) clock
told_none locks ended clock Quiet a j = λ t. omega arith
told_none locks ended clock (CreateLock n) a j = λ t. omega arith
told_none locks ended clock (Acquire n) a j = absurd (a n refl)
told_none locks ended clock (Release n) a j = λ t. omega arith
told_none locks ended clock (Spawn n) a j = λ t. omega arith
told_none locks ended clock (Join n) a j = absurd (j n refl)

pub spawned_none : (old : List (List ℕ)) (clock : List ℕ) (e : Event) → ((thread : ℕ) → e ≡ Spawn thread → ⊥) → AreSent old clock (spawns e) old
spawned_none old clock Quiet s = λ x t. refl
spawned_none old clock (CreateLock n) s = λ x t. refl
spawned_none old clock (Acquire n) s = λ x t. refl
spawned_none old clock (Release n) s = λ x t. refl
spawned_none old clock (Spawn n) s = absurd (s n refl)
spawned_none old clock (Join n) s = λ x t. refl

pub released_none : (old : List (List ℕ)) (clock : List ℕ) (e : Event) → ((lock : ℕ) → e ≡ Release lock → ⊥) → AreSent old clock (releases e) old
released_none old clock Quiet r = λ x t. refl
released_none old clock (CreateLock n) r = λ x t. refl
released_none old clock (Acquire n) r = λ x t. refl
released_none old clock (Release n) r = absurd (r n refl)
released_none old clock (Spawn n) r = λ x t. refl
released_none old clock (Join n) r = λ x t. refl

-- to those that join a thread, where a step ended it or didn't
pub ended_sent : (old new : List (List ℕ)) (clock : List ℕ) (f : Footprint) → f.ended ≡ true → AreSent old clock (λ y. f.thread == y) new → AreSent old clock (to_joiners f) new
ended_sent old new clock f over sent = sent_same old new clock (λ y. f.thread == y) (to_joiners f) (λ y. sym (ap (λ (b : Bool). b && (f.thread == y)) over)) sent

pub ended_none : (old : List (List ℕ)) (clock : List ℕ) (f : Footprint) → f.ended ≡ false → AreSent old clock (to_joiners f) old
ended_none old clock f still = sent_same old old clock (λ _. false) (to_joiners f) (λ y. sym (ap (λ (b : Bool). b && (f.thread == y)) still)) (sent_none old clock)

-- an empty clock that is put behind the others changes none
pub pushed_same : (old new : List (List ℕ)) (clock : List ℕ) (y : ℕ) → clock ≡ [] → new ≡ old ++ clock ∷ [] → clock_at new y ≡ clock_at old y
pushed_same old new clock y none e =
    elim (dec_lt y (length old)) [
      | yes lt ↦ ap (λ (l : List (List ℕ)). clock_at l y) e ∙ get_or_append_left old (clock ∷ []) [] y lt
      | no over ↦
          let past : length old ≤ y = omega (arith, over) in
          elim (ℕ_discrete y (length old)) [
            | yes at ↦ ap (λ (l : List (List ℕ)). clock_at l y) e ∙ get_or_push old clock [] y (sym at) ∙ none ∙ sym (get_or_past old y [] past)
            | no ne ↦
                let long = length_push old clock in
                ap (λ (l : List (List ℕ)). clock_at l y) e ∙ get_or_past (old ++ clock ∷ []) y [] (omega (arith, past, ne, long)) ∙ sym (get_or_past old y [] past)
          ]
    ]
