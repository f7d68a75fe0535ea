-- The links of the steps that woke or created each thread.
use Rattle.mr_clocks.proofs.Common.{◌≡◌, ◌≢◌, ℕ, suc, ◌+◌, ◌-◌, ◌<◌, ◌≤◌, ◌⊎◌, inl, inr, List, [], ◌∷◌, ◌++◌, true, length, length-take, set, take, slice_index, refl, sym, ◌∙◌, ap, subst, arith, ◌==◌, list_any, and_parts, both_ways, eq-eqb, eqb-true, false≢true, or_cases, or_left, or_right, get_or-set_other, get_or-set_same, get_or-take, list_any_at, ℕ_discrete, Event, Quiet, CreateLock, Acquire, Release, Spawn, Join, Footprint, spawns, wakes, no_step, step_at, thread_at, Sync, Link, IsUnder, spawns_some, AreLinks, IsIn, IsKept, link_at, step_of, IsNext, AreExtended, AreSyncsUnder, AreWakers, wakes_nobody}
use Rattle.std.specs.Prelude.{not}
use Rattle.std.proofs.lemmas.Bool.{not_from_true}
use Rattle.std.proofs.lemmas.List.{ext_get_or}
use Rattle.mr_clocks.specs.Wakers.{IsUnwoken}
use Rattle.mr_clocks.proofs.Chains.{in_cases, in_low, in_most}
use Rattle.mr_clocks.proofs.Edges.{sync_next}
use Rattle.mr_clocks.proofs.Linking.{chained_more, kept_behind, kept_last, kept_longer, link_new, link_old, more_links}

-- ---- which threads a step wakes

woken_at : (t : ℕ) (ts : List ℕ) → list_any (λ s. s == t) ts ≡ true → (y : ℕ) × (y < length ts) × (slice_index ts y ≡ t)
woken_at t [] h = absurd (false≢true h)
woken_at t (s ∷ ts) h = elim (or_cases (s == t) (list_any (λ q. q == t) ts) h) [
  | inl e ↦ (0, omega arith, eqb-true s t e)
  | inr e ↦ let r = woken_at t ts e in (suc r.0, (let lt = r.1 in omega (arith, lt)), r.2)
]

spawned_some : (e : Event) (t : ℕ) → spawns e t ≡ true → spawns_some e ≡ true
spawned_some (Spawn s) t h = refl
spawned_some Quiet t h = absurd (false≢true h)
spawned_some (CreateLock x) t h = absurd (false≢true h)
spawned_some (Acquire x) t h = absurd (false≢true h)
spawned_some (Release x) t h = absurd (false≢true h)
spawned_some (Join x) t h = absurd (false≢true h)

module _ (f : Footprint) where
  wakes_cases : (t : ℕ) → wakes f t ≡ true → (list_any (λ s. s == t) f.woken ≡ true) ⊎ (spawns f.event t ≡ true)
  unfolding wakes
  wakes_cases t h = or_cases (list_any (λ s. s == t) f.woken) (spawns f.event t) h

  pub wakes_spawned : (t : ℕ) → spawns f.event t ≡ true → wakes f t ≡ true
  unfolding wakes
  wakes_spawned t h = or_right (list_any (λ s. s == t) f.woken) (spawns f.event t) h

  pub wakes_woken : (y : ℕ) → y < length f.woken → wakes f (slice_index f.woken y) ≡ true
  unfolding wakes
  wakes_woken y lt =
      let t = slice_index f.woken y in
      or_left (list_any (λ s. s == t) f.woken) (spawns f.event t) (list_any_at (λ s. s == t) f.woken y 0 lt (eq-eqb t t refl))

  -- what holds of each thread that it woke and of the one that it spawned holds of each that it wakes
  pub wakes_each : (P : ℕ → Type 0) → ((y : ℕ) → y < length f.woken → P (slice_index f.woken y)) → ((t : ℕ) → spawns f.event t ≡ true → P t) → (t : ℕ) → wakes f t ≡ true → P t
  wakes_each P woken spawned t h = elim (wakes_cases t h) [
    | inl e ↦ let r = woken_at t f.woken e in subst P r.2 (woken r.0 r.1)
    | inr e ↦ spawned t e
  ]

  -- a step that wakes nobody wakes no thread
  pub wakes_none : wakes_nobody f ≡ true → (t : ℕ) → wakes f t ≡ true → ⊥
  wakes_none nobody =
      let parts = and_parts (not (spawns_some f.event)) (length f.woken == 0) nobody in
      wakes_each (λ _. ⊥) (λ y lt. absurd (let none = eqb-true (length f.woken) 0 parts.1 in omega (arith, lt, none)))
      (λ t h. both_ways (not (spawns_some f.event)) (not_from_true (spawns_some f.event) (spawned_some f.event t h)) parts.0)

-- ---- a step more

pub wakers_start : (run : List Footprint) (j : ℕ) (heads : List ℕ) (links : List Link) → AreWakers run j j heads links → AreWakers run (j + 1) j heads links
wakers_start run j heads links a = record {
  chained = a.chained;
  low = a.low;
  within = λ k lt. let less = a.within k lt in omega (arith, less);
  held = a.held;
}

pub wakers_end : (run : List Footprint) (j : ℕ) (heads : List ℕ) (links : List Link) → AreWakers run (j + 1) j heads links → ((t : ℕ) → wakes (step_at run j) t ≡ true → IsKept links (slice_index heads t) j) → AreWakers run (j + 1) (j + 1) heads links
wakers_end run j heads links a own = record {
  chained = a.chained;
  low = a.low;
  within = a.within;
  held = λ i t lt w. elim (ℕ_discrete i j) [
    | no ne ↦ a.held i t (omega (arith, lt, ne)) w
    | yes e ↦ subst (λ (q : ℕ). IsKept links (slice_index heads t) q) (sym e) (own t (ap (λ (q : ℕ). wakes (step_at run q) t) (sym e) ∙ w))
  ];
}

-- a link of a thread, which keeps the step
module _ (run : List Footprint) (j thread : ℕ) (heads heads' : List ℕ) (links links' : List Link) (a : AreWakers run (j + 1) j heads links) (inside : thread < length heads) (other : (k : ℕ) → slice_index heads thread ≡ k + 1 → step_of links k ≢ j) (linked : links' ≡ links ++ (record { step = j; before = slice_index heads thread }) ∷ []) (written : heads' ≡ set heads thread (length links + 1)) where
  falls : (b : ℕ) → slice_index heads thread ≡ b + 1 → step_of links b < j
  falls b e =
      let low = a.low thread in
      let lt = a.within b (omega (arith, e, low)) in
      let ne = other b e in
      omega (arith, lt, ne)

  head_new : slice_index heads' thread ≡ length links + 1
  head_new = ap (λ (l : List ℕ). slice_index l thread) written ∙ get_or-set_same heads thread (length links + 1) 0 inside

  head_old : (t : ℕ) → t ≢ thread → slice_index heads' t ≡ slice_index heads t
  head_old t apart = ap (λ (l : List ℕ). slice_index l t) written ∙ get_or-set_other heads thread t (length links + 1) 0 apart

  longer : length links' ≡ length links + 1
  longer = more_links links links' j (slice_index heads thread) a.chained (a.low thread) falls linked

  pub wake_kept : (t i : ℕ) → IsKept links (slice_index heads t) i → IsKept links' (slice_index heads' t) i
  wake_kept t i k = elim (ℕ_discrete t thread) [
    | yes same ↦
        subst (λ (q : ℕ). IsKept links' (slice_index heads' q) i) (sym same)
        (kept_behind links links' j (slice_index heads thread) a.chained (a.low thread) falls linked (slice_index heads' thread) i head_new
        (subst (λ (q : ℕ). IsKept links (slice_index heads q) i) same k))
    | no apart ↦
        subst (λ (q : ℕ). IsKept links' q i) (sym (head_old t apart))
        (kept_longer links links' j (slice_index heads thread) a.chained (a.low thread) falls linked (slice_index heads t) i (a.low t) k)
  ]

  pub wake_own : IsKept links' (slice_index heads' thread) j
  wake_own = kept_last links links' j (slice_index heads thread) a.chained (a.low thread) falls linked (slice_index heads' thread) head_new

  pub wakers_more : AreWakers run (j + 1) j heads' links'
  wakers_more = record {
    chained = chained_more links links' j (slice_index heads thread) a.chained (a.low thread) falls linked;
    low = λ t. elim (ℕ_discrete t thread) [
      | yes same ↦ let is = ap (slice_index heads') same ∙ head_new in omega (arith, is, longer)
      | no apart ↦ let is = head_old t apart in let low = a.low t in omega (arith, is, low, longer)
    ];
    within = λ k lt. elim (ℕ_discrete k (length links)) [
      | yes is ↦
          let step = ap (step_of links') is ∙ ap (λ (l : Link). l.step) (link_new links links' j (slice_index heads thread) a.chained (a.low thread) falls linked) in
          omega (arith, step)
      | no ne ↦
          let less : k < length links = omega (arith, lt, longer, ne) in
          let step = ap (λ (l : Link). l.step) (link_old links links' j (slice_index heads thread) a.chained (a.low thread) falls linked k less) in
          let under = a.within k less in
          omega (arith, step, under)
    ];
    held = λ i t lt w. wake_kept t i (a.held i t lt w);
  }

-- ---- numbers that are extended

pub extended_none : (heads same : List ℕ) → same ≡ heads → AreExtended heads same
extended_none heads same e = record { longer = omega (arith, ap length e); same = λ t. ap (λ (l : List ℕ). slice_index l t) e }

pub extended_more : (one two three : List ℕ) → AreExtended one two → AreExtended two three → AreExtended one three
extended_more one two three a b = record { longer = let x = a.longer in let y = b.longer in omega (arith, x, y); same = λ t. b.same t ∙ a.same t }

-- without what came behind them they are those of before
pub extended_taken : (old new : List ℕ) → AreExtended old new → take (length old) new ≡ old
extended_taken old new e =
    ext_get_or 0 (take (length old) new) old long
    (λ i lt. get_or-take (length old) new i 0 (omega (arith, lt, long)) ∙ e.same i)
  where
    long : length (take (length old) new) ≡ length old
    long = let le = e.longer in omega (arith, length-take (length old) new, le)

pub wakers_extended : (run : List Footprint) (n m : ℕ) (heads heads' : List ℕ) (links links' : List Link) → AreExtended heads heads' → links' ≡ links → AreWakers run n m heads links → AreWakers run n m heads' links'
wakers_extended run n m heads heads' links links' e f a =
    subst (λ (l : List Link). AreWakers run n m heads' l) (sym f) (record {
      chained = a.chained;
      low = λ t. let is = e.same t in let low = a.low t in omega (arith, is, low);
      within = a.within;
      held = λ i t lt w. subst (λ (q : ℕ). IsKept links q i) (sym (e.same t)) (a.held i t lt w);
    })

-- ---- what a step follows

-- no step of another thread with which j is synchronised is kept from a number on where that keeps a step before `next`
no_sync : (run : List Footprint) (j next at m k : ℕ) (links : List Link) → AreLinks links → IsNext run j next → at ≤ length links → ((b : ℕ) → at ≡ b + 1 → step_of links b < next) → IsIn links k at → step_of links k ≡ m → thread_at run m ≢ thread_at run j → Sync run m j → ⊥
no_sync run j next at m k links a n le none r e apart s =
    let low = in_low links a r le in
    let top : ℕ = at - 1 in
    let is : at ≡ top + 1 = omega (arith, low) in
    let most = in_most links a top k at is le r in
    let old = none top is in
    let least = sync_next run m j next n apart s in
    omega (arith, most, old, least, e)

-- the latest step that woke or created j's thread is before the step before j
pub unwoken_by : (run : List Footprint) (j next head : ℕ) (heads : List ℕ) (links : List Link) → AreWakers run j j heads links → IsNext run j next → head ≡ slice_index heads (thread_at run j) → ((b : ℕ) → head ≡ b + 1 → step_of links b < next) → IsUnwoken run j
unwoken_by run j next head heads links a n is none = λ m s. elim (ℕ_discrete (thread_at run m) (thread_at run j)) [
  | yes same ↦ same
  | no apart ↦
      let k = a.held m (thread_at run j) s.before s.woken in
      absurd (no_sync run j next (slice_index heads (thread_at run j)) m k.link links a.chained n (a.low (thread_at run j)) (λ b e. none b (is ∙ e)) k.inside k.is apart s)
]

-- each step of another thread with which j is synchronised lies under the clock, or is kept from a number on
abbrev pub ArePassed : List Footprint → ℕ → List Link → ℕ → ℕ → List ℕ → Type 0
ArePassed run j links head at clock =
    (k : ℕ) → IsIn links k head
    → IsIn links k at ⊎ (Sync run (step_of links k) j → thread_at run (step_of links k) ≢ thread_at run j → IsUnder run clock (step_of links k))

pub passed_start : (run : List Footprint) (j head at : ℕ) (links : List Link) (clock : List ℕ) → at ≡ head → ArePassed run j links head at clock
passed_start run j head at links clock e = λ k r. inl (subst (λ (q : ℕ). IsIn links k q) (sym e) r)

pub passed_more : (run : List Footprint) (j head at m : ℕ) (links : List Link) (old new : List ℕ) → at ≡ m + 1 → ((q : ℕ) → IsUnder run old q → IsUnder run new q) → (Sync run (step_of links m) j → thread_at run (step_of links m) ≢ thread_at run j → IsUnder run new (step_of links m)) → ArePassed run j links head at old → ArePassed run j links head (link_at links m).before new
passed_more run j head at m links old new e kept here passed = λ k r. elim (passed k r) [
  | inr under ↦ inr (λ s apart. kept (step_of links k) (under s apart))
  | inl inside ↦ elim (in_cases inside) [
    | inl is ↦
        let same : m ≡ k = omega (arith, e, is) in
        inr (subst (λ (q : ℕ). Sync run (step_of links q) j → thread_at run (step_of links q) ≢ thread_at run j → IsUnder run new (step_of links q)) same here)
    | inr t ↦
        let same : t.0 ≡ m = (let is = t.1 in omega (arith, e, is)) in
        inl (subst (λ (q : ℕ). IsIn links k (link_at links q).before) same t.2)
  ]
]

pub syncs_seen : (run : List Footprint) (j next at : ℕ) (heads : List ℕ) (links : List Link) (clock : List ℕ) → AreWakers run j j heads links → IsNext run j next → at ≤ length links → ((b : ℕ) → at ≡ b + 1 → step_of links b < next) → ArePassed run j links (slice_index heads (thread_at run j)) at clock → AreSyncsUnder run clock j
syncs_seen run j next at heads links clock a n le none passed = λ m s apart.
    let k = a.held m (thread_at run j) s.before s.woken in
    elim (passed k.link k.inside) [
      | inl r ↦ absurd (no_sync run j next at m k.link links a.chained n le none r k.is apart s)
      | inr under ↦
          subst (λ (q : ℕ). IsUnder run clock q) k.is
          (under (subst (λ (q : ℕ). Sync run q j) (sym k.is) s) (λ same. apart (ap (thread_at run) (sym k.is) ∙ same)))
    ]

-- ---- other runs

pub wakers_longer : (run : List Footprint) (n : ℕ) (heads : List ℕ) (links : List Link) → AreWakers (take n run) n n heads links → AreWakers run n n heads links
wakers_longer run n heads links a = record {
  chained = a.chained;
  low = a.low;
  within = a.within;
  held = λ i t lt w. a.held i t lt (ap (λ (f : Footprint). wakes f t) (get_or-take n run i no_step lt) ∙ w);
}

pub wakers_none : (heads : List ℕ) (links : List Link) → heads ≡ [] → links ≡ [] → AreWakers [] 0 0 heads links
wakers_none heads links e f =
    subst (λ (l : List ℕ). AreWakers [] 0 0 l links) (sym e) (subst (λ (l : List Link). AreWakers [] 0 0 [] l) (sym f) (record {
      chained = record { low = λ k lt. absurd (omega (arith, lt)); falling = λ k b lt. absurd (omega (arith, lt)) };
      low = λ t. omega arith;
      within = λ k lt. absurd (omega (arith, lt));
      held = λ i t lt. absurd (omega (arith, lt));
    }))
