-- The machine of a program as moves between places of its runs, each a state that a run may come to with what was printed
-- on the way. Independent neighbours may be exchanged, and each thread's prints stay the same.
use Rattle.mr_witness.proofs.Common.{◌≡◌, ◌≢◌, ℕ, refl, sym, ◌∙◌, ap, subst, List, [], ◌∷◌, ◌++◌, map, true, false, ◌⊎◌, inl, inr, append_assoc, append-nil, ◌==◌, None, cases_Bool, eqb-true, ne_eqb, filter-append, Program, Footprint, depends, wakes, step_at, thread_at, AreIndependent, Machine, Entry, WellFormed, state_fault, Completed, State, bare, Printed, foot_in, printed_by, IsLook, Look, SoundState, Own, thread_step, IsSane, SwapLaw, entry_at, NotesThread, sound_then, prints_of}
use Rattle.mr_witness.proofs.Moves.{Takes}

-- ---- prints

-- the prints of one thread are none of another
prints_other : (u t : ℕ) (texts : List (List ℕ)) → (u == t) ≡ false → prints_of t (map (printed_by u) texts) ≡ []
prints_other u t [] e = refl
prints_other u t (x ∷ xs) e = rw e (prints_other u t xs e)

-- the prints of two threads may come in either order
prints_apart : (u v t : ℕ) (xs ys : List (List ℕ)) → u ≢ v
    → prints_of t (map (printed_by u) xs ++ map (printed_by v) ys) ≡ prints_of t (map (printed_by v) ys ++ map (printed_by u) xs)
prints_apart u v t xs ys apart =
    filter-append (λ (l : Printed). l.thread == t) (map (printed_by u) xs) (map (printed_by v) ys)
    ∙ by_thread (cases_Bool (u == t))
    ∙ sym (filter-append (λ (l : Printed). l.thread == t) (map (printed_by v) ys) (map (printed_by u) xs))
  where
    first : List Printed
    first = prints_of t (map (printed_by u) xs)

    second : List Printed
    second = prints_of t (map (printed_by v) ys)

    by_thread : ((u == t) ≡ true) ⊎ ((u == t) ≡ false) → first ++ second ≡ second ++ first
    by_thread (inl e) =
        let none : second ≡ [] = prints_other v t ys (ne_eqb v t (λ k. apart (eqb-true u t e ∙ sym k))) in
        ap (λ l. first ++ l) none ∙ append-nil first ∙ ap (λ l. l ++ first) (sym none)
    by_thread (inr e) =
        let none : first ≡ [] = prints_other u t xs e in
        ap (λ l. l ++ second) none ∙ sym (append-nil second) ∙ ap (λ l. second ++ l) (sym none)

-- behind the same
prints_swapped : (u v t : ℕ) (output : List Printed) (xs ys : List (List ℕ)) → u ≢ v
    → prints_of t ((output ++ map (printed_by u) xs) ++ map (printed_by v) ys) ≡ prints_of t ((output ++ map (printed_by v) ys) ++ map (printed_by u) xs)
prints_swapped u v t output xs ys apart =
    ap (prints_of t) (append_assoc output (map (printed_by u) xs) (map (printed_by v) ys))
    ∙ filter-append (λ (l : Printed). l.thread == t) output (map (printed_by u) xs ++ map (printed_by v) ys)
    ∙ ap (λ l. prints_of t output ++ l) (prints_apart u v t xs ys apart)
    ∙ sym (filter-append (λ (l : Printed). l.thread == t) output (map (printed_by v) ys ++ map (printed_by u) xs))
    ∙ ap (prints_of t) (sym (append_assoc output (map (printed_by v) ys) (map (printed_by u) xs)))

-- more prints behind the same ones
pub prints_more : (t : ℕ) (a b more : List Printed) → prints_of t a ≡ prints_of t b → prints_of t (a ++ more) ≡ prints_of t (b ++ more)
prints_more t a b more e =
    filter-append (λ (l : Printed). l.thread == t) a more ∙ ap (λ l. l ++ prints_of t more) e ∙ sym (filter-append (λ (l : Printed). l.thread == t) b more)

-- ---- the machine

-- a state that keeps what states keep, and what was printed on the way to it
pub record Place (p : Program) : Type 0 where
  pub state : State Own
  pub sound : SoundState p state
  pub output : List Printed

-- the same state, and the same prints of each thread
pub record AreSame {p : Program} (a b : Place p) : Type 0 where
  pub state : a.state ≡ b.state
  pub prints : (t : ℕ) → prints_of t a.output ≡ prints_of t b.output

-- The entry of the recorded step k breaks no rule in a, and its step completes with the footprint of that step and leads
-- to b, behind what it printed.
pub record Goes (look : Look) (es : List Entry) (run : List Footprint) (a : Place look.program) (k : ℕ) (b : Place look.program) : Type 0 where
  pub takes : Takes look es run a.state k b.state
  pub output : b.output ≡ a.output ++ map (printed_by takes.notes.tally.thread) takes.notes.printed

module _ (look : Look) (is : IsLook look) (well : WellFormed look.program) (es : List Entry) (run : List Footprint) (law : SwapLaw (thread_step look)) (noted : NotesThread look) (sane : (s : State Own) → SoundState look.program s → IsSane s) where
  -- a step goes the same way from the same
  pub carried : (a a' b : Place look.program) (k : ℕ) → AreSame a a' → Goes look es run a k b → (b' : Place look.program) × Goes look es run a' k b' × AreSame b b'
  carried a a' b k e g =
      let f = g.takes in
      let more : List Printed = map (printed_by f.notes.tally.thread) f.notes.printed in (
        record { state = b.state; sound = b.sound; output = a'.output ++ more },
        record {
          takes = record {
            notes = f.notes;
            legal = subst (λ (s : State Own). state_fault (thread_step look) s (entry_at es k).thread (entry_at es k).picks ≡ None) e.state f.legal;
            completes = subst (λ (s : State Own). bare (thread_step look) s (entry_at es k).thread (entry_at es k).picks ≡ Completed f.notes b.state) e.state f.completes;
            foot = f.foot;
          };
          output = refl;
        },
        record { state = refl; prints = λ t. ap (prints_of t) g.output ∙ prints_more t a.output a'.output more (e.prints t) },
      )

  -- of independent neighbours the entries may be exchanged
  pub exchanged : (a b c : Place look.program) (i j : ℕ) → AreIndependent (step_at run i) (step_at run j) → Goes look es run a i b → Goes look es run b j c
      → (b' : Place look.program) × (c' : Place look.program) × Goes look es run a j b' × Goes look es run b' i c' × AreSame c c'
  exchanged a b c i j free p q =
      let f = p.takes in
      let g = q.takes in
      let own : f.notes.tally.thread ≡ thread_at run i = ap (λ (x : Footprint). x.thread) f.foot in
      let other : g.notes.tally.thread ≡ thread_at run j = ap (λ (x : Footprint). x.thread) g.foot in
      let first : (entry_at es i).thread ≡ thread_at run i = sym (noted a.state b.state (entry_at es i).thread (entry_at es i).picks f.notes f.completes) ∙ own in
      let second : (entry_at es j).thread ≡ thread_at run j = sym (noted b.state c.state (entry_at es j).thread (entry_at es j).picks g.notes g.completes) ∙ other in
      let apart : (entry_at es i).thread ≢ (entry_at es j).thread = λ e. free.apart (sym first ∙ e ∙ second) in
      let asleep : wakes (foot_in (thread_step look) f.notes b.state) (entry_at es j).thread ≡ false = (λ k. wakes (f.foot k) (second k)) ∙ free.asleep in
      let unmet : depends (foot_in (thread_step look) f.notes b.state) (foot_in (thread_step look) g.notes c.state) ≡ false = (λ k. depends (f.foot k) (g.foot k)) ∙ free.free in
      let x = law a.state b.state c.state (entry_at es i).thread (entry_at es j).thread (entry_at es i).picks (entry_at es j).picks f.notes g.notes (sane a.state a.sound) apart f.legal f.completes g.legal g.completes asleep unmet in
      let sound = sound_then look is well law noted sane a.state x.between (entry_at es j).thread (entry_at es j).picks g.notes a.sound x.second_legal x.second_first in
      let its : List Printed = map (printed_by f.notes.tally.thread) f.notes.printed in
      let others : List Printed = map (printed_by g.notes.tally.thread) g.notes.printed in (
        record { state = x.between; sound = sound; output = a.output ++ others },
        record { state = c.state; sound = c.sound; output = (a.output ++ others) ++ its },
        record { takes = record { notes = g.notes; legal = x.second_legal; completes = x.second_first; foot = x.second_foot ∙ g.foot }; output = refl },
        record { takes = record { notes = f.notes; legal = x.first_legal; completes = x.first_second; foot = x.first_foot ∙ f.foot }; output = refl },
        record {
          state = refl;
          prints = λ t.
              ap (prints_of t) (q.output ∙ ap (λ l. l ++ others) p.output)
              ∙ prints_swapped f.notes.tally.thread g.notes.tally.thread t a.output f.notes.printed g.notes.printed (λ e. free.apart (sym own ∙ e ∙ other));
        },
      )

  -- THE MACHINE, with the entries of a recorded run
  abbrev pub machine : Machine run
  machine = record {
    State = Place look.program;
    Same = λ a b. AreSame a b;
    Step = λ a k b. Goes look es run a k b;
    same_refl = λ a. record { state = refl; prints = λ t. refl };
    same_sym = λ a b e. record { state = sym e.state; prints = λ t. sym (e.prints t) };
    same_trans = λ a b c e f. record { state = e.state ∙ f.state; prints = λ t. e.prints t ∙ f.prints t };
    carry = carried;
    swap = exchanged;
  }
