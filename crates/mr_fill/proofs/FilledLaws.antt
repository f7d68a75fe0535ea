-- The schedule that an order becomes: it is legal, and has the threads of the order.
use Rattle.mr_fill.proofs.Common.{◌≡◌, ℕ, zero, suc, ◌+◌, refl, sym, ap, ◌∙◌, subst, List, [], ◌∷◌, length, take, Bool, true, false, Option, Some, None, Result, Ok, Err, slice_get, Program, Chooser, Entry, WellFormed, Config, machine_step, Look, Own, thread_step, Legal, program_step, Next, Picked, start_picked, LiesBehind, AreOf, Filling, behind_entry, entry_at, filled, filled_from, filling, led, Halt, Turn}
use Rattle.std.proofs.Common.{map}
use Rattle.std.specs.Option.{option_map}
use Rattle.mr_step.specs.PlanRuns.{AreLegal}
use Rattle.mr_start.specs.FrameFits.{IsLook}
use Rattle.mr_start.specs.SoundState.{IsSoundConfig}
use Rattle.mr_start.specs.Start.{look_of, start_config}
use Rattle.mr_start.proofs.StartSound.{start_look, start_sound}
use Rattle.mr_auto.proofs.StartFound.{start_found}
use Rattle.mr_auto.proofs.Starts.{start_legal, start_lies}
use Rattle.mr_fill.specs.Filled.{EndsAt}
use Rattle.mr_fill.specs.declared.filling.Filled.{Filled}
use Rattle.mr_fill.proofs.GivenSteps.{entry_keeps, entry_legal, entry_lies, taken_at}

-- ---- legal

-- ALL ENTRIES OF AN ORDER ARE LEGAL
filling_legal : (look : Look) → IsLook look → WellFormed look.program → (turns : List Turn) (c : Config Own) (chooser : Chooser) → IsSoundConfig look.program c → LiesBehind c chooser
    → AreLegal (thread_step look) c (filling look c chooser turns).entries
filling_legal look is well [] c chooser sound lies = tt
filling_legal look is well (turn ∷ turns) c chooser sound lies = by_next (entry_at look c chooser turn) refl (filling_legal look is well turns)
  where
    by_next : (o : Result Next ℕ) → entry_at look c chooser turn ≡ o
        → ((c : Config Own) (chooser : Chooser) → IsSoundConfig look.program c → LiesBehind c chooser → AreLegal (thread_step look) c (filling look c chooser turns).entries)
        → AreLegal (thread_step look) c (led turn o (λ next. filling look (program_step look c next.entry) next.chooser turns)).entries
    by_next (Err code) e more = tt
    by_next (Ok next) e more =
        let d = taken_at look c chooser turn next e in (
          entry_legal look is well c chooser turn next sound lies d,
          more (machine_step (thread_step look) c next.entry) next.chooser (entry_keeps look is well c chooser turn next sound lies d) (entry_lies look is well c chooser turn next sound lies d),
        )

legal_from : (p : Program) (order : List Turn) → WellFormed p → (r : Picked) → start_picked p 0 ≡ Some r → Legal p (filled_from p order (Some r)).schedule
unfolding look_of
legal_from p order well r e =
    let legal = start_legal p 0 r e in
    record {
      start = legal;
      entries = filling_legal (look_of p r.picks) (start_look p well r.picks legal) well order (start_config p r.picks) r.chooser (start_sound p well r.picks legal) (start_lies p 0 r e);
    }

pub filled_legal : (p : Program) (order : List Turn) → WellFormed p → Legal p (filled p order).schedule
unfolding filled
filled_legal p order well =
    let (r, e) = start_found p well 0 in
    subst (λ o. Legal p (filled_from p order o).schedule) (sym e) (legal_from p order well r e)

-- ---- of the order

-- one turn more
one_turn : (turn : Turn) (turns : List Turn) (e : Entry) (f : Filling) → e.thread ≡ turn.thread → AreOf turns f.entries f.halt → AreOf (turn ∷ turns) (behind_entry e f).entries (behind_entry e f).halt
one_turn turn turns e f thread are = record {
  threads = ap (λ t. t ∷ map (λ (x : Entry). x.thread) f.entries) thread ∙ ap (λ l. turn.thread ∷ l) are.threads;
  ends = by f.halt are.ends;
}
  where
    by : (halt : Option Halt) → EndsAt turns f.entries halt → EndsAt (turn ∷ turns) (e ∷ f.entries) halt
    by None h = ap suc h
    by (Some halt) h = h

abbrev IsOf : List Turn → Filling → Type 0
IsOf turns f = AreOf turns f.entries f.halt

pub filling_of : (look : Look) (turns : List Turn) (c : Config Own) (chooser : Chooser) → AreOf turns (filling look c chooser turns).entries (filling look c chooser turns).halt
filling_of look [] c chooser = record { threads = refl; ends = refl }
filling_of look (turn ∷ turns) c chooser = by (entry_at look c chooser turn) refl (filling_of look turns)
  where
    by : (o : Result Next ℕ) → entry_at look c chooser turn ≡ o → ((c : Config Own) (chooser : Chooser) → AreOf turns (filling look c chooser turns).entries (filling look c chooser turns).halt)
        → IsOf (turn ∷ turns) (led turn o (λ next. filling look (program_step look c next.entry) next.chooser turns))
    by (Err code) e more = record { threads = refl; ends = refl }
    by (Ok next) e more =
        let d = taken_at look c chooser turn next e in
        one_turn turn turns next.entry (filling look (program_step look c next.entry) next.chooser turns) (ap (λ (x : Next). x.entry.thread) d.turned.is) (more (program_step look c next.entry) next.chooser)

of_from : (p : Program) (order : List Turn) (r : Picked) → AreOf order (filled_from p order (Some r)).schedule.entries (filled_from p order (Some r)).halt
of_from p order r = filling_of (look_of p r.picks) order (start_config p r.picks) r.chooser

pub filled_of : (p : Program) (order : List Turn) → WellFormed p → AreOf order (filled p order).schedule.entries (filled p order).halt
unfolding filled
filled_of p order well =
    let (r, e) = start_found p well 0 in
    subst (λ o. AreOf order (filled_from p order o).schedule.entries (filled_from p order o).halt) (sym e) (of_from p order r)
