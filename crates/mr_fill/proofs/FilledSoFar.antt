-- Taking one turn more.
use Rattle.mr_fill.proofs.Common.{◌≡◌, ℕ, suc, ◌+◌, ◌<◌, ◌≤◌, refl, sym, ap, ◌∙◌, subst, arith, List, [], ◌∷◌, ◌++◌, append-nil, append_assoc, drop, get_or, length, false, Option, Some, None, Result, Ok, Err, Chooser, Entry, Config, Look, Own, thread_step, program_step, Standing, Next, BeginsDrawing, FilledAfter, Filling, behind_entry, entry_at, filling, led, TurnAnswer, Halt, Turn}
use Rattle.std.proofs.Math.Seq.{drop-cons}
use Rattle.mr_step.specs.PlanRuns.{after}
use Rattle.mr_step.proofs.PlanRunLaws.{completed_by_step}
use Rattle.mr_start.specs.Runs.{program_fault}
use Rattle.mr_run.specs.Runs.{IsMade}
use Rattle.mr_auto.proofs.DrawnSoFar.{after_more, state_behind}
use Rattle.mr_fill.specs.Filled.{filling_here}
use Rattle.mr_fill.specs.declared.due.Due.TheVariants.{Broken, Takes}
use Rattle.mr_fill.proofs.GivenSteps.{entry_keeps, entry_legal, entry_lies, taken_at}

-- these entries in front
abbrev pub behind_entries : List Entry → Filling → Filling
behind_entries es f = record { entries = es ++ f.entries; halt = f.halt }

-- one more of them
one_more : (es : List Entry) (e : Entry) (f : Filling) → behind_entries es (behind_entry e f) ≡ behind_entries (es ++ e ∷ []) f
one_more es e f = ap (λ l. record { entries = l; halt = f.halt }) (sym (append_assoc es (e ∷ []) f.entries))

-- what is left at a position within the turns
pub turns_left : (turns : List Turn) (i : ℕ) (d : Turn) → i < length turns → drop i turns ≡ get_or turns i d ∷ drop (i + 1) turns
turns_left turns i d h =
    let next : suc i ≡ i + 1 = omega arith in
    drop-cons turns i d h ∙ ap (λ n. get_or turns i d ∷ drop n turns) next

-- ---- turns that were taken so far

pub record FilledSo (turns : List Turn) (i : ℕ) (old : Standing) (first : Chooser) (m : Standing) (c : Chooser) (was is : List Entry) : Type 0 where
  pub begins : BeginsDrawing m c
  pub es : List Entry
  pub look : m.look ≡ old.look
  pub rest : filling_here turns old first ≡ behind_entries es (filling old.look m.config c (drop i turns))
  pub entries : is ≡ was ++ es
  pub config : m.config ≡ after (thread_step old.look) old.config es
  pub few : m.config.completed ≤ old.config.completed + i

pub so_begins : (turns : List Turn) (old : Standing) (first : Chooser) (was : List Entry) → BeginsDrawing old first → FilledSo turns 0 old first old first was was
so_begins turns old first was begins = record {
  begins = begins;
  es = [];
  look = refl;
  rest = refl;
  entries = sym (append-nil was);
  config = refl;
  few = omega arith;
}

module _ (turns : List Turn) (i : ℕ) (old : Standing) (first : Chooser) (m : Standing) (c : Chooser) (was is : List Entry) (so : FilledSo turns i old first m c was is) where
  -- what is left comes to no entry
  ends_with : (halt : Option Halt) → filling old.look m.config c (drop i turns) ≡ record { entries = []; halt = halt } → FilledAfter turns old first m was is halt
  ends_with halt none =
      let all : filling_here turns old first ≡ record { entries = so.es; halt = halt } =
      so.rest ∙ ap (behind_entries so.es) none ∙ ap (λ l. record { entries = l; halt = halt }) (append-nil so.es) in
      let es : (filling_here turns old first).entries ≡ so.es = ap (λ (f : Filling). f.entries) all in
      record {
        entries = so.entries ∙ ap (λ l. was ++ l) (sym es);
        ends = sym (ap (λ (f : Filling). f.halt) all);
        working = so.begins.working;
        look = so.look;
        config = so.config ∙ ap (after (thread_step old.look) old.config) (sym es);
      }

  -- all turns were taken
  pub so_ends : drop i turns ≡ [] → FilledAfter turns old first m was is None
  so_ends none = ends_with None (ap (filling old.look m.config c) none)

  module _ (turn : Turn) (here : drop i turns ≡ turn ∷ drop (i + 1) turns) where
    -- one is left, and what comes of it
    left_is : (r : Result Next ℕ) → entry_at m.look m.config c turn ≡ r → filling old.look m.config c (drop i turns) ≡ led turn r (λ next. filling old.look (program_step old.look m.config next.entry) next.chooser (drop (i + 1) turns))
    left_is r e =
        ap (filling old.look m.config c) here
        ∙ ap (λ o. led turn o (λ next. filling old.look (program_step old.look m.config next.entry) next.chooser (drop (i + 1) turns)))
        (ap (λ (l : Look). entry_at l m.config c turn) (sym so.look) ∙ e)

    -- it can't be taken
    pub so_halts : (code : ℕ) (c' : Chooser) → TurnAnswer (entry_at m.look m.config c turn) (Broken code) c' → FilledAfter turns old first m was is (Some (record { line = turn.line; code = code }))
    so_halts code c' broken = ends_with (Some (record { line = turn.line; code = code })) (left_is (Err code) broken)

    module _ (entry : Entry) (c' : Chooser) (takes : TurnAnswer (entry_at m.look m.config c turn) (Takes entry) c') where
      abbrev next : Next
      next = record { entry = entry; chooser = c' }

      -- its entry breaks no rule
      pub so_legal : program_fault m.look m.config entry ≡ None
      so_legal = entry_legal m.look so.begins.look so.begins.well m.config c turn next so.begins.sound so.begins.lies (taken_at m.look m.config c turn next takes)

      -- and behind its step one more is taken
      pub so_more : (m' : Standing) (is' : List Entry) → IsMade entry m m' → is' ≡ is ++ entry ∷ [] → FilledSo turns (i + 1) old first m' c' was is'
      so_more m' is' made pushed =
          let d = taken_at m.look m.config c turn next takes in
          let config : m'.config ≡ program_step m.look m.config entry = ap (λ (x : Standing). x.config) made.after in
          let same : m'.look ≡ m.look = ap (λ (x : Standing). x.look) made.after in
          let by_step = completed_by_step (thread_step m.look) m.config entry in
          let few = so.few in
          let count : m'.config.completed ≡ (program_step m.look m.config entry).completed = ap (λ (x : Config Own). x.completed) config in
          record {
            begins = subst (λ (x : Standing). BeginsDrawing x c') (sym made.after)
                (record {
                  working = refl;
                  state = state_behind m.look m.config entry d.state d.there made.has_rule;
                  look = so.begins.look;
                  well = so.begins.well;
                  sound = entry_keeps m.look so.begins.look so.begins.well m.config c turn next so.begins.sound so.begins.lies d;
                  lies = entry_lies m.look so.begins.look so.begins.well m.config c turn next so.begins.sound so.begins.lies d;
                });
            es = so.es ++ entry ∷ [];
            look = same ∙ so.look;
            rest =
                so.rest
                ∙ ap (behind_entries so.es)
                (left_is (Ok next) takes
                ∙ ap (λ (k : Config Own). behind_entry entry (filling old.look k c' (drop (i + 1) turns))) (ap (λ (l : Look). program_step l m.config entry) (sym so.look) ∙ sym config))
                ∙ one_more so.es entry (filling old.look m'.config c' (drop (i + 1) turns));
            entries = pushed ∙ ap (λ l. l ++ entry ∷ []) so.entries ∙ append_assoc was so.es (entry ∷ []);
            config =
                config ∙ ap (λ (l : Look). program_step l m.config entry) so.look ∙ ap (λ (k : Config Own). program_step old.look k entry) so.config
                ∙ sym (after_more (thread_step old.look) old.config so.es entry);
            few = omega arith;
          }
