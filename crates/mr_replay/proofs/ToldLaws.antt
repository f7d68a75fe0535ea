-- Entries that are taken one after another, and what their steps tell.
use Rattle.mr_replay.proofs.Common.{◌≡◌, ℕ, ◌≤◌, ◌∙◌, ap, ap₂, sym, subst, refl, arith, List, [], ◌∷◌, ◌++◌, length, if◌then◌else◌, Bool, false, OnOk, Result, Ok, Err, Option, None, Some, flat_map, map, slice_get, range_with_len, Entry, Own, thread_step, ToldStep, step_rows, asks_at, if_between, stand_of}
use Rattle.std.proofs.Common.{zero, suc, ◌+◌, ◌<◌, append-nil, append_assoc, get_or, take}
use Rattle.std.proofs.lemmas.List.{flat_map_more, map_push}
use Rattle.std.proofs.lemmas.Option.{slice_get_read}
use Rattle.std.specs.Prelude.{option_to_list}
use Rattle.mr_ast.specs.declared.program.Program.{Program}
use Rattle.mr_base.specs.declared.byte.AllocId.{AllocId}
use Rattle.mr_frame.specs.Frames.{Look}
use Rattle.mr_frame.specs.PlanMachine.{Language}
use Rattle.mr_frame.specs.PlanRuns.{Config, after, machine_step}
use Rattle.mr_sched.specs.declared.schedule.Schedule.{Schedule}
use Rattle.mr_step.specs.StartRuns.{program_step}
use Rattle.mr_step.specs.Answers.{StartAnswer}
use Rattle.mr_step.specs.Standing.{Standing}
use Rattle.mr_run.specs.Runs.{IsMade}
use Rattle.mr_labels.specs.declared.names.Name.{Name}
use Rattle.mr_labels.specs.declared.rows.Allocation.{Allocation}
use Rattle.mr_labels.specs.declared.step.Stand.{Stand}
use Rattle.mr_labels.specs.Names.{made_names}
use Rattle.mr_labels.specs.Table.{made_rows, row_at, row_of}
use Rattle.mr_labels.proofs.Growing.{appended_next}
use Rattle.mr_replay.specs.declared.telling.Between.{Between}
use Rattle.mr_replay.specs.Stands.{stand_before}
use Rattle.mr_replay.specs.Told.{is_between, told_at, told_first, told_of, told_step, told_steps, unless_none}

-- what holds where nothing failed
pub where_ok : {A E X : Type 0} (r : Result A E) → X → OnOk r X
where_ok (Ok a) x = x
where_ok (Err e) x = tt

-- one entry more
after_next : {L : Type 0} (step : Language L) (c : Config L) (es : List Entry) (i : ℕ) (e : Entry) → slice_get es i ≡ Some e
    → after step c (take (suc i) es) ≡ machine_step step (after step c (take i es)) e
after_next step c [] zero e h = absurd (cc)
after_next step c [] (suc i) e h = absurd (cc)
after_next step c (x ∷ es) zero e h = let same : x ≡ e = cc in ap (machine_step step c) same
after_next step c (x ∷ es) (suc i) e h = after_next step (machine_step step c x) es i e h

-- what is made of the things of a list, where one more thing joins it
grown : {X Y : Type 0} (f : X → List Y) (old now next : List Y) (xs more : List X) (x : X) → now ≡ old ++ flat_map f xs
    → next ≡ now ++ f x → more ≡ xs ++ x ∷ [] → next ≡ old ++ flat_map f more
grown f old now next xs more x here pushed is =
    pushed ∙ ap (λ ys. ys ++ f x) here ∙ flat_map_more f old xs x ∙ ap (λ zs. old ++ flat_map f zs) (sym is)

-- The machine stands where the entries so far lead, of which there are so many.
pub record IsOnWay (first m : Standing) (count index : ℕ) (es : List Entry) : Type 0 where
  pub counted : count ≡ index
  pub within : index ≤ length es
  pub here : m.config ≡ after (thread_step first.look) first.config (take index es)

pub begins_way : (first : Standing) (es : List Entry) → IsOnWay first first 0 0 es
begins_way first es = record { counted = refl; within = omega arith; here = refl }

-- nothing is left
whole_way : (first m : Standing) (count index : ℕ) (es : List Entry) → IsOnWay first m count index es → length es ≤ index
    → index ≡ length es
whole_way first m count index es way none = let in_all = way.within in omega arith

-- The step of an entry is made, and tells this.
module _ (first m : Standing) (count index : ℕ) (es : List Entry) (way : IsOnWay first m count index es) (e : Entry)
    (more : index < length es) (is : e ≡ get_or es index e) (look : m.look ≡ first.look) where
  there : slice_get es index ≡ Some e
  there = slice_get_read es (length es) index e refl more is

  told_here : told_at first.look first.config es index ≡ told_step m.look m.config count e ∷ []
  told_here =
      ap₂ (λ (c : Config Own) (o : Option Entry). told_of first.look c index o) (sym way.here) there
      ∙ ap₂ (λ (l : Look) (n : ℕ). told_step l m.config n e ∷ []) (sym look) (sym way.counted)

  one_more : told_first first.look first.config es (index + 1)
      ≡ told_first first.look first.config es index ++ told_step m.look m.config count e ∷ []
  one_more =
      sym (appended_next (told_at first.look first.config es) [] (told_first first.look first.config es index) 0 index
      index (omega arith) refl)
      ∙ ap (λ (xs : List ToldStep). told_first first.look first.config es index ++ xs) told_here

  way_next : (new : Standing) → IsMade e m new → IsOnWay first new (count + 1) (index + 1) es
  way_next new k =
      let next : suc index ≡ index + 1 = omega arith in
      record {
        counted = (let so_far = way.counted in omega arith);
        within = omega arith;
        here =
            ap (λ (s : Standing). s.config) k.after
            ∙ ap₂ (λ (l : Look) (c : Config Own). program_step l c e) look way.here
            ∙ sym (after_next (thread_step first.look) first.config es index e there)
            ∙ ap (λ n. after (thread_step first.look) first.config (take n es)) next;
      }

-- ---- what steps tell

-- What stays true: the machine stands where the entries so far lead, and what they tell is kept.
pub record IsTelling (p : Program) (part : Between) (first m : Standing) (old_rows rows : List Allocation)
    (old_steps steps : List ToldStep) (count index : ℕ) (es : List Entry) : Type 0 where
  pub way : IsOnWay first m count index es
  pub made : rows ≡ old_rows ++ flat_map (step_rows p) (told_first first.look first.config es index)
  pub told : steps ≡ old_steps ++ flat_map (if_between part) (told_first first.look first.config es index)

pub starts_telling : (p : Program) (part : Between) (first : Standing) (rows : List Allocation) (steps : List ToldStep)
    (es : List Entry) → IsTelling p part first first rows rows steps steps 0 0 es
starts_telling p part first rows steps es = record {
  way = begins_way first es;
  made = sym (append-nil rows);
  told = sym (append-nil steps);
}

module _ (p : Program) (part : Between) (first m : Standing) (old_rows rows : List Allocation)
    (old_steps steps : List ToldStep) (count index : ℕ) (es : List Entry)
    (h : IsTelling p part first m old_rows rows old_steps steps count index es) where
  -- nothing is left
  pub all_rows : length es ≤ index
      → rows ≡ old_rows ++ flat_map (step_rows p) (told_first first.look first.config es (length es))
  all_rows none =
      let all = whole_way first m count index es h.way none in
      h.made ∙ ap (λ n. old_rows ++ flat_map (step_rows p) (told_first first.look first.config es n)) all

  pub all_told : length es ≤ index
      → steps ≡ old_steps ++ flat_map (if_between part) (told_first first.look first.config es (length es))
  all_told none =
      let all = whole_way first m count index es h.way none in
      h.told ∙ ap (λ n. old_steps ++ flat_map (if_between part) (told_first first.look first.config es n)) all

  -- the step of an entry is made, and tells this
  module _ (e : Entry) (more : index < length es) (is : e ≡ get_or es index e) (look : m.look ≡ first.look)
      (new : Standing) (k : IsMade e m new) where
    pub tells_on : (next_rows : List Allocation) → next_rows ≡ rows ++ step_rows p (told_step m.look m.config count e)
        → (next_steps : List ToldStep) → next_steps ≡ steps ++ if_between part (told_step m.look m.config count e)
        → IsTelling p part first new old_rows next_rows old_steps next_steps (count + 1) (index + 1) es
    tells_on next_rows made next_steps told = record {
      way = way_next first m count index es h.way e more is look new k;
      made =
          grown (step_rows p) old_rows rows next_rows (told_first first.look first.config es index)
          (told_first first.look first.config es (index + 1)) (told_step m.look m.config count e) h.made made
          (one_more first m count index es h.way e more is look);
      told =
          grown (if_between part) old_steps steps next_steps (told_first first.look first.config es index)
          (told_first first.look first.config es (index + 1)) (told_step m.look m.config count e) h.told told
          (one_more first m count index es h.way e more is look);
    }

-- ---- a step of which nothing is kept

none_row : (name : Option Name) (id : Option AllocId) (pick : Option ℕ) → row_of name id None pick ≡ None
none_row None id pick = refl
none_row (Some name) None pick = refl
none_row (Some name) (Some id) pick = refl

none_at : (names : List Name) (ids : List AllocId) (picks : List ℕ) (i : ℕ) → row_at names ids [] picks i ≡ []
none_at names ids picks i =
    ap option_to_list (none_row (slice_get names i) (slice_get ids i) (slice_get picks i))

flat_none : {X Y : Type 0} (f : X → List Y) → ((x : X) → f x ≡ []) → (xs : List X) → flat_map f xs ≡ []
flat_none f none [] = refl
flat_none f none (x ∷ xs) = ap (λ ys. ys ++ flat_map f xs) (none x) ∙ flat_none f none xs

-- without a pick it makes no allocation
pub nothing_made : (p : Program) (look : Look) (c : Config Own) (number : ℕ) (e : Entry) → e.picks ≡ []
    → (rows : List Allocation) → rows ≡ rows ++ step_rows p (told_step look c number e)
nothing_made p look c number e none rows =
    let told = told_step look c number e in
    let names = made_names p told in
    sym (append-nil rows)
    ∙ ap (λ (xs : List Allocation). rows ++ xs)
    (sym (ap (λ (picks : List ℕ). made_rows names told.made (unless_none picks (asks_at look c e.thread)) e.picks) none
    ∙ flat_none (row_at names told.made [] e.picks) (none_at names told.made e.picks) (range_with_len 0 (length names))))

-- and where its number is none of these, nothing of it is kept
pub nothing_told : (part : Between) (look : Look) (c : Config Own) (number : ℕ) (e : Entry)
    → is_between part number ≡ false → (steps : List ToldStep) → steps ≡ steps ++ if_between part (told_step look c number e)
nothing_told part look c number e outside steps =
    sym (append-nil steps)
    ∙ ap (λ (b : Bool). steps ++ (if b then told_step look c number e ∷ [] else [])) (sym outside)

-- ---- where threads stood

-- What stays true: the machine stands where the entries so far lead, and where their threads stood is kept.
pub record IsPlacing (first m : Standing) (old stands : List (Option Stand)) (index : ℕ) (es : List Entry) : Type 0 where
  pub way : IsOnWay first m index index es
  pub stood : stands ≡ old ++ map stand_before (told_first first.look first.config es index)

pub starts_placing : (first : Standing) (stands : List (Option Stand)) (es : List Entry)
    → IsPlacing first first stands stands 0 es
starts_placing first stands es = record { way = begins_way first es; stood = sym (append-nil stands) }

pub places_on : (first m : Standing) (old stands next : List (Option Stand)) (index : ℕ) (es : List Entry)
    → IsPlacing first m old stands index es → (e : Entry) → index < length es → e ≡ get_or es index e
    → m.look ≡ first.look → (new : Standing) → IsMade e m new → next ≡ stands ++ stand_of m.config e.thread ∷ []
    → IsPlacing first new old next (index + 1) es
places_on first m old stands next index es h e more is look new k pushed =
    let before = told_first first.look first.config es index in
    record {
      way = way_next first m index index es h.way e more is look new k;
      stood =
          pushed ∙ ap (λ (xs : List (Option Stand)). xs ++ stand_of m.config e.thread ∷ []) h.stood
          ∙ append_assoc old (map stand_before before) (stand_of m.config e.thread ∷ [])
          ∙ ap (λ (xs : List (Option Stand)). old ++ xs)
          (sym (map_push stand_before before (told_step m.look m.config index e))
          ∙ ap (map stand_before) (sym (one_more first m index index es h.way e more is look)));
    }

pub all_placed : (first m : Standing) (old stands : List (Option Stand)) (index : ℕ) (es : List Entry)
    → IsPlacing first m old stands index es → length es ≤ index
    → stands ≡ old ++ map stand_before (told_first first.look first.config es (length es))
all_placed first m old stands index es h none =
    h.stood
    ∙ ap (λ n. old ++ map stand_before (told_first first.look first.config es n))
    (whole_way first m index index es h.way none)

-- ---- the whole run

-- what is told of all entries from the start on is what the run tells
pub told_are : (p : Program) (w : Schedule) (picks : List ℕ) (es : List Entry) → picks ≡ w.start → es ≡ w.entries
    → (m : Standing) → StartAnswer p picks (Ok m) → told_first m.look m.config es (length es) ≡ told_steps p w
unfolding told_steps
told_are p w picks es first all m h =
    let begun = subst (λ (xs : List ℕ). StartAnswer p xs (Ok m)) first h in
    ap (λ (xs : List Entry). told_first m.look m.config xs (length xs)) all
    ∙ ap (λ (s : Standing). told_first s.look s.config w.entries (length w.entries)) begun.1
