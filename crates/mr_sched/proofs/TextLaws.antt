-- Reading a text: what is read is spelled so, and a fault is the first one.
use Rattle.mr_sched.proofs.Common.{◌≡◌, ℕ, ◌^◌, ◌≤◌, ltb, List, [], ◌∷◌, ◌++◌, length, map, Option, Some, None, Result, Ok, Err, refl, sym, ap, subst, ◌∙◌, arith, inl, inr, bytes_eq, codes, flat_map, IfOk, AllByRecursion, cases_Bool, ltb-true, ltb-false, lt-ltb, le-ltb, append-nil, BAD_LINE, TOO_LONG, Entry, Group, Version, One, Two, ended, start_line, EntryFits, AreLines, entry_count, group_line, groups_of, header_in, text_in, Lines, Fault, Gives, body_of, entries_from, header_then, lines_schedule, parts_at, start_of, start_then, version_of}
use Rattle.std.proofs.lemmas.Slice.Eq.{bytes_eq-Decides}
use Rattle.mr_sched.specs.declared.fault.TheConstants.{BAD_HEADER}
use Rattle.mr_sched.specs.declared.schedule.Schedule.{Schedule}
use Rattle.mr_sched.specs.declared.version.Read.{Read}
use Rattle.mr_sched.specs.Spelling.{Fits}
use Rattle.mr_sched.specs.Versions.{Schedules, lines_in}
use Rattle.mr_sched.specs.Faults.{IsStartLine, HasBadStart, BodyFails, HasBadHeader, LinesFail, FirstFault}
use Rattle.mr_sched.specs.declared.fault.SchedFault.{SchedFault}
use Rattle.mr_sched.specs.declared.fault.SchedFault.TheVariants.{Bad}
use Rattle.mr_sched.specs.Reading.{schedule_of}
use Rattle.mr_sched.proofs.FirstLines.{body_of-line, lines_schedule-line, rest_or_line}
use Rattle.mr_sched.proofs.WordLaws.{start_spelled, start_again, header_unbroken, start_unbroken}
use Rattle.mr_sched.proofs.LineLaws.{has_lines, parts_from_lines}
use Rattle.mr_sched.proofs.VersionLaws.{entries_of_groups}
use Rattle.mr_sched.proofs.GroupLaws.{entries_fit, groups_again, groups_are_lines, length_entries, lines_unbroken}
use Rattle.mr_sched.proofs.EntryLaws.{failed, err_is, entries_read, entries_again, entries_failed, entries_fail_at}

abbrev pub as_read : Version → Schedule → Read
as_read v w = record { schedule = w; version = v }

abbrev pub done : Read → Result Read Fault
done r = Ok r

same_done : (r s : Read) → done r ≡ done s → r ≡ s
same_done r s e = cc

-- ---- the lines from line 2 on

start_from_form : (line : List ℕ) → IsStartLine line → (picks : List ℕ) × (start_of (parts_at 32 line) ≡ Some picks)
start_from_form line (picks, fit, spelled) = (picks, ap (λ (w : List ℕ). start_of (parts_at 32 w)) spelled ∙ start_again picks fit)

-- the lines are those of the schedule behind the header, and all are ended
pub record BodyRead (v : Version) (lines : List (List ℕ)) (rest : List ℕ) (r : Read) : Type 0 where
  pub version : r.version ≡ v
  pub spelled : lines ≡ start_line r.schedule.start ∷ map group_line (groups_of v r.schedule.entries)
  pub ended : rest ≡ []
  pub fits : Fits r.schedule
  pub few : length r.schedule.entries ≤ 2 ^ 22

start_read : (v : Version) (line : List ℕ) (lines : List (List ℕ)) (rest : List ℕ) (r : Read) (o : Option (List ℕ)) (e : Result (List Entry) Fault) → start_of (parts_at 32 line) ≡ o
    → entries_from v [] 3 (lines ++ rest ∷ []) ≡ e → start_then v o e ≡ Ok r → BodyRead v (line ∷ lines) rest r
start_read v line lines rest r None e is entries h = absurd cc
start_read v line lines rest r (Some picks) (Err f) is entries h = absurd cc
start_read v line lines rest r (Some picks) (Ok es) is entries h =
    let first = start_spelled line picks is in
    let more = entries_read v [] 3 lines rest es (omega arith) entries in
    let groups : groups_of v es ≡ more.groups = ap (groups_of v) more.whole ∙ groups_again v None more.groups more.are in
    let fit : AllByRecursion EntryFits es = subst (AllByRecursion EntryFits) (sym more.whole) (entries_fit v None more.groups more.are) in
    subst (BodyRead v (line ∷ lines) rest) (same_done (as_read v (record { start = picks; entries = es })) r h)
    (record {
      version = refl;
      spelled = ap (λ (l : List ℕ). l ∷ lines) first.1 ∙ ap (λ (ls : List (List ℕ)). start_line picks ∷ ls) more.spelled ∙ ap (λ (gs : List Group). start_line picks ∷ map group_line gs) (sym groups);
      ended = more.ended;
      fits = record { start = first.0; entries = fit };
      few = more.few;
    })

body_read : (v : Version) (lines : List (List ℕ)) (rest : List ℕ) (r : Read) → body_of v (lines ++ rest ∷ []) ≡ Ok r → BodyRead v lines rest r
unfolding body_of
body_read v [] rest r h = absurd cc
body_read v (line ∷ lines) rest r h =
    start_read v line lines rest r (start_of (parts_at 32 line)) (entries_from v [] 3 (lines ++ rest ∷ [])) refl refl (sym (body_of-line v line (lines ++ rest ∷ []) (rest_or_line lines rest)) ∙ h)

-- the lines of entries are good
are_lines : (v : Version) (es : List Entry) → AllByRecursion EntryFits es → length es ≤ 2 ^ 22 → AreLines v None (groups_of v es)
are_lines v es fit few = groups_are_lines v es fit (omega arith)

entries_read_again : (v : Version) (es : List Entry) → AllByRecursion EntryFits es → length es ≤ 2 ^ 22 → entries_from v [] 3 (map group_line (groups_of v es) ++ [] ∷ []) ≡ Ok es
entries_read_again v es fit few =
    let same = entries_of_groups v es in
    let count : entry_count (groups_of v es) ≤ 2 ^ 22 = omega (arith, length_entries (groups_of v es), ap length same, few) in
    entries_again v (groups_of v es) (are_lines v es fit few) count ∙ ap (λ (xs : List Entry). Ok xs) same

body_again : (v : Version) (w : Schedule) → Fits w → length w.entries ≤ 2 ^ 22 → body_of v ((start_line w.start ∷ map group_line (groups_of v w.entries)) ++ [] ∷ []) ≡ Ok (as_read v w)
body_again v w fits few =
    let lines = map group_line (groups_of v w.entries) in
    body_of-line v (start_line w.start) (lines ++ [] ∷ []) (rest_or_line lines [])
    ∙ ap (λ (o : Option (List ℕ)). start_then v o (entries_from v [] 3 (lines ++ [] ∷ []))) (start_again w.start fits.start)
    ∙ ap (start_then v (Some w.start)) (entries_read_again v w.entries fits.entries few)

start_failed : (v : Version) (line : List ℕ) (lines : List (List ℕ)) (rest : List ℕ) (f : Fault) (o : Option (List ℕ)) (e : Result (List Entry) Fault) → start_of (parts_at 32 line) ≡ o
    → entries_from v [] 3 (lines ++ rest ∷ []) ≡ e → start_then v o e ≡ Err f → BodyFails v (line ∷ lines) rest f.line f.code
start_failed v line lines rest f None e is entries h =
    subst (λ (g : Fault). BodyFails v (line ∷ lines) rest g.line g.code) (err_is {A = Read} (record { line = 2; code = BAD_LINE }) f h)
    (inl (
      λ first more parts form.
          let same : line ≡ first = cc in
          let p = start_from_form first form in
          let g = sym is ∙ ap (λ (l : List ℕ). start_of (parts_at 32 l)) same ∙ p.1 in absurd cc,
      refl,
      refl,
    ))
start_failed v line lines rest f (Some picks) (Ok es) is entries h = absurd cc
start_failed v line lines rest f (Some picks) (Err g) is entries h =
    let first = start_spelled line picks is in
    let same : g ≡ f = err_is {A = Read} g f h in
    inr (line, lines, refl, (picks, first.0, first.1), entries_failed v [] 3 lines rest f (omega arith) (entries ∙ ap (λ (k : Fault). failed (List Entry) k) same))

body_failed : (v : Version) (lines : List (List ℕ)) (rest : List ℕ) (f : Fault) → body_of v (lines ++ rest ∷ []) ≡ Err f → BodyFails v lines rest f.line f.code
unfolding body_of
body_failed v [] rest f h =
    subst (λ (g : Fault). BodyFails v [] rest g.line g.code) (err_is {A = Read} (record { line = 2; code = BAD_LINE }) f h) (inl (λ first more parts form. absurd cc, refl, refl))
body_failed v (line ∷ lines) rest f h =
    start_failed v line lines rest f (start_of (parts_at 32 line)) (entries_from v [] 3 (lines ++ rest ∷ [])) refl refl (sym (body_of-line v line (lines ++ rest ∷ []) (rest_or_line lines rest)) ∙ h)

other_start : (v : Version) (line : List ℕ) (o : Option (List ℕ)) (e : Result (List Entry) Fault) → start_of (parts_at 32 line) ≡ o → (IsStartLine line → ⊥) → start_then v o e ≡ Err (record { line = 2; code = BAD_LINE })
other_start v line None e is other = refl
other_start v line (Some picks) e is other = let p = start_spelled line picks is in absurd (other (picks, p.0, p.1))

bad_start : (v : Version) (lines : List (List ℕ)) (rest : List ℕ) → HasBadStart lines → body_of v (lines ++ rest ∷ []) ≡ Err (record { line = 2; code = BAD_LINE })
unfolding body_of
bad_start v [] rest bad = refl
bad_start v (line ∷ lines) rest bad =
    body_of-line v line (lines ++ rest ∷ []) (rest_or_line lines rest) ∙ other_start v line (start_of (parts_at 32 line)) (entries_from v [] 3 (lines ++ rest ∷ [])) refl (bad line lines refl)

body_fails_at : (v : Version) (lines : List (List ℕ)) (rest : List ℕ) (line code : ℕ) → BodyFails v lines rest line code → body_of v (lines ++ rest ∷ []) ≡ Err (record { line = line; code = code })
body_fails_at v lines rest line code (inl (bad, l, c)) = rw (l, c) (bad_start v lines rest bad)
body_fails_at v lines rest line code (inr (first, more, parts, form, fails)) =
    let s = start_from_form first form in
    ap (λ (ls : List (List ℕ)). body_of v (ls ++ rest ∷ [])) parts
    ∙ body_of-line v first (more ++ rest ∷ []) (rest_or_line more rest)
    ∙ ap (λ (o : Option (List ℕ)). start_then v o (entries_from v [] 3 (more ++ rest ∷ []))) s.1
    ∙ ap (start_then v (Some s.0)) (entries_fail_at v [] 3 more rest line code fails)

-- ---- the first line

version_is : (line : List ℕ) (v : Version) → version_of line ≡ Some v → line ≡ header_in v
version_is line v h =
    elim (cases_Bool (bytes_eq line (codes "schedule 1"))) [
      | inl t ↦
          let same : One ≡ v = let k = rw t at h in cc in
          (bytes_eq-Decides line (codes "schedule 1")).0 t ∙ ap header_in same
      | inr f ↦
          elim (cases_Bool (bytes_eq line (codes "schedule 2"))) [
            | inl t ↦
                let same : Two ≡ v = let k = rw (f, t) at h in cc in
                (bytes_eq-Decides line (codes "schedule 2")).0 t ∙ ap header_in same
            | inr g ↦ absurd (let k = rw (f, g) at h in cc)
          ]
    ]

header_version : (v : Version) → version_of (header_in v) ≡ Some v
header_version One = refl
header_version Two = refl

-- ---- all lines

pub record LinesRead (lines : List (List ℕ)) (rest : List ℕ) (r : Read) : Type 0 where
  pub spelled : lines ≡ lines_in r.version r.schedule
  pub ended : rest ≡ []
  pub fits : Fits r.schedule
  pub few : length r.schedule.entries ≤ 2 ^ 22

header_read : (line : List ℕ) (lines : List (List ℕ)) (rest : List ℕ) (r : Read) (o : Option Version) → version_of line ≡ o → header_then o (lines ++ rest ∷ []) ≡ Ok r → LinesRead (line ∷ lines) rest r
header_read line lines rest r None is h = absurd cc
header_read line lines rest r (Some v) is h =
    let b = body_read v lines rest r h in
    let all : line ∷ lines ≡ lines_in v r.schedule = ap (λ (l : List ℕ). l ∷ lines) (version_is line v is) ∙ ap (λ (ls : List (List ℕ)). header_in v ∷ ls) b.spelled in
    record { spelled = all ∙ ap (λ (u : Version). lines_in u r.schedule) (sym b.version); ended = b.ended; fits = b.fits; few = b.few }

lines_read : (lines : List (List ℕ)) (rest : List ℕ) (r : Read) → lines_schedule (lines ++ rest ∷ []) ≡ Ok r → LinesRead lines rest r
unfolding lines_schedule
lines_read [] rest r h = absurd cc
lines_read (line ∷ lines) rest r h = header_read line lines rest r (version_of line) refl (sym (lines_schedule-line line (lines ++ rest ∷ []) (rest_or_line lines rest)) ∙ h)

lines_again : (v : Version) (w : Schedule) → Fits w → length w.entries ≤ 2 ^ 22 → lines_schedule (lines_in v w ++ [] ∷ []) ≡ Ok (as_read v w)
lines_again v w fits few =
    let lines = start_line w.start ∷ map group_line (groups_of v w.entries) in
    lines_schedule-line (header_in v) (lines ++ [] ∷ []) (rest_or_line lines [])
    ∙ ap (λ (o : Option Version). header_then o (lines ++ [] ∷ [])) (header_version v)
    ∙ body_again v w fits few

header_failed : (line : List ℕ) (lines : List (List ℕ)) (rest : List ℕ) (f : Fault) (o : Option Version) → version_of line ≡ o → header_then o (lines ++ rest ∷ []) ≡ Err f → LinesFail (line ∷ lines) rest f.line f.code
header_failed line lines rest f None is h =
    subst (λ (g : Fault). LinesFail (line ∷ lines) rest g.line g.code) (err_is {A = Read} (record { line = 1; code = BAD_HEADER }) f h)
    (inl (
      λ v more parts.
          let same : line ≡ header_in v = cc in
          let k = sym is ∙ ap version_of same ∙ header_version v in absurd cc,
      refl,
      refl,
    ))
header_failed line lines rest f (Some v) is h = inr (v, lines, ap (λ (l : List ℕ). l ∷ lines) (version_is line v is), body_failed v lines rest f h)

lines_failed : (lines : List (List ℕ)) (rest : List ℕ) (f : Fault) → lines_schedule (lines ++ rest ∷ []) ≡ Err f → LinesFail lines rest f.line f.code
unfolding lines_schedule
lines_failed [] rest f h =
    subst (λ (g : Fault). LinesFail [] rest g.line g.code) (err_is {A = Read} (record { line = 1; code = BAD_HEADER }) f h) (inl (λ v more e. absurd cc, refl, refl))
lines_failed (line ∷ lines) rest f h = header_failed line lines rest f (version_of line) refl (sym (lines_schedule-line line (lines ++ rest ∷ []) (rest_or_line lines rest)) ∙ h)

other_header : (line : List ℕ) (lines : List (List ℕ)) (rest : List ℕ) (o : Option Version) → version_of line ≡ o → HasBadHeader (line ∷ lines) → header_then o (lines ++ rest ∷ []) ≡ Err (record { line = 1; code = BAD_HEADER })
other_header line lines rest None is bad = refl
other_header line lines rest (Some v) is bad = absurd (bad v lines (ap (λ (l : List ℕ). l ∷ lines) (version_is line v is)))

bad_header : (lines : List (List ℕ)) (rest : List ℕ) → HasBadHeader lines → lines_schedule (lines ++ rest ∷ []) ≡ Err (record { line = 1; code = BAD_HEADER })
unfolding lines_schedule
bad_header [] rest bad = refl
bad_header (line ∷ lines) rest bad = lines_schedule-line line (lines ++ rest ∷ []) (rest_or_line lines rest) ∙ other_header line lines rest (version_of line) refl bad

lines_fail_at : (lines : List (List ℕ)) (rest : List ℕ) (line code : ℕ) → LinesFail lines rest line code → lines_schedule (lines ++ rest ∷ []) ≡ Err (record { line = line; code = code })
lines_fail_at lines rest line code (inl (bad, l, c)) = rw (l, c) (bad_header lines rest bad)
lines_fail_at lines rest line code (inr (v, more, parts, fails)) =
    ap (λ (ls : List (List ℕ)). lines_schedule (ls ++ rest ∷ [])) parts
    ∙ lines_schedule-line (header_in v) (more ++ rest ∷ []) (rest_or_line more rest)
    ∙ ap (λ (o : Option Version). header_then o (more ++ rest ∷ [])) (header_version v)
    ∙ body_fails_at v more rest line code fails

-- ---- a text

lines_of_text : (v : Version) (w : Schedule) → Fits w → length w.entries ≤ 2 ^ 22 → Lines (text_in v w) (lines_in v w) []
unfolding text_in
lines_of_text v w fits few = record {
  parts = sym (append-nil (flat_map ended (lines_in v w)));
  unbroken = (header_unbroken v, (start_unbroken w.start fits.start, lines_unbroken v None (groups_of v w.entries) (are_lines v w.entries fits.entries few)));
  rest_unbroken = tt;
}

pub schedule_read : (text : List ℕ) (r : Read) → schedule_of text ≡ Ok r → Schedules text r.version r.schedule
unfolding schedule_of text_in
schedule_read text r h =
    elim (cases_Bool (ltb (2 ^ 26) (length text))) [
      | inl t ↦ absurd (let g = rw t at h in cc)
      | inr f ↦
          let s = has_lines text in
          let g = sym (ap lines_schedule (parts_from_lines text s.lines s.rest s.split)) ∙ (rw f at h) in
          let p = lines_read s.lines s.rest r g in
          let spelled : text ≡ text_in r.version r.schedule =
          s.split.parts ∙ ap (λ (ls : List (List ℕ)). flat_map ended ls ++ s.rest) p.spelled ∙ ap (λ (x : List ℕ). flat_map ended (lines_in r.version r.schedule) ++ x) p.ended
          ∙ append-nil (flat_map ended (lines_in r.version r.schedule)) in
          record {
            spelled = spelled;
            fits = p.fits;
            limits = record { entries = p.few; bytes = subst (λ (t : List ℕ). length t ≤ 2 ^ 26) spelled (ltb-false _ _ f) };
          }
    ]

pub schedule_again : (text : List ℕ) (v : Version) (w : Schedule) → Schedules text v w → schedule_of text ≡ Ok (as_read v w)
unfolding schedule_of
schedule_again text v w h =
    let small : length text ≤ 2 ^ 26 = rw h.spelled h.limits.bytes in
    let lines = parts_from_lines (text_in v w) (lines_in v w) [] (lines_of_text v w h.fits h.limits.entries) in
    rw (le-ltb (2 ^ 26) (length text) small) (ap (λ (t : List ℕ). lines_schedule (parts_at 10 t)) h.spelled ∙ ap lines_schedule lines ∙ lines_again v w h.fits h.limits.entries)

pub schedule_failed : (text : List ℕ) (f : Fault) → schedule_of text ≡ Err f → FirstFault text f.line f.code
unfolding schedule_of
schedule_failed text f h =
    elim (cases_Bool (ltb (2 ^ 26) (length text))) [
      | inl t ↦
          subst (λ (g : Fault). FirstFault text g.line g.code) (err_is {A = Read} (record { line = 1; code = TOO_LONG }) f (rw t at h)) (inl (ltb-true _ _ t, refl, refl))
      | inr small ↦
          let s = has_lines text in
          let g = sym (ap lines_schedule (parts_from_lines text s.lines s.rest s.split)) ∙ (rw small at h) in
          inr (ltb-false _ _ small, (s.lines, s.rest, s.split, lines_failed s.lines s.rest f g))
    ]

pub schedule_fails_at : (text : List ℕ) (line code : ℕ) → FirstFault text line code → schedule_of text ≡ Err (record { line = line; code = code })
unfolding schedule_of
schedule_fails_at text line code (inl (long, l, c)) = rw (lt-ltb (2 ^ 26) (length text) long, l, c) refl
schedule_fails_at text line code (inr (small, (lines, rest, split, fails))) =
    rw (le-ltb (2 ^ 26) (length text) small) (ap lines_schedule (parts_from_lines text lines rest split) ∙ lines_fail_at lines rest line code fails)

-- a text has one version and one schedule at most
pub same_schedule : (text : List ℕ) (u v : Version) (w x : Schedule) → Schedules text u w → Schedules text v x → (u ≡ v) × (w ≡ x)
same_schedule text u v w x p q =
    let same = same_done (as_read u w) (as_read v x) (sym (schedule_again text u w p) ∙ schedule_again text v x q) in
    (ap (λ (r : Read). r.version) same, ap (λ (r : Read). r.schedule) same)

-- and a schedule one text in a version
pub same_text : (s t : List ℕ) (v : Version) (w : Schedule) → Schedules s v w → Schedules t v w → s ≡ t
same_text s t v w p q = p.spelled ∙ sym q.spelled

-- ---- what a reader answered

pub read_is_spelled : (text : List ℕ) (a : Result Read SchedFault) → Gives a (schedule_of text) → IfOk a (λ r. Schedules text r.version r.schedule)
read_is_spelled text (Ok r) given = schedule_read text r given
read_is_spelled text (Err f) given = tt

pub spelled_is_read : (text : List ℕ) (a : Result Read SchedFault) (v : Version) (w : Schedule) → Gives a (schedule_of text) → Schedules text v w → Gives a (done (as_read v w))
spelled_is_read text a v w given h = subst (Gives a) (schedule_again text v w h) given

pub answer_is_first : (text : List ℕ) (a : Result Read SchedFault) (line code : ℕ) → Gives a (schedule_of text) → a ≡ Err (Bad line code) → FirstFault text line code
answer_is_first text a line code given e = schedule_failed text (record { line = line; code = code }) (subst (λ (a : Result Read SchedFault). Gives a (schedule_of text)) e given)

pub first_is_answer : (text : List ℕ) (a : Result Read SchedFault) (line code : ℕ) → Gives a (schedule_of text) → FirstFault text line code → Gives a (failed Read (record { line = line; code = code }))
first_is_answer text a line code given h = subst (Gives a) (schedule_fails_at text line code h) given
