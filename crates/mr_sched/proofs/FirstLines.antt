-- A line is read before those behind it.
use Rattle.mr_sched.proofs.Common.{◌≡◌, ℕ, ◌+◌, List, [], ◌∷◌, ◌++◌, refl, Entry, Version, body_of, entries_from, group_of, header_then, line_then, lines_schedule, on_entries, parts_at, start_of, start_then, version_of}

-- there is a line
abbrev pub HasFirst : List (List ℕ) → Type 0
HasFirst lines = (first : List ℕ) × (more : List (List ℕ)) × (lines ≡ first ∷ more)

-- there is one where a rest stands at the end
pub rest_or_line : (lines : List (List ℕ)) (rest : List ℕ) → HasFirst (lines ++ rest ∷ [])
rest_or_line [] rest = (rest, [], refl)
rest_or_line (line ∷ lines) rest = (line, lines ++ rest ∷ [], refl)

pub entries_from-line : (v : Version) (front : List Entry) (line : ℕ) (first : List ℕ) (lines : List (List ℕ)) → HasFirst lines
    → entries_from v front line (first ∷ lines) ≡ on_entries (λ es. entries_from v es (line + 1) lines) (line_then v front line (group_of v first))
unfolding entries_from
entries_from-line v front line first lines h = rw h.2 refl

pub body_of-line : (v : Version) (line : List ℕ) (lines : List (List ℕ)) → HasFirst lines → body_of v (line ∷ lines) ≡ start_then v (start_of (parts_at 32 line)) (entries_from v [] 3 lines)
unfolding body_of
body_of-line v line lines h = rw h.2 refl

pub lines_schedule-line : (line : List ℕ) (lines : List (List ℕ)) → HasFirst lines → lines_schedule (line ∷ lines) ≡ header_then (version_of line) lines
unfolding lines_schedule
lines_schedule-line line lines h = rw h.2 refl
