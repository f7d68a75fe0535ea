-- Reading what words write in a form, computed from left to right. Each part answers what it read and the words
-- behind it, or where it stops.
use Rattle.std.specs.Prelude.{ℕ, zero, suc, ◌==◌, ◌||◌, Bool, false, if◌then◌else◌, List, [], ◌∷◌, length, bytes_eq}
use Rattle.std.specs.Prelude.{Option, None, Some, Result, Ok, Err}
use Rattle.mr_ast.specs.Scope.{Scope}
use Rattle.mr_words.specs.declared.fault.Stop.{Stop}
use Rattle.mr_ast.specs.Writing.{Kind, Meaning, Writing}
use Rattle.mr_ast.specs.Spelled.{form_of}
use Rattle.mr_ast.specs.declared.words.Bracket.{Bracket}
use Rattle.mr_ast.specs.Forms.{Word, opening, closing, Form, Empty, Then, Cases, Either, Many, Within, Part, In}

-- the stop with this code at the first of these words, or behind the last word of the text
abbrev pub stop : {A : Type 0} → ℕ → List Word → Result A Stop
stop code words = Err (record { code = code; left = length words })

abbrev pub Reads : Type 0 → Type 0
Reads A = List Word → Result (A × List Word) Stop

infixl 10 ◌>>=◌
abbrev pub ◌>>=◌ : {A B : Type 0} → Result A Stop → (A → Result B Stop) → Result B Stop
(Ok x) >>= f = f x
(Err s) >>= f = Err s

-- what the first word is judged to be, and the words behind it, unless it is nothing or breaks a limit
abbrev pub taken : {I : Type 0} → Option (I × Option ℕ) → Word → List Word → Result (I × List Word) Stop
taken None w ws = stop 4 (w ∷ ws)
taken (Some (i, None)) w ws = Ok (i, ws)
taken (Some (i, Some code)) w ws = stop code (w ∷ ws)

abbrev pub first_at : {I : Type 0} → (Word → Option (I × Option ℕ)) → Reads I
first_at judge [] = stop 4 []
first_at judge (w ∷ ws) = taken (judge w) w ws

-- the words behind this one, where it is the next
abbrev pub expected : List ℕ → List Word → Result (List Word) Stop
expected text [] = stop 4 []
expected text (w ∷ ws) = if bytes_eq w.text text then Ok ws else stop 4 (w ∷ ws)

-- the words behind an opening bracket, where one may be opened
abbrev pub opened : Bool → Bracket → List Word → Result (List Word) Stop
opened full bracket [] = stop 4 []
opened full bracket (w ∷ ws) =
    if bytes_eq w.text (opening bracket) then (if full then stop 7 (w ∷ ws) else Ok ws) else stop 4 (w ∷ ws)

-- the words behind this one, where it is the next and not one too many
abbrev pub limited : ℕ → Bool → List ℕ → List Word → Result (List Word) Stop
limited code over text [] = stop 4 []
limited code over text (w ∷ ws) =
    if bytes_eq w.text text then (if over then stop code (w ∷ ws) else Ok ws) else stop 4 (w ∷ ws)

-- whether the next word passes the test
abbrev pub is_next : (List ℕ → Bool) → List Word → Bool
is_next test [] = false
is_next test (w ∷ ws) = test w.text

-- things in a row, while the next word passes the test; so many at most, and the first has this number
unfoldable pub many_at : {A : Type 0} → (ℕ → Reads A) → (List ℕ → Bool) → ℕ → ℕ → Reads (List A)
many_at read test zero k ws = Ok ([], ws)
many_at read test (suc most) k ws =
    if is_next test ws then (do
      x ← read k ws
      xs ← many_at read test most (suc k) x.1
      Ok (x.0 ∷ xs.0, xs.1))
    else Ok ([], ws)

abbrev pub Reading : (S P : Type 0) (M : P → Type 0) → Type 1
Reading S P M = S → (A : Type 0) → Form S P M A → Reads A

-- what the words write in the form
abbrev pub read_by : {S P : Type 0} {M : P → Type 0} → Bool → Reading S P M → (S → (p : P) → Reads (M p)) → S
    → {A : Type 0} → Form S P M A → Reads A
read_by full inside part scope (Empty a) ws = Ok (a, ws)
read_by full inside part scope (Then f a b) ws = do
  x ← read_by full inside part scope a ws
  y ← read_by full inside part scope b x.1
  Ok (f x.0 y.0, y.1)
read_by full inside part scope (Cases judge form) ws = do
  i ← first_at (judge scope) ws
  read_by full inside part scope (form i.0) i.1
read_by full inside part scope (Either test a b) ws =
    if is_next test ws then read_by full inside part scope a ws else read_by full inside part scope b ws
read_by full inside part scope (Many test form) ws =
    many_at (λ k. read_by full inside part scope (form k)) test (length ws) 0 ws
read_by full inside part scope (Within {A} over bracket a) ws = do
  rest ← opened (over || full) bracket ws
  x ← inside scope A a rest
  end ← expected (closing bracket) x.1
  Ok (x.0, end)
read_by full inside part scope (Part p) ws = part scope p ws
read_by full inside part scope (In into a) ws = read_by full inside part (into scope) a ws

-- no part is read
abbrev pub no_part : Scope → (kind : Kind) → Reads (Meaning kind)
no_part scope kind ws = stop 4 ws

-- What stands inside a bracket, where so many may be open, this one included.
unfoldable pub read_inside : ℕ → Scope → (A : Type 0) → Writing A → Reads A
read_inside zero scope A form ws = stop 7 ws
read_inside (suc room) scope A form ws =
    read_by (room == 0) (read_inside room)
    (λ inner kind. read_by (room == 0) (read_inside room) no_part inner (form_of kind)) scope form ws

-- a thing of a kind, where so many brackets may be opened
unfoldable pub read_part : ℕ → Scope → (kind : Kind) → Reads (Meaning kind)
read_part room scope kind ws = read_by (room == 0) (read_inside room) no_part scope (form_of kind) ws

-- a thing in a form, of which no part stands outside brackets
abbrev pub read_outside : ℕ → Scope → {A : Type 0} → Writing A → Reads A
read_outside room scope form ws = read_by (room == 0) (read_inside room) no_part scope form ws

-- a thing in a form
abbrev pub read : ℕ → Scope → {A : Type 0} → Writing A → Reads A
read room scope form ws = read_by (room == 0) (read_inside room) (read_part room) scope form ws
