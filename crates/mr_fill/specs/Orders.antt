-- An order of threads, from its text: the turns that its words spell, or its first fault.
use Rattle.std.specs.Prelude.{ℕ, ◌+◌, ◌^◌, Bool, not, ◌==◌, ◌||◌, nat_lt, if◌then◌else◌, List, [], ◌∷◌, ◌++◌, length, map}
use Rattle.std.specs.Prelude.{replicate, Option, None, Some, Result, Ok, Err}
use Rattle.std.specs.List.{filter, slice_split}
use Rattle.mr_ast.specs.Words.{is_number, value_of}
use Rattle.mr_sched.specs.Limits.{max_bytes}
use Rattle.mr_sched.specs.Reading.{Fault, parts_at}
use Rattle.mr_sched.specs.declared.fault.TheConstants.{BAD_LINE, TOO_LONG}
use Rattle.mr_fill.specs.declared.order.Turn.{Turn}
use Rattle.mr_fill.specs.declared.order.Turns.{Turns}

-- how many turns an order may have
abbrev pub max_turns : ℕ
max_turns = 2 ^ 20

-- ---- a word

-- a number in decimal below a limit
abbrev pub number_below : ℕ → List ℕ → Option ℕ
number_below limit word =
    if is_number word then (if nat_lt (value_of word) limit then Some (value_of word) else None) else None

-- a thread
abbrev pub thread_of : List ℕ → Option ℕ
thread_of word = number_below (2 ^ 32) word

-- a number that isn't 0
abbrev pub positive : Option ℕ → Option ℕ
positive None = None
positive (Some n) = if n == 0 then None else Some n

-- how often a turn is taken: once at least, and no more often than an order has turns
abbrev pub count_of : List ℕ → Option ℕ
count_of word = positive (number_below (max_turns + 1) word)

-- the turn of a thread on a line, in which this thread gets a lock
abbrev pub turn_on : ℕ → ℕ → Option ℕ → Turn
turn_on line thread receiver = record { thread = thread; receiver = receiver; line = line }

-- `T`
abbrev pub alone : ℕ → Option ℕ → Option Turns
alone line None = None
alone line (Some t) = Some (record { turn = turn_on line t None; count = 1 })

-- `T>W`
abbrev pub giving : ℕ → Option ℕ → Option ℕ → Option Turns
giving line None receiver = None
giving line (Some t) None = None
giving line (Some t) (Some w) = Some (record { turn = turn_on line t (Some w); count = 1 })

-- `T*N`
abbrev pub repeated : ℕ → Option ℕ → Option ℕ → Option Turns
repeated line None count = None
repeated line (Some t) None = None
repeated line (Some t) (Some n) = Some (record { turn = turn_on line t None; count = n })

-- `T` or `T>W`, by the parts of a word between its `>`
abbrev pub given_of : ℕ → List (List ℕ) → Option Turns
given_of line [] = None
given_of line (t ∷ []) = alone line (thread_of t)
given_of line (t ∷ w ∷ []) = giving line (thread_of t) (thread_of w)
given_of line (t ∷ w ∷ other ∷ more) = None

-- the same, or `T*N`, by the parts of a word between its `*`
abbrev pub starred_of : ℕ → List ℕ → List (List ℕ) → Option Turns
starred_of line word [] = None
starred_of line word (whole ∷ []) = given_of line (parts_at 62 word)
starred_of line word (t ∷ n ∷ []) = repeated line (thread_of t) (count_of n)
starred_of line word (t ∷ n ∷ other ∷ more) = None

-- THE TURNS THAT A WORD SPELLS: `T`, `T*N` or `T>W`
unfoldable pub turns_of : ℕ → List ℕ → Option Turns
turns_of line word = starred_of line word (parts_at 42 word)

-- ---- the words of a text

-- a blank, a tab or a carriage return
abbrev pub is_blank : ℕ → Bool
is_blank b = (b == 32) || ((b == 9) || (b == 13))

-- a word has a byte
abbrev pub is_word : List ℕ → Bool
is_word part = not (length part == 0)

-- the words between blanks
abbrev pub words_in : List ℕ → List (List ℕ)
words_in text = filter is_word (slice_split is_blank text)

-- the first of some parts
abbrev pub first_part : List (List ℕ) → List ℕ
first_part [] = []
first_part (part ∷ parts) = part

-- the words of a line; a comment begins with `#` and reaches to the end of the line
abbrev pub words_of : List ℕ → List (List ℕ)
words_of line = words_in (first_part (parts_at 35 line))

-- words, each with its line
abbrev pub on_line : ℕ → List (List ℕ) → List (ℕ × List ℕ)
on_line line words = map (λ word. (line, word)) words

-- the words of some lines, each with its line
abbrev pub numbered_words : ℕ → List (List ℕ) → List (ℕ × List ℕ)
numbered_words line [] = []
numbered_words line (l ∷ ls) = on_line line (words_of l) ++ numbered_words (line + 1) ls

-- ---- the turns of a text

-- the turns so far and those of a word behind them, which stands on this line
abbrev pub turns_then : List Turn → ℕ → Option Turns → Result (List Turn) Fault
turns_then front line None = Err (record { line = line; code = BAD_LINE })
turns_then front line (Some ts) =
    if nat_lt max_turns (length front + ts.count) then Err (record { line = line; code = TOO_LONG })
    else Ok (front ++ replicate ts.count ts.turn)

abbrev pub word_then : List Turn → ℕ → List ℕ → Result (List Turn) Fault
word_then front line word = turns_then front line (turns_of line word)

-- what comes of turns, where there is no fault
abbrev pub on_turns : (List Turn → Result (List Turn) Fault) → Result (List Turn) Fault → Result (List Turn) Fault
on_turns f (Ok turns) = f turns
on_turns f (Err fault) = Err fault

-- the turns so far and those of some words behind them
abbrev pub order_from : List Turn → List (ℕ × List ℕ) → Result (List Turn) Fault
order_from front [] = Ok front
order_from front (w ∷ ws) = on_turns (λ turns. order_from turns ws) (word_then front w.0 w.1)

-- THE ORDER OF A TEXT: the turns that its words spell, in order; or the line of the first word that spells none, or
-- that spells a turn too many
unfoldable pub order_of : List ℕ → Result (List Turn) Fault
order_of text =
    if nat_lt max_bytes (length text) then Err (record { line = 1; code = TOO_LONG })
    else order_from [] (numbered_words 1 (parts_at 10 text))
