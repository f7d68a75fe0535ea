-- Where a thread stands, as it is written: by the statement's place in the program's text.
use Rattle.std.specs.Prelude.{ℕ, Bool, not, ◌&&◌, ◌==◌, nat_lt, if◌then◌else◌, List, [], ◌++◌, codes, decimal}
use Rattle.std.specs.Prelude.{drop, take, length, min, Option, None, Some, slice_get}
use Rattle.std.specs.List.{prefix_len}
use Rattle.mr_places.specs.declared.places.Spot.{Spot}
use Rattle.mr_places.specs.Laid.{spot_at}
use Rattle.mr_labels.specs.declared.step.Stand.{Stand}
use Rattle.mr_listing.specs.Seen.{Seen}
use Rattle.mr_labels.specs.Words.{block_word, function_word}

-- whether a byte isn't the end of a statement, of its line, or of its line's part before a comment: `;`, LF, CR, `#`
abbrev pub is_inside : ℕ → Bool
is_inside b = not (b == 59) && (not (b == 10) && (not (b == 13) && not (b == 35)))

-- what stands behind the part of a statement that is written: nothing where the statement ends, else ` ..`
abbrev pub behind_cut : Option ℕ → List ℕ
behind_cut None = codes " .."
behind_cut (Some b) = if b == 59 then [] else codes " .."

-- the same behind so many bytes of a statement, of which 60 are written at most
abbrev pub behind_front : List ℕ → ℕ → List ℕ
behind_front rest count = if nat_lt 60 count then codes " .." else behind_cut (slice_get rest count)

-- so many bytes of a statement, and no more than 60
abbrev pub cut_text : List ℕ → ℕ → List ℕ
cut_text rest count = take (min count 60) rest ++ behind_front rest count

-- THE STATEMENT that begins at a byte of the text, as far as it stands on its first line: up to its end, to the end of
-- the line, or to a comment
abbrev pub statement_text : List ℕ → ℕ → List ℕ
statement_text text at =
    if nat_lt (length text) at then [] else cut_text (drop at text) (prefix_len is_inside (drop at text))

-- `LINE:COLUMN`
abbrev pub spot_text : Spot → List ℕ
spot_text spot = decimal spot.line ++ codes ":" ++ decimal spot.col

-- `LINE:COLUMN  FUNCTION BLOCK  STATEMENT`
abbrev pub found_text : Seen → Stand → Spot → List ℕ
found_text s stand spot =
    spot_text spot ++ codes "  " ++ function_word s.program stand.function
    ++ codes " " ++ block_word s.program stand.block (slice_get s.program.functions stand.function)
    ++ codes "  " ++ statement_text s.text spot.at

abbrev pub spot_found : Seen → Stand → Option Spot → List ℕ
spot_found s stand None = []
spot_found s stand (Some spot) = found_text s stand spot

-- WHERE A THREAD STANDS, if it does
abbrev pub stand_text : Seen → Option Stand → List ℕ
stand_text s None = []
stand_text s (Some stand) = spot_found s stand (spot_at s.laid stand.function stand.block stand.at)
