-- What is written above the rows and below them.
use Rattle.std.specs.Prelude.{ℕ, zero, suc, ◌+◌, ◌-◌, ◌/◌, ◌==◌, ◌&&◌, not, if◌then◌else◌, List, [], ◌∷◌, ◌++◌, codes, decimal}
use Rattle.std.specs.Prelude.{count_by, drop, length, nat_lt, take}
use Rattle.std.specs.List.{prefix_len}
use Rattle.mr_svg.specs.declared.shape.Shape.TheVariants.{Words}
use Rattle.mr_svg.specs.declared.shape.Sign.TheVariants as sign
use Rattle.mr_svg.specs.Svg.{Mark}
use Rattle.mr_picture.specs.Grid.{is_line_end, tail_y, width}
use Rattle.mr_picture.specs.Scene.{Scene}
use Rattle.mr_picture.specs.Span.{holds_race}
use Rattle.mr_picture.specs.Steps.{mark_of}
use Rattle.mr_picture.specs.Texts.{cut_at}

-- ---- above

abbrev pub counted : ℕ → List ℕ → List ℕ → List ℕ
counted count one many = decimal count ++ (if count == 1 then one else many)

-- how many steps and races there are
abbrev pub title_text : Scene → List ℕ
title_text s =
    codes "a run of " ++ counted s.sketch.count (codes " step") (codes " steps") ++ codes ", "
    ++ counted (length s.sketch.races) (codes " race") (codes " races")

-- how many steps are drawn, and how many are left out
abbrev pub left_text : Scene → List ℕ
left_text s =
    codes "drawn: " ++ decimal (s.span.to - s.span.from) ++ codes "; left out: " ++ decimal s.span.from
    ++ codes " before them and " ++ decimal (s.sketch.count - s.span.to) ++ codes " behind"

-- which steps are drawn
abbrev pub steps_text : Scene → List ℕ
steps_text s =
    if (s.span.from == 0) && (s.span.to == s.sketch.count) then codes "all of them are drawn" else left_text s

-- how many races there are of which both steps are drawn
abbrev pub race_total : Scene → ℕ
race_total s = count_by (holds_race s.done) s.near

-- of how many races six are drawn, where there are more
abbrev pub six_text : ℕ → List ℕ
six_text races = codes "; of their " ++ decimal races ++ codes " races 6 are drawn"

abbrev pub races_text : ℕ → List ℕ
races_text races = if nat_lt 6 races then six_text races else []

-- WHICH STEPS ARE DRAWN, and what is left out
abbrev pub part_text : Scene → List ℕ
part_text s = steps_text s ++ races_text (race_total s)

abbrev pub title_mark : Scene → Mark
title_mark s = mark_of sign.Title (Words (record { x = 16; y = 30 })) (cut_at 70 (title_text s)) (title_text s)

-- so many bytes have room on a line
abbrev pub line_room : Scene → ℕ
line_room s = (width s - 40) / 8

abbrev pub part_mark : Scene → Mark
part_mark s = mark_of sign.Note (Words (record { x = 16; y = 54 })) (cut_at (line_room s) (part_text s)) (part_text s)

-- WHOSE THE LANES ARE, where it is known: each thread with its function, as far as there is room
abbrev pub names_mark : Scene → Mark
names_mark s =
    mark_of sign.Note (Words (record { x = 16; y = 70 })) (cut_at (line_room s) s.sketch.names) s.sketch.names

abbrev pub names_marks : Scene → List Mark
names_marks s = if length s.sketch.names == 0 then [] else names_mark s ∷ []

abbrev pub head_marks : Scene → List Mark
head_marks s = title_mark s ∷ part_mark s ∷ names_marks s

-- ---- below: the text of the run's end, line by line

abbrev pub line_length : List ℕ → ℕ
line_length text = prefix_len (λ b. not (is_line_end b)) text

-- the first line of a text, and what stands behind it
abbrev pub first_line : List ℕ → List ℕ
first_line text = take (line_length text) text

abbrev pub behind_line : List ℕ → List ℕ
behind_line text = drop (line_length text + 1) text

abbrev pub tail_mark : Scene → ℕ → List ℕ → Mark
tail_mark s n line = mark_of sign.Text (Words (record { x = 16; y = tail_y s n })) (cut_at 70 line) line

-- the marks of so many lines of a text, from a place on
abbrev pub line_marks : Scene → ℕ → ℕ → List ℕ → List Mark
line_marks s n zero text = []
line_marks s n (suc count) text = tail_mark s n (first_line text) ∷ line_marks s (n + 1) count (behind_line text)
