-- Files of places: the names that they declare, and where each step of a trace is.
use Rattle.std.specs.Prelude.{ℕ, ◌+◌, ◌^◌, Bool, false, not, ◌==◌, nat_lt, if◌then◌else◌, List, [], ◌∷◌, length, take}
use Rattle.std.specs.Prelude.{drop}
use Rattle.std.specs.Prelude.{bytes_eq, codes, flat_map, map, position, Option, None, Some, Result, Ok, Err}
use Rattle.std.specs.List.{slice_split}
use Rattle.mr_words.specs.AstWords.{is_number, value_of}
use Rattle.mr_traced.specs.declared.form.Places.{Places}
use Rattle.mr_traced.specs.declared.form.Site.{Site}
use Rattle.mr_traced.specs.declared.refusal.PlacesFault.{PlacesFault}
use Rattle.mr_traced.specs.declared.refusal.PlacesFault.TheVariants as fault
use Rattle.mr_traced.specs.declared.refusal.Untold.{Untold}
use Rattle.mr_traced.specs.declared.refusal.Untold.TheVariants as untold

-- what a file says: its names in order, and the site of each step, which is the number of the name of its place, and
-- maybe that of the variable that it uses
pub record Named : Type 0 where
  pub names : List (List ℕ)
  pub sites : List Site

-- the same as the code keeps it
abbrev pub named : Places → Named
named p = record { names = map (λ n. n.now) p.names.items; sites = p.sites.items }

-- where there is no file
abbrev pub no_names : Named
no_names = record { names = []; sites = [] }

-- ---- a line

-- the name that a line declares: `name NAME`, where NAME may have any bytes
abbrev pub name_of : List ℕ → Option (List ℕ)
name_of line = if bytes_eq (take 5 line) (codes "name ") then Some (drop 5 line) else None

-- a number in decimal below 2^32
abbrev pub number_in : List ℕ → Option ℕ
number_in word =
    if is_number word then (if nat_lt (value_of word) (2 ^ 32) then Some (value_of word) else None) else None

-- a place alone
abbrev pub at_place : Option ℕ → Option Site
at_place None = None
at_place (Some place) = Some (record { place = place; variable = None })

-- a place and a variable
abbrev pub with_variable : Option ℕ → Option ℕ → Option Site
with_variable None variable = None
with_variable (Some place) None = None
with_variable (Some place) (Some variable) = Some (record { place = place; variable = Some variable })

-- where the first blank of a line is known
abbrev pub site_cut : List ℕ → Option ℕ → Option Site
site_cut line None = at_place (number_in line)
site_cut line (Some at) = with_variable (number_in (take at line)) (number_in (drop (at + 1) line))

-- THE SITE THAT A LINE SPELLS: `P`, or `P V` with one blank
abbrev pub site_of : List ℕ → Option Site
site_of line = site_cut line (position (λ b. b == 32) line)

-- whether a line that declares this name and spells this site is wrong: it does neither, and has a byte
abbrev pub is_neither : Option (List ℕ) → Option Site → ℕ → Bool
is_neither (Some name) site bytes = false
is_neither None (Some site) bytes = false
is_neither None None bytes = not (bytes == 0)

abbrev pub is_wrong : List ℕ → Bool
is_wrong line = is_neither (name_of line) (site_of line) (length line)

-- ---- lines

abbrev pub name_list : Option (List ℕ) → List (List ℕ)
name_list None = []
name_list (Some name) = name ∷ []

-- the name of a line, where it declares one
abbrev pub name_in : List ℕ → List (List ℕ)
name_in line = name_list (name_of line)

abbrev pub site_list : Option Site → List Site
site_list None = []
site_list (Some site) = site ∷ []

abbrev pub site_unless : Option (List ℕ) → Option Site → List Site
site_unless (Some name) site = []
site_unless None site = site_list site

-- the site of a line, where it spells one
abbrev pub site_in : List ℕ → List Site
site_in line = site_unless (name_of line) (site_of line)

-- the names and the sites of lines
abbrev pub named_in : List (List ℕ) → Named
named_in lines = record { names = flat_map name_in lines; sites = flat_map site_in lines }

-- ---- a file

abbrev pub wrong : PlacesFault → Result Named Untold
wrong f = Err (untold.Places f)

-- the lines behind the first, of which maybe one is wrong; lines are counted from 1
abbrev pub unless_wrong : Option ℕ → List (List ℕ) → Result Named Untold
unless_wrong None lines = Ok (named_in lines)
unless_wrong (Some at) lines = wrong (fault.Line (at + 2))

-- the first line is `places 2`
abbrev pub lines_named : List (List ℕ) → Result Named Untold
lines_named [] = wrong fault.Header
lines_named (first ∷ lines) =
    if bytes_eq first (codes "places 2") then unless_wrong (position is_wrong lines) lines else wrong fault.Header

-- WHAT A FILE OF PLACES SAYS, or its first fault
unfoldable pub named_of : List ℕ → Result Named Untold
named_of text =
    if nat_lt (2 ^ 28) (length text) then wrong fault.TooLong else lines_named (slice_split (λ b. b == 10) text)
