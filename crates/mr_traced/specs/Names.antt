-- Names of places and variables, as they are written.
use Rattle.std.specs.Prelude.{ℕ, ◌&&◌, nat_le, if◌then◌else◌, List, [], ◌++◌, codes, decimal, map, Option, None, Some}
use Rattle.std.specs.Prelude.{slice_get}
use Rattle.mr_traced.specs.declared.form.Site.{Site}
use Rattle.mr_traced.specs.Seen.{Seen}

-- what is shown for a byte: itself where it is a printable character of ASCII, and a question mark for any other
abbrev pub shown_byte : ℕ → ℕ
shown_byte b = if nat_le 32 b && nat_le b 126 then b else 63

-- a name, or `name N` of a number that has none
abbrev pub shown_name : ℕ → Option (List ℕ) → List ℕ
shown_name number None = codes "name " ++ decimal number
shown_name number (Some name) = map shown_byte name

-- THE NAME OF A NUMBER
abbrev pub name_text : Seen → ℕ → List ℕ
name_text s number = shown_name number (slice_get s.names number)

-- the name of a place
abbrev pub place_text : Seen → Option Site → List ℕ
place_text s None = []
place_text s (Some site) = name_text s site.place

-- that of a variable, behind a place
abbrev pub variable_text : Seen → Option ℕ → List ℕ
variable_text s None = []
variable_text s (Some variable) = codes "  " ++ name_text s variable

-- a site by itself
abbrev pub spot_text : Seen → Option Site → List ℕ
spot_text s None = []
spot_text s (Some site) = name_text s site.place ++ variable_text s site.variable

-- a site behind a step: its place, and the variable
abbrev pub site_text : Seen → Option Site → List ℕ
site_text s None = []
site_text s (Some site) = codes "  " ++ name_text s site.place ++ variable_text s site.variable
