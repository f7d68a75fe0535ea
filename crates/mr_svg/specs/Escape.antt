-- Texts as character data of XML: no text can become markup.
use Rattle.std.specs.Prelude.{◌≡◌, ◌⊎◌, ℕ, ◌≤◌, ◌==◌, ◌&&◌, nat_le, if◌then◌else◌, List, [], ◌∷◌, ◌++◌, flat_map, codes}
use Rattle.std.specs.Prelude.{◌≢◌}

-- what is shown for a byte: itself where it is a printable character of ASCII or the end of a line, a space for a tab,
-- and a question mark for any other
abbrev pub shown_byte : ℕ → ℕ
shown_byte b =
    if b == 10 then 10 else (if b == 9 then 32 else (if nat_le 32 b && nat_le b 126 then b else 63))

-- a byte, by its name where markup is made of it: `<`, `>`, `&` and `"`
abbrev pub named_byte : ℕ → List ℕ
named_byte b =
    if b == 60 then codes "&lt;" else (if b == 62 then codes "&gt;" else (if b == 38 then codes "&amp;"
    else (if b == 34 then codes "&quot;" else b ∷ [])))

abbrev pub escaped_byte : ℕ → List ℕ
escaped_byte b = named_byte (shown_byte b)

-- WHAT IS WRITTEN OF A TEXT
abbrev pub escaped : List ℕ → List ℕ
escaped text = flat_map escaped_byte text

-- ---- reading it again

-- a character that stands for itself: a printable one of ASCII but the four of which markup is made, or the
-- end of a line
pub record IsPlain (b : ℕ) : Type 0 where
  pub printable : (b ≡ 10) ⊎ ((32 ≤ b) × (b ≤ 126))
  pub less : b ≢ 60
  pub greater : b ≢ 62
  pub ampersand : b ≢ 38
  pub quote : b ≢ 34

-- the names of these four
pub data IsNamed : List ℕ → ℕ → Type 0 where
  less : IsNamed (codes "&lt;") 60
  greater : IsNamed (codes "&gt;") 62
  ampersand : IsNamed (codes "&amp;") 38
  quote : IsNamed (codes "&quot;") 34

-- CHARACTER DATA, and the text as which it reads: characters that stand for themselves, and names
pub data Reads : List ℕ → List ℕ → Type 0 where
  nothing : Reads [] []
  plain : {b : ℕ} {bytes text : List ℕ} → IsPlain b → Reads bytes text → Reads (b ∷ bytes) (b ∷ text)
  named : {name : List ℕ} {b : ℕ} {bytes text : List ℕ} → IsNamed name b → Reads bytes text
      → Reads (name ++ bytes) (b ∷ text)
