-- What `serde_json` is given of a report.
use Rattle.std.specs.Prelude.{ℕ, List, map, codes, Option, None, Some, option_map, string_bytes}
use Rattle.serde_json.specs.Data.{Data, null, string, number, unsigned, array, item, no_items}
use Rattle.serde_json.specs.Data.{object, member, no_members}
use Rattle.serde_json.specs.View.{items_of}
use Rattle.mr_report.specs.declared.encoding.Told.{Told}

-- the texts, each a string
abbrev pub texts_data : List (List ℕ) → Data
texts_data texts = array (items_of (map string texts))

-- two numbers
abbrev pub places_data : ℕ × ℕ → Data
places_data p = array (item (number (unsigned p.0)) (item (number (unsigned p.1)) no_items))

-- the races, each of two numbers
abbrev pub races_data : List (ℕ × ℕ) → Data
races_data races = array (items_of (map places_data races))

-- a string, or null
abbrev pub witness_data : Option (List ℕ) → Data
witness_data None = null
witness_data (Some text) = string text

-- the object with its four members in order
abbrev pub members_data : Data → Data → Data → Data → Data
members_data output races verdict witness =
    let last = member (codes "verdict") verdict (member (codes "witness") witness no_members) in
    object (member (codes "output") output (member (codes "races") races last))

-- what they are
abbrev pub report_data : List (List ℕ) → List (ℕ × ℕ) → List ℕ → Option (List ℕ) → Data
report_data output races verdict witness =
    members_data (texts_data output) (races_data races) (string verdict) (witness_data witness)

-- the object of what is told
abbrev pub told_data : Told → Data
told_data t =
    let texts = map (λ s. s.now) t.output.items in
    report_data texts t.races.items (string_bytes t.verdict) (option_map string_bytes t.witness)
