-- The rules of texts, by number and by name.
use Rattle.std.specs.Prelude.{ℕ, ◌==◌, List, [], ◌∷◌, codes, Option}
use Rattle.std.specs.List.{find}
use Rattle.std.specs.Option.{option_map_or}
use Rattle.mr_lex.specs.declared.rule.TextRule.{TextRule}
use Rattle.mr_lex.specs.declared.rule.TextRule.TheVariants.{BadByte, BadNumber, LongText, Unexpected, UnknownName}
use Rattle.mr_lex.specs.declared.rule.TextRule.TheVariants.{DoubleName, TooDeep, TooMany, Exposed}

-- each rule has a number, from 1 on
abbrev pub code_of : TextRule → ℕ
code_of BadByte = 1
code_of BadNumber = 2
code_of LongText = 3
code_of Unexpected = 4
code_of UnknownName = 5
code_of DoubleName = 6
code_of TooDeep = 7
code_of TooMany = 8
code_of Exposed = 9

-- the name that stands behind the number where a rule is printed
abbrev pub name_of : TextRule → List ℕ
name_of BadByte = codes "BadByte"
name_of BadNumber = codes "BadNumber"
name_of LongText = codes "LongText"
name_of Unexpected = codes "Unexpected"
name_of UnknownName = codes "UnknownName"
name_of DoubleName = codes "DoubleName"
name_of TooDeep = codes "TooDeep"
name_of TooMany = codes "TooMany"
name_of Exposed = codes "Exposed"

-- all rules, by their numbers
abbrev pub rules : List TextRule
rules =
    BadByte ∷ BadNumber ∷ LongText ∷ Unexpected ∷ UnknownName ∷ DoubleName ∷ TooDeep ∷ TooMany ∷ Exposed ∷ []

-- the rule of a number, where there is one
abbrev pub rule_of : ℕ → Option TextRule
rule_of code = find (λ r. code_of r == code) rules

-- the name of the rule of a number, and none where there is no such rule
abbrev pub name_by_code : ℕ → List ℕ
name_by_code code = option_map_or name_of (rule_of code) []
