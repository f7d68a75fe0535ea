-- The rules of a well-formed program, by number and by name.
use Rattle.std.specs.Prelude.{ℕ, ◌==◌, List, [], ◌∷◌, codes, Option}
use Rattle.std.specs.List.{find}
use Rattle.std.specs.Option.{option_map_or}
use Rattle.mr_ast.specs.declared.rule.Rule.{Rule}
use Rattle.mr_ast.specs.declared.rule.Rule.TheVariants as rule

-- each rule has a number: 20 to 28 are on types, and 30 to 47 on the rest of a program
abbrev pub code_of : Rule → ℕ
code_of rule.TypeSize = 20
code_of rule.TypeAlign = 21
code_of rule.FieldOutside = 22
code_of rule.FieldOverlap = 23
code_of rule.SizeMultiple = 24
code_of rule.EnumVariant = 25
code_of rule.EnumTag = 26
code_of rule.EnumTree = 27
code_of rule.UnionChunk = 28
code_of rule.Arguments = 30
code_of rule.FirstBlock = 31
code_of rule.BlockKind = 32
code_of rule.Place = 33
code_of rule.Operand = 34
code_of rule.ConstRange = 35
code_of rule.Assign = 36
code_of rule.Discriminant = 37
code_of rule.LiveLocal = 38
code_of rule.Switch = 39
code_of rule.Callee = 40
code_of rule.Intrinsic = 41
code_of rule.Payload = 42
code_of rule.GlobalRef = 43
code_of rule.GlobalForm = 44
code_of rule.MainForm = 45
code_of rule.Aggregate = 46
code_of rule.Cast = 47

-- the name that stands behind the number where a rule is printed
abbrev pub name_of : Rule → List ℕ
name_of rule.TypeSize = codes "TypeSize"
name_of rule.TypeAlign = codes "TypeAlign"
name_of rule.FieldOutside = codes "FieldOutside"
name_of rule.FieldOverlap = codes "FieldOverlap"
name_of rule.SizeMultiple = codes "SizeMultiple"
name_of rule.EnumVariant = codes "EnumVariant"
name_of rule.EnumTag = codes "EnumTag"
name_of rule.EnumTree = codes "EnumTree"
name_of rule.UnionChunk = codes "UnionChunk"
name_of rule.Arguments = codes "Arguments"
name_of rule.FirstBlock = codes "FirstBlock"
name_of rule.BlockKind = codes "BlockKind"
name_of rule.Place = codes "Place"
name_of rule.Operand = codes "Operand"
name_of rule.ConstRange = codes "ConstRange"
name_of rule.Assign = codes "Assign"
name_of rule.Discriminant = codes "Discriminant"
name_of rule.LiveLocal = codes "LiveLocal"
name_of rule.Switch = codes "Switch"
name_of rule.Callee = codes "Callee"
name_of rule.Intrinsic = codes "Intrinsic"
name_of rule.Payload = codes "Payload"
name_of rule.GlobalRef = codes "GlobalRef"
name_of rule.GlobalForm = codes "GlobalForm"
name_of rule.MainForm = codes "MainForm"
name_of rule.Aggregate = codes "Aggregate"
name_of rule.Cast = codes "Cast"

-- all rules, by their numbers
abbrev pub rules : List Rule
rules =
    rule.TypeSize ∷ rule.TypeAlign ∷ rule.FieldOutside ∷ rule.FieldOverlap ∷ rule.SizeMultiple ∷
    rule.EnumVariant ∷ rule.EnumTag ∷ rule.EnumTree ∷ rule.UnionChunk ∷ rule.Arguments ∷ rule.FirstBlock ∷
    rule.BlockKind ∷ rule.Place ∷ rule.Operand ∷ rule.ConstRange ∷ rule.Assign ∷ rule.Discriminant ∷
    rule.LiveLocal ∷ rule.Switch ∷ rule.Callee ∷ rule.Intrinsic ∷ rule.Payload ∷ rule.GlobalRef ∷
    rule.GlobalForm ∷ rule.MainForm ∷ rule.Aggregate ∷ rule.Cast ∷ []

-- the rule of a number, where there is one
abbrev pub rule_of : ℕ → Option Rule
rule_of code = find (λ r. code_of r == code) rules

-- the name of the rule of a number, and none where there is no such rule
abbrev pub name_by_code : ℕ → List ℕ
name_by_code code = option_map_or name_of (rule_of code) []
