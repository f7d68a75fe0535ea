-- The line of a rule that a program breaks.
use Rattle.std.specs.Prelude.{ℕ, List, [], ◌++◌, codes, decimal, Option, None, Some, slice_get}
use Rattle.mr_ast.specs.declared.program.BlockName.{BlockName}
use Rattle.mr_ast.specs.declared.program.Function.{Function}
use Rattle.mr_ast.specs.declared.program.Program.{Program}
use Rattle.mr_ast.specs.Canon.{block_texts, function_texts, global_texts}
use Rattle.mr_ast.specs.CanonValues.{text_at}
use Rattle.mr_ast.specs.FormRules.{name_by_code}
use Rattle.mr_typing.specs.declared.fault.FormFault.{FormFault}
use Rattle.mr_typing.specs.declared.fault.Item.{Item}
use Rattle.mr_typing.specs.declared.fault.Item.TheVariants.{Static, Function as InFunction}
use Rattle.mr_report.specs.Report.{line}

-- the name of the global or function at this position
abbrev pub item_text : Program → Item → List ℕ
item_text p (Static n) = text_at (global_texts p) n
item_text p (InFunction n) = text_at (function_texts p) n

-- the name of a block of a function, where there is one
abbrev pub text_in : Program → Option Function → BlockName → List ℕ
text_in p None name = []
text_in p (Some f) name = text_at (block_texts p f) name.0

-- the name of the block at this position in a function, and `-` outside blocks; a global has no block
abbrev pub block_text : Program → Item → Option BlockName → List ℕ
block_text p it None = codes "-"
block_text p (Static n) (Some name) = []
block_text p (InFunction n) (Some name) = text_in p (slice_get p.functions n) name

-- `form ITEM BLOCK PLACE CODE NAME`
abbrev pub form_line : Program → FormFault → List ℕ
form_line p fault =
    line (
    codes "form " ++ item_text p fault.item ++ codes " " ++ block_text p fault.item fault.block ++ codes " "
    ++ decimal fault.place
    ++ codes " " ++ decimal fault.code ++ codes " " ++ name_by_code fault.code
    )
