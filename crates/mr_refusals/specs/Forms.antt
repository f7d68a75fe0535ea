-- The first rule that a program breaks, as it is told.
use Rattle.std.specs.Prelude.{ℕ, List, ◌++◌, codes, Option, None, Some, slice_get}
use Rattle.mr_ast.specs.declared.program.BlockName.{BlockName}
use Rattle.mr_ast.specs.declared.program.Program.{Program}
use Rattle.mr_ast.specs.Canon.{global_texts}
use Rattle.mr_ast.specs.CanonValues.{text_at}
use Rattle.mr_lex.specs.Reading.{lexed}
use Rattle.mr_labels.specs.Words.{block_word, function_word}
use Rattle.mr_places.specs.declared.places.Spot.{Spot}
use Rattle.mr_typing.specs.declared.fault.FormFault.{FormFault}
use Rattle.mr_typing.specs.declared.fault.Item.{Item}
use Rattle.mr_typing.specs.declared.fault.Item.TheVariants.{Static, Function as InFunction}
use Rattle.mr_refusals.specs.Heads.{bare_text, marked_text}
use Rattle.mr_refusals.specs.Spots.{spot_of}

-- in which block, if in one
abbrev pub block_told : Program → ℕ → Option BlockName → List ℕ
block_told p n None = codes "\n"
block_told p n (Some b) = codes ", block " ++ block_word p b.0 (slice_get p.functions n) ++ codes "\n"

-- in which global, or in which function and block
abbrev pub item_told : Program → Item → Option BlockName → List ℕ
item_told p (Static n) block = codes "in global " ++ text_at (global_texts p) n ++ codes "\n"
item_told p (InFunction n) block = codes "in function " ++ function_word p n ++ block_told p n block

-- at the line of the place, where there is one
abbrev pub spot_told : List ℕ → List ℕ → ℕ → Option Spot → List ℕ
spot_told file text code None = bare_text file code
spot_told file text code (Some s) = marked_text file text s.line s.col code

-- THE FIRST RULE THAT A PROGRAM BREAKS, whose text is in a file
abbrev pub form_told : List ℕ → List ℕ → Program → FormFault → List ℕ
form_told file text p f = spot_told file text f.code (spot_of p f (lexed text)) ++ item_told p f.item f.block
