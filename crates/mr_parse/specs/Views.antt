-- What contracts see of what is read beside the syntax: parts of functions, calls and programs.
use Rattle.std.specs.Prelude.{ℕ, List, Option, Result, Ok, codes, false}
use Rattle.mr_ast.specs.declared.program.Block.{Block}
use Rattle.mr_ast.specs.declared.program.Function.{Function}
use Rattle.mr_ast.specs.declared.program.Local.{Local}
use Rattle.mr_ast.specs.declared.program.LocalName.{LocalName}
use Rattle.mr_ast.specs.declared.expr.Place.{Place}
use Rattle.mr_ast.specs.declared.expr.Value.{Value}
use Rattle.mr_ast.specs.declared.program.BlockName.{BlockName}
use Rattle.mr_ast.specs.declared.program.Term.{Term}
use Rattle.mr_ast.specs.declared.program.Term.TheVariants as term
use Rattle.mr_ast.specs.Forms.{Word, Part}
use Rattle.mr_ast.specs.declared.words.Bracket.TheVariants.{Round}
use Rattle.mr_ast.specs.Scope.{Definitions, Scope}
use Rattle.mr_ast.specs.Writing.{ThePlace, Writing, block_use, listed, optional, ◌▪◌, ◌▸◌}
use Rattle.mr_ast.specs.ProgramGrammar.{FunctionBody, ProgramBody, values_form, with_name}
use Rattle.mr_words.specs.Defined.{unknown}
use Rattle.mr_words.specs.declared.fault.Stop.{Stop}
use Rattle.mr_parse.specs.declared.program.Head.{Head}
use Rattle.mr_parse.specs.declared.program.Inner.{Inner}
use Rattle.mr_parse.specs.declared.program.Parts.{Parts}
use Rattle.mr_parse.specs.declared.statements.Ways.{Ways}
use Rattle.mr_grammar.specs.Denotes.{definitions_in}
use Rattle.mr_grammar.specs.Parsing.{body_of}
use Rattle.mr_grammar.specs.Reading.{◌>>=◌, read}

abbrev pub body_of_parts : Parts → ProgramBody
body_of_parts p = record { edition = p.edition; globals = p.globals; functions = p.functions; start = p.start }

abbrev pub head_of : Head → List LocalName × LocalName
head_of h = (h.args, h.ret)

abbrev pub parts_of : Inner → List Local × List Block
parts_of i = (i.locals, i.blocks)

-- the blocks behind a call
abbrev pub ways_of : Ways → Option BlockName × Option BlockName
ways_of w = (w.next, w.unwind)

abbrev pub ways_form : Writing (Option BlockName × Option BlockName)
ways_form = optional (codes "to") block_use ▪ optional (codes "unwind") block_use

-- what stands behind the arguments of a call
abbrev pub call_end_form : Writing (Place × (Option BlockName × Option BlockName))
call_end_form = codes "->" ▸ Part (ThePlace false) ▪ ways_form

-- the call with this callee, these arguments and what was read
abbrev pub called : Value → List Value
    → Result ((Place × (Option BlockName × Option BlockName)) × List Word) Stop → Result (Term × List Word) Stop
called callee args read = read >>= λ x. Ok (term.Call callee args x.0.0 x.0.1.0 x.0.1.1, x.1)

-- the function that has this name and what was read
abbrev pub named : ℕ → Result (FunctionBody × List Word) Stop → Result (Function × List Word) Stop
named n read = read >>= λ x. Ok (with_name n x.0, x.1)

-- the unwinding with this payload and what was read
abbrev pub unwound : Value → Result (BlockName × List Word) Stop → Result (Term × List Word) Stop
unwound payload read = read >>= λ x. Ok (term.Unwind payload x.0, x.1)

-- the call with this callee, behind which its arguments stand
abbrev pub called_behind : ℕ → Scope → Value → List Word → Result (Term × List Word) Stop
called_behind room scope callee words =
    read room scope (listed Round values_form) words >>= λ args.
    called callee args.0 (read room scope call_end_form args.1)

-- the names that the words define, which are found where no name is known
abbrev pub defined_by : List Word → Result Definitions Stop
defined_by words = body_of unknown words >>= λ shape. Ok (definitions_in words shape)
