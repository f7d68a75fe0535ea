-- The names of a program are those of a text that defines them.
use Rattle.mr_grammar.proofs.Common.{map, Function, Program, local_texts, global_texts, text_at, ProgramBody, Definitions}
use Rattle.mr_ast.specs.Canon.{block_texts}
use Rattle.mr_ast.specs.Scope.{FunctionNames}

-- the names that a function, and a program, defines
abbrev pub function_definitions : Program → Function → FunctionNames
function_definitions p f = record { name = text_at p.names f.name; locals = local_texts p f; blocks = block_texts p f }

abbrev pub definitions_of : Program → Definitions
definitions_of p = record { globals = global_texts p; functions = map (function_definitions p) p.functions }

-- a program without its names
abbrev pub body_of : Program → ProgramBody
body_of p = record { edition = p.edition; globals = p.globals; functions = p.functions; start = p.start }
