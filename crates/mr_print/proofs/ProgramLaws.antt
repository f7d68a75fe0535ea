-- What is written of globals, functions and programs, piece by piece.
use Rattle.mr_print.proofs.Common.{◌≡◌, ℕ, List, map, codes, decimal, flat_map, with_commas, texts_in, words_of_term, words_of_item, global_line, argument_words, local_words, stmt_line, block_lines, function_lines, with_word, with_words, with_last, with_line, with_lines}
use Rattle.std.proofs.lemmas.List.{take_all}
use Rattle.mr_ast.specs.declared.program.Block.{Block}
use Rattle.mr_ast.specs.declared.program.Function.{Function}
use Rattle.mr_ast.specs.declared.program.Global_.{Global_}
use Rattle.mr_ast.specs.declared.program.Program.{Program}
use Rattle.mr_ast.specs.CanonValues.{text_at}
use Rattle.mr_ast.specs.Canon.{local_texts, kind_word, head_line, locals_line, header_line, main_line, lines_of}
use Rattle.mr_print.proofs.AppendLaws.{with_words-none, line_laws, lines_laws}

pub written_global : (old : List ℕ) (p : Program) (g : Global_) → with_line old (global_line p g)
    ≡ with_last (with_words (with_word (with_word (with_word (with_word (with_word old (codes "global")) (text_at p.names g.name)) (codes "align")) (decimal g.align)) (codes "{")) (flat_map (words_of_item p) g.items)) (codes "}")
unfolding global_line
written_global old p g = simp line_laws

pub written_head : (old : List ℕ) (p : Program) (f : Function) → with_line old (head_line p f)
    ≡ with_last (with_word (with_word (with_word (with_words (with_word (with_word (with_word old (codes "fn")) (text_at p.names f.name)) (codes "(")) (with_commas (map (argument_words p f) f.args))) (codes ")")) (codes "->")) (text_at (local_texts p f) f.ret.0)) (codes "{")
unfolding head_line
written_head old p f = simp line_laws

pub written_locals : (old : List ℕ) (p : Program) (f : Function) → with_line old (locals_line p f)
    ≡ with_last (with_words (with_word old (codes "let")) (with_commas (map (local_words p) f.locals))) (codes ";")
unfolding locals_line
written_locals old p f = simp line_laws

pub ruleset locals_laws = (written_locals, with_words-none, take_all)

pub written_block : (old : List ℕ) (p : Program) (f : Function) (b : Block) → with_lines old (block_lines p f b)
    ≡ with_last (with_words (with_lines (with_last (with_word (with_word old (text_at p.names b.name)) (kind_word b.kind)) (codes ":")) (map (stmt_line (texts_in p f)) b.stmts)) (words_of_term (texts_in p f) b.term)) (codes ";")
unfolding block_lines
written_block old p f b = simp (lines_laws, line_laws)

pub written_function : (old : List ℕ) (p : Program) (f : Function) → with_lines old (function_lines p f)
    ≡ with_last (with_lines (with_line (with_line old (head_line p f)) (locals_line p f)) (flat_map (block_lines p f) f.blocks)) (codes "}")
unfolding function_lines
written_function old p f = simp (lines_laws, line_laws)

pub written_program : (old : List ℕ) (p : Program) → with_lines old (lines_of p)
    ≡ with_line (with_lines (with_lines (with_line old (header_line p.edition)) (map (global_line p) p.globals)) (flat_map (function_lines p) p.functions)) (main_line p)
unfolding lines_of
written_program old p = simp lines_laws
