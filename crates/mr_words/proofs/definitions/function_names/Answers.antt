use Rattle.mr_words.proofs.Common.{◌≡◌, List, ℕ, map, ap, ◌∙◌, Word, FunctionNames, Texts, function_names_in, text_at}
use Rattle.mr_ast.specs.declared.program.Function.{Function}
use Rattle.mr_words.proofs.definitions.function_names.Goals as goal

same : (words : List Word) (f : Function) (name : List ℕ) (locals blocks : Texts) → name ≡ text_at words f.name → locals ≡ map (λ l. text_at words l.name) f.locals
    → blocks ≡ map (λ b. text_at words b.name) f.blocks → ◌≡◌ {A = FunctionNames} (record { name = name; locals = locals; blocks = blocks }) (function_names_in words f)
same words f name locals blocks e1 e2 e3 = cc

pub returns : goal.returns
returns c =
    same _ c.args.function.now _ _ _ c.text_at.ensures (c.in_ok-local_names.ensures ∙ ap (map _) c.as_slice.ensures) (c.in_ok-block_names.ensures ∙ ap (map _) c.as_slice-2.ensures)
