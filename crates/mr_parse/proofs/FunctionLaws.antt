-- A function is read behind its name.
use Rattle.mr_parse.proofs.Common.{◌≡◌, ℕ, List, Ok, refl, ◌∙◌, codes, Word, Scope, body_form, function_form, expected, read}
use Rattle.std.proofs.Common.{nat_le}
use Rattle.mr_ast.specs.declared.words.Role.TheVariants.{DefinesFunction}
use Rattle.mr_ast.specs.Forms.{Then, In}
use Rattle.mr_ast.specs.Writing.{judged_name, name_form}
use Rattle.mr_ast.specs.ProgramGrammar.{inside_function, with_name}
use Rattle.mr_grammar.specs.Reading.{first_at}
use Rattle.mr_parse.specs.Views.{named}
use Rattle.mr_parse.proofs.Walk.LoopLaws.{behind_word}

-- its body stands inside it
pub function_reads : (room : ℕ) (scope : Scope) (k : ℕ) (ws rest behind : List Word) (name : ℕ) → expected (codes "fn") ws ≡ Ok rest
    → first_at (judged_name (nat_le 256 k) (DefinesFunction k) scope) rest ≡ Ok (name, behind)
    → read room scope (function_form k) ws ≡ named name (read room (inside_function k scope) body_form behind)
unfolding function_form
function_reads room scope k ws rest behind name word is =
    behind_word room scope (codes "fn") (Then with_name (name_form (nat_le 256 k) (DefinesFunction k)) (In (inside_function k) body_form)) ws rest word ∙ rw is refl
