use Rattle.mr_words.proofs.Common.{◌≡◌, ◌+◌, ℕ, List, Bool, Option, Some, None, bytes_eq, if◌then◌else◌, length, sym, ap, subst, ◌∙◌, position_or_len, Definitions, as_function, as_global, is_number, names_of, number_in, number_of_name, used_in}
use Rattle.std.proofs.Common.{Result}
use Rattle.mr_ast.specs.declared.words.Role.{Role}
use Rattle.mr_ast.specs.declared.words.Role.TheVariants.{DefinesGlobal, DefinesFunction, DefinesLocal, DefinesBlock, UsesGlobal, UsesFunction, UsesLocal, UsesBlock}
use Rattle.mr_words.specs.Naming.{known_names}
use Rattle.mr_words.specs.Numbers.{Numbers}
use Rattle.mr_words.proofs.NamingLaws.{block_named, item_named, local_named}
use Rattle.mr_words.proofs.scope.Scope.number_in.Goals as goal

-- what is found for the role that it is
of_role : (d : Definitions) (f : ℕ) (t : List ℕ) (role other : Role) (r : Result ℕ ℕ) (found : ℕ × Option ℕ) → role ≡ other → Numbers r found → found ≡ number_of_name d f other t
    → Numbers r (number_of_name d f role t)
of_role d f t role other r found is numbers same = subst (λ o. Numbers r (number_of_name d f o t)) (sym is) (subst (Numbers r) same numbers)

-- what a name that is defined stands for, where it is the first of its name or not
abbrev first_or_fault : Definitions → List ℕ → Bool → ℕ × Option ℕ
first_or_fault d t first = (position_or_len (bytes_eq t) (names_of d), if first then None else Some 6)

pub defined-requires : goal.defined-requires
defined-requires c = λ e. item_named c.args.tables.now c.args.text.now c.in-DefinesGlobal.k (sym (c.is_number.ensures ∙ ap (is_number c.in-DefinesGlobal.k) c.item.ensures) ∙ e)

pub returns-in-DefinesGlobal : goal.returns-in-DefinesGlobal
unfolding number_of_name
returns-in-DefinesGlobal c =
    of_role c.args.tables.now c.args.self.now.function c.args.text.now c.args.role (DefinesGlobal c.in-DefinesGlobal.k) c.defined.result _ c.in-DefinesGlobal.is c.defined.ensures
    (ap (first_or_fault c.args.tables.now c.args.text.now) (c.is_number.ensures ∙ ap (is_number c.in-DefinesGlobal.k) c.item.ensures))

pub defined-requires-in-DefinesFunction : goal.defined-requires-in-DefinesFunction
defined-requires-in-DefinesFunction c = λ e. item_named c.args.tables.now c.args.text.now (length c.args.tables.now.globals + c.in-DefinesFunction.k) (sym (c.is_number-in-DefinesFunction.ensures ∙ ap (λ n. is_number (n + c.in-DefinesFunction.k) c.item-in-DefinesFunction.result) c.globals-globals.ensures.count ∙ ap (is_number (length c.args.tables.now.globals + c.in-DefinesFunction.k)) c.item-in-DefinesFunction.ensures) ∙ e)

pub returns-in-DefinesFunction : goal.returns-in-DefinesFunction
unfolding number_of_name
returns-in-DefinesFunction c =
    of_role c.args.tables.now c.args.self.now.function c.args.text.now c.args.role (DefinesFunction c.in-DefinesFunction.k) c.defined-in-DefinesFunction.result _ c.in-DefinesFunction.is c.defined-in-DefinesFunction.ensures
    (ap (first_or_fault c.args.tables.now c.args.text.now) (c.is_number-in-DefinesFunction.ensures ∙ ap (λ n. is_number (n + c.in-DefinesFunction.k) c.item-in-DefinesFunction.result) c.globals-globals.ensures.count ∙ ap (is_number (length c.args.tables.now.globals + c.in-DefinesFunction.k)) c.item-in-DefinesFunction.ensures))

pub defined-requires-in-DefinesLocal : goal.defined-requires-in-DefinesLocal
defined-requires-in-DefinesLocal c = λ e. local_named c.args.tables.now c.args.text.now c.in-DefinesLocal.k c.args.self.now.function (sym (c.is_number-in-DefinesLocal.ensures ∙ ap (is_number c.in-DefinesLocal.k) (c.local.ensures ∙ ap (λ o. number_in (known_names o c.args.self.now.function).locals c.args.text.now) c.requires)) ∙ e)

pub returns-in-DefinesLocal : goal.returns-in-DefinesLocal
unfolding number_of_name
returns-in-DefinesLocal c =
    of_role c.args.tables.now c.args.self.now.function c.args.text.now c.args.role (DefinesLocal c.in-DefinesLocal.k) c.defined-in-DefinesLocal.result _ c.in-DefinesLocal.is c.defined-in-DefinesLocal.ensures
    (ap (first_or_fault c.args.tables.now c.args.text.now) (c.is_number-in-DefinesLocal.ensures ∙ ap (is_number c.in-DefinesLocal.k) (c.local.ensures ∙ ap (λ o. number_in (known_names o c.args.self.now.function).locals c.args.text.now) c.requires)))

pub defined-requires-in-DefinesBlock : goal.defined-requires-in-DefinesBlock
defined-requires-in-DefinesBlock c = λ e. block_named c.args.tables.now c.args.text.now c.in-DefinesBlock.k c.args.self.now.function (sym (c.is_number-in-DefinesBlock.ensures ∙ ap (is_number c.in-DefinesBlock.k) (c.block.ensures ∙ ap (λ o. number_in (known_names o c.args.self.now.function).blocks c.args.text.now) c.requires)) ∙ e)

pub returns-in-DefinesBlock : goal.returns-in-DefinesBlock
unfolding number_of_name
returns-in-DefinesBlock c =
    of_role c.args.tables.now c.args.self.now.function c.args.text.now c.args.role (DefinesBlock c.in-DefinesBlock.k) c.defined-in-DefinesBlock.result _ c.in-DefinesBlock.is c.defined-in-DefinesBlock.ensures
    (ap (first_or_fault c.args.tables.now c.args.text.now) (c.is_number-in-DefinesBlock.ensures ∙ ap (is_number c.in-DefinesBlock.k) (c.block.ensures ∙ ap (λ o. number_in (known_names o c.args.self.now.function).blocks c.args.text.now) c.requires)))

pub returns-in-UsesGlobal : goal.returns-in-UsesGlobal
unfolding number_of_name
returns-in-UsesGlobal c =
    of_role c.args.tables.now c.args.self.now.function c.args.text.now c.args.role UsesGlobal c.as_global.result _ c.in-UsesGlobal.is c.as_global.ensures
    (ap (λ n. used_in (as_global n c.item-in-UsesGlobal.result)) c.globals-globals.ensures.count ∙ ap (λ found. used_in (as_global (length c.args.tables.now.globals) found)) c.item-in-UsesGlobal.ensures)

pub returns-in-UsesFunction : goal.returns-in-UsesFunction
unfolding number_of_name
returns-in-UsesFunction c =
    of_role c.args.tables.now c.args.self.now.function c.args.text.now c.args.role UsesFunction c.as_function.result _ c.in-UsesFunction.is c.as_function.ensures
    (ap (λ n. used_in (as_function n c.item-in-UsesFunction.result)) c.globals-globals.ensures.count ∙ ap (λ found. used_in (as_function (length c.args.tables.now.globals) found)) c.item-in-UsesFunction.ensures)

pub returns-in-UsesLocal : goal.returns-in-UsesLocal
unfolding number_of_name
returns-in-UsesLocal c =
    of_role c.args.tables.now c.args.self.now.function c.args.text.now c.args.role UsesLocal c.used.result _ c.in-UsesLocal.is c.used.ensures
    (ap used_in (c.local-in-UsesLocal.ensures ∙ ap (λ o. number_in (known_names o c.args.self.now.function).locals c.args.text.now) c.requires))

pub returns-in-UsesBlock : goal.returns-in-UsesBlock
unfolding number_of_name
returns-in-UsesBlock c =
    of_role c.args.tables.now c.args.self.now.function c.args.text.now c.args.role UsesBlock c.used-in-UsesBlock.result _ c.in-UsesBlock.is c.used-in-UsesBlock.ensures
    (ap used_in (c.block-in-UsesBlock.ensures ∙ ap (λ o. number_in (known_names o c.args.self.now.function).blocks c.args.text.now) c.requires))
