use Rattle.mr_layout.proofs.Common.{◌≡◌, ◌++◌, ◌∷◌, [], List, None, refl, sym, subst, ◌∙◌, inl, Ty, held_types, AreDefined, Adds}
use Rattle.std.specs.Map.{lookup}
use Rattle.indexmap.proofs.CallerLemmas.{insert_entry-new}
use Rattle.mr_ast.specs.Equal.{equal_types}
use Rattle.mr_layout.proofs.CacheLaws.{is_type, added, held_already, none_there, still_defined}
use Rattle.mr_layout.proofs.cache.Cache.add.Goals as goal

pub returns-then-contains_key : goal.returns-then-contains_key
returns-then-contains_key c =
    subst (λ (held : List Ty). Adds held c.args.t.now held) c.self.view_is
    (inl (held_already c.self.inside.entries.entries c.args.t.now c.self.invariant (sym c.contains_key.ensures ∙ c.if-contains_key.true), refl))

pub returns : goal.returns
returns c =
    let entries = c.self.inside.entries.entries in
    let none : lookup (is_type c.args.t.now) entries ≡ None = none_there _ (sym c.contains_key.ensures ∙ c.if-contains_key.false) in
    let last : c.insert.new.self.entries ≡ entries ++ (c.args.t, c.defined_layout.result) ∷ [] =
    c.in_ok-insert.ensures.entries ∙ insert_entry-new (λ x y. equal_types x.now y.now) c.self.inside.entries c.args.t c.defined_layout.result none in
    subst (λ (held : List Ty). Adds held c.args.t.now (held_types c.insert.new.self.entries)) c.self.view_is
    (subst (λ es. Adds (held_types entries) c.args.t.now (held_types es)) (sym last) (added entries c.args.t c.defined_layout.result none))

pub invariant_of-self-2 : goal.invariant_of-self-2
invariant_of-self-2 c =
    let entries = c.self.inside.entries.entries in
    let none : lookup (is_type c.args.t.now) entries ≡ None = none_there _ (sym c.contains_key.ensures ∙ c.if-contains_key.false) in
    let last : c.insert.new.self.entries ≡ entries ++ (c.args.t, c.defined_layout.result) ∷ [] =
    c.in_ok-insert.ensures.entries ∙ insert_entry-new (λ x y. equal_types x.now y.now) c.self.inside.entries c.args.t c.defined_layout.result none in
    subst AreDefined (sym last) (still_defined entries c.args.t c.defined_layout.result c.self.invariant c.defined_layout.ensures)
