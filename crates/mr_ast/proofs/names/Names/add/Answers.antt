use Rattle.mr_ast.proofs.Common.{◌≢◌, ℕ, [], ◌∷◌, ◌++◌, Some, map, slice_get, ap, ◌∙◌, inr}
use Rattle.std.proofs.Common.{string_bytes}
use Rattle.mr_ast.proofs.NameLaws.{map-insert_key}
use Rattle.mr_ast.proofs.names.Names.add.Goals as goal

pub returns-clause-ok : goal.returns-clause-ok
returns-clause-ok c =
    let held = c.self.inside.texts.keys in
    let text = c.args.text.now in
    let missing : (k : ℕ) → slice_get (map string_bytes held) k ≢ Some text = rw c.self.view_is c.in_default.ensures.missing in
    let added = map-insert_key held c.in_ok-text.text text c.in_ok-text.ensures.ok missing in
    inr (c.in_default.ensures.missing, ap (map string_bytes) c.in_ok-insert.ensures.keys ∙ added ∙ ap (λ texts. texts ++ text ∷ []) c.self.view_is, c.len-n.ensures)
