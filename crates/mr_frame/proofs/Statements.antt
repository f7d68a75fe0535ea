-- A statement gives storage to a local, takes it away, or changes memory alone.
use Rattle.mr_frame.proofs.Common.{◌≡◌, refl, LocalName, Stmt, Done, ◌>>=◌, IsChange, change, Look, Stack, scene_in, Site, FramePlan, next, plain, statement}
use Rattle.mr_ast.specs.declared.program.Stmt.TheVariants as stmt

-- what holds of each of the three kinds holds of every statement
pub by_kind : (P : Stmt → Type 0) → ((x : LocalName) → P (stmt.Live x)) → ((x : LocalName) → P (stmt.Dead x)) → ((x : Stmt) → IsChange x → P x)
    → (x : Stmt) → P x
by_kind P live dead change (stmt.Live x) = live x
by_kind P live dead change (stmt.Dead x) = dead x
by_kind P live dead change x = change x tt

-- the step of a change: it changes memory, and the next statement follows
abbrev pub changing : Look → Stack → Site → Stmt → FramePlan
changing look s site x = plain (change (scene_in look site.function site.frame) x >>= λ _. Done (next s site site.frame))

pub changes : (look : Look) (s : Stack) (site : Site) (x : Stmt) → IsChange x → statement look s site x ≡ changing look s site x
changes look s site (stmt.Live x) kind = absurd kind
changes look s site (stmt.Dead x) kind = absurd kind
changes look s site _ kind = refl
