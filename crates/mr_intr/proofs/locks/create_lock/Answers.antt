use Rattle.mr_intr.proofs.Common.{◌<◌, ◌^◌, ℕ, subst, sym, refl, [], ◌∙◌, arith, U32, lt_test, Tables, has_int, IsDone, begun, operated}
use Rattle.mr_ast.specs.declared.program.Intrinsic.TheVariants as intrinsic
use Rattle.mr_value.specs.declared.val.Val.TheVariants as val
use Rattle.mr_intr.proofs.LockLaws.{create_went, made}
use Rattle.mr_intr.proofs.locks.create_lock.Goals as goal

pub returns-clause-done : goal.returns-clause-done
returns-clause-done c =
    λ picks thread s types place out same.
    let x = c.args.sync.now in
    let P : ℕ → Tables → Type 0 = λ l new. IsDone intrinsic.CreateLock (made types place picks s x l) (operated intrinsic.CreateLock [] types place picks (begun s x)) s new out out in
    subst (λ l. P l c.create_lock.new.self) (sym c.in_ok-lock.ensures.number) (subst (P _) (sym c.in_ok-lock.ensures.ok) (create_went types place picks s x out))

pub returns-clause-value : goal.returns-clause-value
returns-clause-value c =
    let lock = c.in_ok-lock.lock in
    let few : lock < 2 ^ 32 = omega (arith, c.in_ok-lock.ensures.number, c.requires) in
    (val.Int lock, refl, has_int U32 lock ∙ lt_test lock (2 ^ 32) few)
