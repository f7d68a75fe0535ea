-- Runs in which Rust's order and the machine's are one.
use Rattle.std.specs.Prelude.{◌≡◌, ◌≢◌, ℕ, ◌<◌, ◌||◌, List, Bool, false, IsTrue, All}
use Rattle.mr_base.specs.Accesses.{some_race}
use Rattle.mr_base.specs.declared.thread.Event.TheVariants.{Acquire, Join}
use Rattle.mr_event.specs.Footprint.{Footprint}
use Rattle.mr_event.specs.Footprints.{both_create, both_spawn, joins_of, same_lock, share_id}
use Rattle.mr_event.specs.Order.{step_at, thread_at}
use Rattle.mr_rust_order.specs.Order.{HappensBefore, releases}

-- whether g depends on f, an earlier step of another thread, by what they do to locks, threads and allocations
abbrev pub depends_by_deeds : Footprint → Footprint → Bool
depends_by_deeds f g =
    same_lock f.event g.event
    || both_create f.event g.event
    || both_spawn f.event g.event
    || joins_of f g.event
    || joins_of g f.event
    || share_id f.allocated g.touched
    || share_id f.allocated g.freed
    || share_id f.touched g.freed

-- A RUN OF PLAIN ACCESSES: none is atomic; what depends on an earlier step of another thread by a lock, a thread or an
-- allocation comes behind it by Rust's order; and where a lock is handed over, or a thread is joined, the two steps
-- have no accesses that race.
pub record IsPlain (run : List Footprint) : Type 0 where
  pub accesses : (i : ℕ) → All (λ a. a.atomic ≡ false) (step_at run i).accesses
  pub deeds : (i j : ℕ) → i < j → thread_at run i ≢ thread_at run j
      → IsTrue (depends_by_deeds (step_at run i) (step_at run j)) → HappensBefore run i j
  pub locks : (i j lock : ℕ) → IsTrue (releases (step_at run i).event lock) → (step_at run j).event ≡ Acquire lock
      → ¬ IsTrue (some_race (step_at run i).accesses (step_at run j).accesses)
  pub joins : (i j : ℕ) → IsTrue (step_at run i).ended → (step_at run j).event ≡ Join (thread_at run i)
      → ¬ IsTrue (some_race (step_at run i).accesses (step_at run j).accesses)
