use Rattle.mr_layout.proofs.Common.{◌≡◌, ℕ, ◌<◌, length, drop}
use Rattle.mr_layout.proofs.TableLaws.{with_tags}
use Rattle.mr_layout.proofs.tables.put_tags.Given as goal

abbrev pub invariant-loop-tag : goal.invariant-loop-tag
invariant-loop-tag l =
    record {
      long : length l.table ≡ length l.fn.table;
      values : (k : ℕ) → k < length l.fn.table → with_tags l.table l.start (drop l.tag-index l.tags) l.value k ≡ with_tags l.fn.table l.start l.tags l.value k;
    }
