-- The blocks of the heap that a run never freed, as they are written.
use Rattle.std.specs.Prelude.{ℕ, ◌+◌, Bool, true, false, if◌then◌else◌, List, [], ◌++◌, flat_map, codes, decimal}
use Rattle.std.specs.List.{list_any}
use Rattle.mr_base.specs.declared.byte.AllocId.{AllocId}
use Rattle.mr_base.specs.declared.reason.Verdict.{Verdict}
use Rattle.mr_base.specs.declared.reason.Verdict.TheVariants.{Leak}
use Rattle.mr_base.specs.Identities.{same_id}
use Rattle.mr_event.specs.Footprint.{Footprint}
use Rattle.mr_labels.specs.declared.names.Name.{Name}
use Rattle.mr_labels.specs.declared.names.Name.TheVariants.{Heap}
use Rattle.mr_labels.specs.declared.rows.Allocation.{Allocation}
use Rattle.mr_listing.specs.Accesses.{bytes_text}
use Rattle.mr_listing.specs.Seen.{Seen}

-- whether a step freed an allocation
abbrev pub freed_by : AllocId → Footprint → Bool
freed_by id foot = list_any (same_id id) foot.freed

-- whether one of these steps did
abbrev pub is_freed : List Footprint → AllocId → Bool
is_freed feet id = list_any (freed_by id) feet

-- `the block of step N is never freed: K bytes at address A`
abbrev pub block_line : ℕ → Allocation → List ℕ
block_line step row =
    codes "the block of step " ++ decimal (step + 1) ++ codes " is never freed: " ++ bytes_text row.size
    ++ codes " at address " ++ decimal row.start ++ codes "\n"

-- the line of an allocation of this name, if it is a block that no step freed
abbrev pub named_leak : Seen → Allocation → Name → List ℕ
named_leak s row (Heap step) = if is_freed s.feet row.id then [] else block_line step row
named_leak s row _ = []

abbrev pub leak_line : Seen → Allocation → List ℕ
leak_line s row = named_leak s row row.name

abbrev pub is_leak : Verdict → Bool
is_leak Leak = true
is_leak _ = false

-- THE BLOCKS THAT WERE NEVER FREED, where the run ended with one, in the order in which they were made
abbrev pub leaks_text : Seen → List ℕ
leaks_text s = if is_leak s.verdict then flat_map (leak_line s) s.rows else []
