-- Numbers, places and names, as they stand in the JSON of a run.
use Rattle.std.specs.Prelude.{ℕ, ◌+◌, ◌-◌, ◌^◌, nat_lt, if◌then◌else◌, codes, decimal, Option, None, Some, slice_get}
use Rattle.serde_json.specs.Data.{Data, null, number, string, unsigned, object, member, no_members}
use Rattle.mr_ast.specs.declared.program.Program.{Program}
use Rattle.mr_ast.specs.Canon.{function_texts, global_texts}
use Rattle.mr_ast.specs.CanonValues.{text_at}
use Rattle.mr_places.specs.declared.places.Spot.{Spot}
use Rattle.mr_places.specs.Laid.{spot_at}
use Rattle.mr_labels.specs.declared.names.Name.{Name}
use Rattle.mr_labels.specs.declared.names.Name.TheVariants as name
use Rattle.mr_labels.specs.declared.rows.Allocation.{Allocation}
use Rattle.mr_labels.specs.declared.step.Stand.{Stand}
use Rattle.mr_labels.specs.Words.{block_word, function_word, local_word}
use Rattle.mr_listing.specs.Seen.{Seen}

-- a number: below 2^64 it is one, and from there on its digits in a string
abbrev pub number_data : ℕ → Data
number_data n = if nat_lt n (2 ^ 64) then number (unsigned n) else string (decimal n)

-- A PLACE: line and column, function and block by their names, and which statement of the block it is, counted from 1;
-- behind the last one stands the terminator
abbrev pub spot_data : Program → Stand → Spot → Data
spot_data p stand spot = object
    (member (codes "block") (string (block_word p stand.block (slice_get p.functions stand.function)))
    (member (codes "column") (number (unsigned spot.col))
    (member (codes "function") (string (function_word p stand.function))
    (member (codes "line") (number (unsigned spot.line))
    (member (codes "statement") (number_data (stand.at + 1)) no_members)))))

abbrev pub spot_found : Program → Stand → Option Spot → Data
spot_found p stand None = null
spot_found p stand (Some spot) = spot_data p stand spot

-- the place at which a thread stands, if it does
abbrev pub place_data : Seen → Option Stand → Data
place_data s None = null
place_data s (Some stand) = spot_found s.program stand (spot_at s.laid stand.function stand.block stand.at)

-- so many bytes behind the first of the block that a step, counted from 1, allocated
abbrev pub block_data : ℕ → ℕ → Data
block_data offset step = object
    (member (codes "offset") (number (unsigned offset))
    (member (codes "step") (number_data (step + 1)) no_members))

-- AN ADDRESS IN AN ALLOCATION, so many bytes behind its first one: in a function, a global, a local of a function that
-- a thread runs, or the block that a step, counted from 1, allocated
abbrev pub named_data : Program → ℕ → Name → Data
named_data p offset (name.Function i) = object
    (member (codes "function") (string (text_at (function_texts p) i))
    (member (codes "offset") (number (unsigned offset)) no_members))
named_data p offset (name.Global i) = object
    (member (codes "global") (string (text_at (global_texts p) i))
    (member (codes "offset") (number (unsigned offset)) no_members))
named_data p offset (name.Local thread function local) = object
    (member (codes "function") (string (function_word p function))
    (member (codes "local") (string (local_word p local (slice_get p.functions function)))
    (member (codes "offset") (number (unsigned offset))
    (member (codes "thread") (number (unsigned thread)) no_members))))
named_data p offset (name.Heap step) = block_data offset step

-- what an address reaches: nothing that is known, where no allocation holds it
abbrev pub reached_data : Program → ℕ → Option Allocation → Data
reached_data p addr None = null
reached_data p addr (Some row) = named_data p (addr - row.start) row.name
