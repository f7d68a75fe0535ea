-- The program's map of allocations, seen as a finite map.
use Rattle.mr_mem.proofs.Common.{◌≡◌, refl, sym, ap, ◌∙◌, List, [], ◌∷◌, Option, Bool, true, false, cond, Some, option_map, put, by_order, AllByRecursion, eq_by_cmp, Less, AllocId, Stored, Allocation, id_cmp, allocation_of, entries_of, memory_of}
use Rattle.std.specs.Map.{lookup, keys_of}
use Rattle.std.specs.List.Sorted.{IsStrictlySortedBy}
use Rattle.std.specs.Cmp.{eq_by_cmp_equiv}
use Rattle.std.proofs.lemmas.List.{nil_from_length}
use Rattle.std.specs.FinMap as fin
use Rattle.mr_mem.proofs.Identities.{id_total, id_exact}

mapped : (b : Bool) (x : Stored) (o : Option Stored) → cond b (Some (allocation_of x)) (option_map allocation_of o) ≡ option_map allocation_of (cond b (Some x) o)
mapped true x o = refl
mapped false x o = refl

find_entries : (es : List (AllocId × Stored)) (q : AllocId) → fin.find id_cmp q (entries_of es) ≡ option_map allocation_of (lookup (eq_by_cmp id_cmp q) es)
find_entries [] q = refl
find_entries (e ∷ es) q = ap (cond (eq_by_cmp id_cmp q e.0) (Some (allocation_of e.1))) (find_entries es q) ∙ mapped (eq_by_cmp id_cmp q e.0) e.1 (lookup (eq_by_cmp id_cmp q) es)

-- what the map has at an identity
pub get_view : (es : List (AllocId × Stored)) (q : AllocId) → fin.get (memory_of es) q ≡ option_map allocation_of (lookup (eq_by_cmp id_cmp q) es)
get_view es q = fin.get-from_entries id_total (entries_of es) q ∙ find_entries es q

-- entries that differ at one identity make maps that differ there
pub one_changed : (es fs : List (AllocId × Stored)) (id : AllocId) (x : Stored)
    → ((q : AllocId) → lookup (eq_by_cmp id_cmp q) fs ≡ cond (eq_by_cmp id_cmp id q) (Some x) (lookup (eq_by_cmp id_cmp q) es))
    → memory_of fs ≡ fin.insert (memory_of es) id (allocation_of x)
one_changed es fs id x h = fin.same_map id_total id_exact _ _ (λ q.
    get_view fs q ∙ ap (option_map allocation_of) (h q) ∙ sym (mapped (eq_by_cmp id_cmp id q) x (lookup (eq_by_cmp id_cmp q) es))
    ∙ ap (λ b. cond b (Some (allocation_of x)) (option_map allocation_of (lookup (eq_by_cmp id_cmp q) es))) ((eq_by_cmp_equiv id_total).symm id q)
    ∙ sym (fin.get-insert id_total (memory_of es) id (allocation_of x) q ∙ ap (cond (eq_by_cmp id_cmp q id) (Some (allocation_of x))) (get_view es q)))

-- a key below those behind it goes first
put_first : (e : AllocId × Stored) (es : List (AllocId × Stored)) → AllByRecursion (λ y. id_cmp e.0 y ≡ Less) (keys_of es)
    → put id_cmp e.0 (allocation_of e.1) (entries_of es) ≡ entries_of (e ∷ es)
put_first e [] h = refl
put_first e (f ∷ es) h =
    ap (λ r. by_order r ((e.0, allocation_of e.1) ∷ (f.0, allocation_of f.1) ∷ entries_of es) ((f.0, allocation_of e.1) ∷ entries_of es) ((f.0, allocation_of f.1) ∷ put id_cmp e.0 (allocation_of e.1) (entries_of es))) h.0

pub no_entries : fin.entries {X = Allocation} {R = id_cmp} fin.empty ≡ []
no_entries = nil_from_length _ (sym (fin.len-entries fin.empty) ∙ fin.len-empty id_cmp Allocation)

-- the entries of the map are the program's, in their order
pub entries_view : (es : List (AllocId × Stored)) → IsStrictlySortedBy id_cmp (keys_of es) → fin.entries (memory_of es) ≡ entries_of es
unfolding IsStrictlySortedBy
entries_view [] h = no_entries
entries_view (e ∷ es) h =
    fin.entries-insert id_total (memory_of es) e.0 (allocation_of e.1)
    ∙ ap (put id_cmp e.0 (allocation_of e.1)) (entries_view es h.1)
    ∙ put_first e es h.0

pub ruleset entries = (entries_view)
