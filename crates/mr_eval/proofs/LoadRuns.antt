-- What the load of a value comes to.
use Rattle.mr_eval.proofs.Common.{◌≡◌, ℕ, Bool, true, false, Option, None, Some, refl, sym, ap, ap₂, ◌∙◌, if◌then◌else◌, meaningless, Reached, Loads, Stop, over, plainly, reached_by, stop_with, Ty, Pointer, Reason, InvalidValue, TransmuteInvalid, align_of, size_of, Memory, ◌>>=◌, Broken, Done, Outcome, Refused, Went, on, run, run_bind, Val, decoded, encoding_of, Bytes, has_shape, Read, Seen, reading, loading, or_undefined, referred, referring, targets_of, meant_by, read_typed, referred_to, transmuted_to}

pub read_run : (m : Memory) (t : Ty) (p : Pointer) (seen : Seen) → read_typed m t p seen ≡ on (reading m (Read false p (size_of t) (align_of t)) seen) (λ bytes s. meant_by m (meaningless t p) t bytes s)
unfolding read_typed meant_by loading
read_run m t p seen = refl

abbrev meant_as : (m : Memory) (r : Stop) (t : Ty) (o : Option Val) (seen : Seen) → Outcome Val Seen
meant_as m r t o seen = run (reading m) (or_undefined r o >>= referred t) seen

pub meant_none : (m : Memory) (r : Stop) (t : Ty) (bytes : Bytes) (seen : Seen) → decoded t bytes ≡ None → meant_by m r t bytes seen ≡ Refused r
unfolding meant_by
meant_none m r t bytes seen e = ap (λ (o : Option Val). meant_as m r t o seen) e

pub meant_some : (m : Memory) (r : Stop) (t : Ty) (bytes : Bytes) (v : Val) (seen : Seen) → decoded t bytes ≡ Some v
    → meant_by m r t bytes seen ≡ on (referred_to m (targets_of t v) seen) (λ u s. Went v s)
unfolding meant_by referred_to
meant_some m r t bytes v seen e =
    ap (λ (o : Option Val). meant_as m r t o seen) e ∙ run_bind (reading m) (referring (targets_of t v)) (λ u. Done v) seen

-- a value of its type's shape, transmuted
pub transmuted_run : (m : Memory) (to from : Ty) (v : Val) (seen : Seen) → has_shape from v ≡ true
    → transmuted_to m to (Some from) v seen ≡ meant_by m (plainly TransmuteInvalid) to (encoding_of from v) seen
transmuted_run m to from v seen e = ap (λ (b : Bool). if b then meant_by m (plainly TransmuteInvalid) to (encoding_of from v) seen else Broken) e

-- bytes that mean a value
pub read_found : (m : Memory) (t : Ty) (p : Pointer) (size align : ℕ) (old : Seen) (bytes : Bytes) (new : Seen) (v : Val)
    → size ≡ size_of t → align ≡ align_of t → reading m (Read false p size align) old ≡ Went bytes new → decoded t bytes ≡ Some v
    → read_typed m t p old ≡ on (referred_to m (targets_of t v) new) (λ u s. Went v s)
read_found m t p size align old bytes new v sized aligned lent is =
    read_run m t p old
    ∙ ap (λ (o : Outcome Bytes Seen). on o (λ found s. meant_by m (meaningless t p) t found s))
    (sym (ap₂ (λ (n a : ℕ). reading m (Read false p n a) old) sized aligned) ∙ lent)
    ∙ meant_some m (meaningless t p) t bytes v new is

-- bytes that mean none, which were noted
pub read_meaningless : (m : Memory) (t : Ty) (p : Pointer) (size align : ℕ) (old : Seen) (bytes : Bytes) (new : Seen) (last : Option Reached)
    → size ≡ size_of t → align ≡ align_of t → reading m (Read false p size align) old ≡ Went bytes new → decoded t bytes ≡ None
    → last ≡ Some (reached_by Loads p size) → read_typed m t p old ≡ Refused (stop_with last InvalidValue)
read_meaningless m t p size align old bytes new last sized aligned lent none noted =
    read_run m t p old
    ∙ ap (λ (o : Outcome Bytes Seen). on o (λ found s. meant_by m (meaningless t p) t found s))
    (sym (ap₂ (λ (n a : ℕ). reading m (Read false p n a) old) sized aligned) ∙ lent)
    ∙ meant_none m (meaningless t p) t bytes new none
    ∙ ap (λ (n : ℕ). Refused (over (reached_by Loads p n) InvalidValue)) (sym sized)
    ∙ ap (λ (o : Option Reached). Refused (stop_with o InvalidValue)) (sym noted)

pub ruleset load_laws = (read_run, meant_none, meant_some)
