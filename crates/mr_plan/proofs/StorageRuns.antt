-- What runs of scripts over memory do to storage on the stack.
use Rattle.mr_plan.proofs.Common.{◌≡◌, ◌≢◌, ℕ, zero, suc, ◌<◌, refl, sym, ap, ◌∙◌, subst, List, [], ◌∷◌, ◌++◌, arith, ◌⊎◌, inl, inr, Some, None, Contains, both_ways, Contains-push_cases, same_Some, slice_get, slice_set, Uninit, AllocId, Kind, Function, Heap, Stack, Static, Pointer, Allocation, Memory, allocated, fresh, kind_number, get_here, get_there, Done, Undefined, IllFormed, Ask, ◌>>=◌, Went, run, goes_on, same_state, Allocate, Free, MemoryQuery, MemoryReply, MemoryScript, Modify, Reading, Write, memory_answer, next_id, Tally, AreHeld, Slot}
use Rattle.std.proofs.lemmas.List.{length-replicate}
use Rattle.mr_eval.specs.MemoryQueries.{pointer_to}
use Rattle.mr_plan.specs.Storage.{IsStorage}
use Rattle.std.specs.FinMap as fin
use Rattle.mr_plan.proofs.FreeLaws.{Frees, free_kind, frees}
use Rattle.mr_plan.proofs.Headers.{lasting_same}
use Rattle.mr_plan.proofs.LiveFacts.{Lives, query_live}
use Rattle.mr_plan.proofs.MemoryAnswers.{free_went}
use Rattle.mr_plan.proofs.MemoryFacts.{MemoryFacts, memory_facts}
use Rattle.mr_plan.proofs.QuietRuns.{IsQuiet, IsQuietQuery, query_unmade}
use Rattle.mr_plan.proofs.WentLaws.{at_outcome}

-- ---- lists of rooms

-- where these are held, so are those
abbrev pub Entails : List Slot → List Slot → Type 0
Entails l k = (m : Memory) → AreHeld m l → AreHeld m k

pub entails_same : (l : List Slot) → Entails l l
entails_same l = λ m h. h

pub entails_then : (a b c : List Slot) → Entails a b → Entails b c → Entails a c
entails_then a b c g k = λ m h. k m (g m h)

-- a room less
pub without_first : (slot : Slot) (l : List Slot) → Entails (slot ∷ l) l
without_first slot l = λ m h. record {
  each = λ i x p here is. h.each (suc i) x p here is;
  apart = λ i k a b p q d ha hb pa pb. h.apart (suc i) (suc k) a b p q (λ e. d (omega (arith, e))) ha hb pa pb;
}

-- rooms less, in front
pub without_front : (front l : List Slot) → Entails (front ++ l) l
without_front [] l = entails_same l
without_front (slot ∷ front) l = entails_then (slot ∷ front ++ l) (front ++ l) l (without_first slot (front ++ l)) (without_front front l)

-- a room without storage more
module _ (m : Memory) (slot : Slot) (none : slot.storage ≡ None) (l : List Slot) (h : AreHeld m l) where
  never : (x : Slot) (p : Pointer) → slice_get (slot ∷ l) zero ≡ Some x → x.storage ≡ Some p → ⊥
  never x p here is = by_none (sym none ∙ ap (λ (w : Slot). w.storage) (same_Some slot x here) ∙ is)
    where
      by_none : None ≡ Some p → ⊥
      by_none e = cc

  empty_each : (i : ℕ) (x : Slot) (p : Pointer) → slice_get (slot ∷ l) i ≡ Some x → x.storage ≡ Some p → IsStorage m x.size x.align p
  empty_each zero x p here is = absurd (never x p here is)
  empty_each (suc i) x p here is = h.each i x p here is

  empty_apart : (i k : ℕ) (a b : Slot) (p q : Pointer) → i ≢ k → slice_get (slot ∷ l) i ≡ Some a → slice_get (slot ∷ l) k ≡ Some b
      → a.storage ≡ Some p → b.storage ≡ Some q → p.prov ≢ q.prov
  empty_apart zero k a b p q d ha hb pa pb = absurd (never a p ha pa)
  empty_apart (suc i) zero a b p q d ha hb pa pb = absurd (never b q hb pb)
  empty_apart (suc i) (suc k) a b p q d ha hb pa pb = h.apart i k a b p q (λ e. d (ap suc e)) ha hb pa pb

  empty_held : AreHeld m (slot ∷ l)
  empty_held = record { each = empty_each; apart = empty_apart }

pub with_empty : (slot : Slot) (l : List Slot) → slot.storage ≡ None → Entails l (slot ∷ l)
with_empty slot l none = λ m h. empty_held m slot none l h

-- what stands at a position of a list in which an element was replaced
pub set_cases : {A : Type 0} (l : List A) (x : ℕ) (new a : A) (i : ℕ) → slice_get (slice_set l x new) i ≡ Some a
    → ((i ≡ x) × (a ≡ new)) ⊎ ((i ≢ x) × (slice_get l i ≡ Some a))
set_cases [] x new a i h = absurd (cc)
set_cases (y ∷ l) zero new a zero h = inl (refl, sym (same_Some new a h))
set_cases (y ∷ l) zero new a (suc i) h = inr ((λ e. omega (arith, e)), h)
set_cases (y ∷ l) (suc x) new a zero h = inr ((λ e. omega (arith, e)), h)
set_cases (y ∷ l) (suc x) new a (suc i) h = elim (set_cases l x new a i h) [
  | inl e ↦ inl (ap suc e.0, e.1)
  | inr d ↦ inr ((λ e. d.0 (omega (arith, e))), d.1)
]

-- a room in front takes the place of another one
module _ (m : Memory) (new : Slot) (l : List Slot) (x : ℕ) (h : AreHeld m (new ∷ l)) where
  set_each : (i : ℕ) (a : Slot) (p : Pointer) → slice_get (slice_set l x new) i ≡ Some a → a.storage ≡ Some p → IsStorage m a.size a.align p
  set_each i a p here is = elim (set_cases l x new a i here) [
    | inl e ↦ h.each zero a p (ap (λ w. Some w) (sym e.1)) is
    | inr d ↦ h.each (suc i) a p d.1 is
  ]

  set_apart : (i k : ℕ) (a b : Slot) (p q : Pointer) → i ≢ k → slice_get (slice_set l x new) i ≡ Some a → slice_get (slice_set l x new) k ≡ Some b
      → a.storage ≡ Some p → b.storage ≡ Some q → p.prov ≢ q.prov
  set_apart i k a b p q d ha hb pa pb = by_cases (set_cases l x new a i ha) (set_cases l x new b k hb)
    where
      by_cases : ((i ≡ x) × (a ≡ new)) ⊎ ((i ≢ x) × (slice_get l i ≡ Some a)) → ((k ≡ x) × (b ≡ new)) ⊎ ((k ≢ x) × (slice_get l k ≡ Some b)) → p.prov ≢ q.prov
      by_cases (inl e) (inl f) = absurd (d (e.0 ∙ sym f.0))
      by_cases (inl e) (inr f) = h.apart zero (suc k) a b p q (λ u. omega (arith, u)) (ap (λ w. Some w) (sym e.1)) f.1 pa pb
      by_cases (inr e) (inl f) = h.apart (suc i) zero a b p q (λ u. omega (arith, u)) e.1 (ap (λ w. Some w) (sym f.1)) pa pb
      by_cases (inr e) (inr f) = h.apart (suc i) (suc k) a b p q (λ u. d (omega (arith, u))) e.1 f.1 pa pb

  set_held : AreHeld m (slice_set l x new)
  set_held = record { each = set_each; apart = set_apart }

pub in_place : (new : Slot) (l : List Slot) (x : ℕ) → Entails (new ∷ l) (slice_set l x new)
in_place new l x = λ m h. set_held m new l x h

-- ---- scripts

-- a room whose storage this is
pub record OwnSlot (l : List Slot) (p : Pointer) : Type 0 where
  pub index : ℕ
  pub slot : Slot
  pub here : slice_get l index ≡ Some slot
  pub is : slot.storage ≡ Some p

-- what may be freed: on the stack, the storage of a room
abbrev pub MayFree : List Slot → Pointer → Kind → Type 0
MayFree l p Stack = OwnSlot l p
MayFree l p kind = Unit {0}

abbrev pub MayAsk : List Slot → MemoryQuery → Type 0
MayAsk l (Free p kind size align) = MayFree l p kind
MayAsk l q = Unit {0}

-- the rooms behind it: one is without storage
abbrev pub behind_free : (l : List Slot) (p : Pointer) (kind : Kind) → MayFree l p kind → List Slot
behind_free l p Stack own = slice_set l own.index (record own.slot { storage = None })
behind_free l p Heap own = l
behind_free l p Static own = l
behind_free l p Function own = l

-- a room more, of what was made on the stack
abbrev pub behind_made : List Slot → Kind → ℕ → ℕ → Pointer → List Slot
behind_made l Stack size align p = record { size = size; align = align; storage = Some p } ∷ l
behind_made l kind size align p = l

abbrev pub behind_query : (l : List Slot) (q : MemoryQuery) → MayAsk l q → MemoryReply q → List Slot
behind_query l (Reading q) may x = l
behind_query l (Write atomic p bytes align) may x = l
behind_query l (Modify p size change) may x = l
behind_query l (Allocate kind size align addr) may x = behind_made l kind size align x
behind_query l (Free p kind size align) may x = behind_free l p kind may

-- A script that frees on the stack only what is a room's: it takes these rooms to those that its result has.
abbrev pub Keeps : {A : Type 0} → (A → List Slot) → List Slot → MemoryScript A → Type 0
Keeps target l (Done a) = Entails l (target a)
Keeps target l (Undefined r) = Unit {0}
Keeps target l IllFormed = Unit {0}
Keeps target l (Ask q k) = (at : List Slot) × Entails l at × (may : MayAsk at q) × ((x : MemoryReply q) → Keeps target (behind_query at q may x) (k x))

-- ---- by parts

pub keeps_from : {A : Type 0} (target : A → List Slot) (l k : List Slot) (script : MemoryScript A) → Entails l k → Keeps target k script → Keeps target l script
keeps_from target l k (Done a) e h = entails_then l k (target a) e h
keeps_from target l k (Undefined r) e h = tt
keeps_from target l k IllFormed e h = tt
keeps_from target l k (Ask q f) e h = (h.0, entails_then l k h.0 e h.1, h.2, h.3)

pub keeps_then : {A B : Type 0} (mid : A → List Slot) (target : B → List Slot) (l : List Slot) (m : MemoryScript A) (f : A → MemoryScript B)
    → Keeps mid l m → ((x : A) → Keeps target (mid x) (f x)) → Keeps target l (m >>= f)
keeps_then mid target l (Done a) f h k = keeps_from target l (mid a) (f a) h (k a)
keeps_then mid target l (Undefined r) f h k = tt
keeps_then mid target l IllFormed f h k = tt
keeps_then mid target l (Ask q g) f h k = (h.0, h.1, h.2, λ x. keeps_then mid target (behind_query h.0 q h.2 x) (g x) f (h.3 x) k)

-- what neither makes nor frees leaves them
pub quiet_keeps : {A : Type 0} (l : List Slot) (script : MemoryScript A) → IsQuiet script → Keeps (λ (x : A). l) l script
quiet_keeps l (Done a) h = entails_same l
quiet_keeps l (Undefined r) h = tt
quiet_keeps l IllFormed h = tt
quiet_keeps l (Ask (Reading q) k) h = (l, entails_same l, tt, λ x. quiet_keeps l (k x) (h.1 x))
quiet_keeps l (Ask (Write atomic p bytes align) k) h = (l, entails_same l, tt, λ x. quiet_keeps l (k x) (h.1 x))
quiet_keeps l (Ask (Modify p size change) k) h = (l, entails_same l, tt, λ x. quiet_keeps l (k x) (h.1 x))
quiet_keeps l (Ask (Allocate kind size align addr) k) h = absurd h.0
quiet_keeps l (Ask (Free p kind size align) k) h = absurd h.0

pub quiet_first : {A B : Type 0} (target : B → List Slot) (l : List Slot) (m : MemoryScript A) (f : A → MemoryScript B) → IsQuiet m → ((x : A) → Keeps target l (f x)) → Keeps target l (m >>= f)
quiet_first target l m f h k = keeps_then (λ x. l) target l m f (quiet_keeps l m h) k

-- ---- one query

-- storage stays where its allocation lives on as it was
storage_lives : (m m' : Memory) (size align : ℕ) (p : Pointer) (h : IsStorage m size align p) → Lives h.alloc m' h.id → IsStorage m' size align p
storage_lives m m' size align p h s = record {
  id = h.id;
  alloc = s.alloc;
  prov = h.prov;
  there = s.there;
  live = s.live;
  kind = sym s.lasting.kind ∙ h.kind;
  addr = sym s.lasting.addr ∙ h.addr;
  bytes = sym s.lasting.size ∙ h.bytes;
  aligned = sym s.lasting.align ∙ h.aligned;
}

module _ (m0 : Memory) (t c : ℕ) (m : Memory) (n : Tally) (f : MemoryFacts m0 t c m n) where
  lives_now : (size align : ℕ) (p : Pointer) (h : IsStorage m size align p) → Lives h.alloc m h.id
  lives_now size align p h = record { alloc = h.alloc; there = h.there; lasting = lasting_same h.alloc; live = h.live }

  not_dead : (size align : ℕ) (p : Pointer) (h : IsStorage m size align p) → Contains n.freed h.id → ⊥
  not_dead size align p h b = let d = f.freed h.id b in both_ways h.alloc.live (ap (λ (w : Allocation). w.live) (same_Some h.alloc d.alloc (sym h.there ∙ d.there)) ∙ d.dead) h.live

  -- by a query that frees nothing of it
  storage_stays : (q : MemoryQuery) (m' : Memory) (n' : Tally) (x : MemoryReply q) → memory_answer q (m, n) ≡ Went x (m', n') → (size align : ℕ) (p : Pointer) (h : IsStorage m size align p)
      → (Contains n'.freed h.id → ⊥) → IsStorage m' size align p
  storage_stays q m' n' x e size align p h apart = storage_lives m m' size align p h (query_live m0 t c m n f h.alloc h.id (lives_now size align p h) q m' n' x e apart)

  quiet_held : (q : MemoryQuery) → IsQuietQuery q → (m' : Memory) (n' : Tally) (x : MemoryReply q) → memory_answer q (m, n) ≡ Went x (m', n') → (l : List Slot) → AreHeld m l → AreHeld m' l
  quiet_held q quiet m' n' x e l h = record {
    each = λ i slot p here is. let s = h.each i slot p here is in storage_stays q m' n' x e slot.size slot.align p s (λ b. not_dead slot.size slot.align p s (subst (λ v. Contains v s.id) (query_unmade q quiet m m' n n' x e).freed b));
    apart = h.apart;
  }

  -- ---- what is made

  abbrev made_id : AllocId
  made_id = next_id n

  -- older storage is another one's
  older : (z a : ℕ) (p : Pointer) (h : IsStorage m z a p) → h.id ≢ made_id
  older z a p h same =
      let k : h.id.count < n.count = f.counted h.id h.alloc h.there (ap (λ (i : AllocId). i.thread) same ∙ f.thread) in
      let e : h.id.count ≡ n.count = ap (λ (i : AllocId). i.count) same in
      omega arith

  older_stays : (kind : Kind) (size align addr : ℕ) (z a : ℕ) (p : Pointer) → IsStorage m z a p → IsStorage (allocated m made_id kind size align addr) z a p
  older_stays kind size align addr z a p h = storage_lives m (allocated m made_id kind size align addr) z a p h (record {
    alloc = h.alloc;
    there = get_there m made_id (fresh kind size align addr) h.id (older z a p h) ∙ h.there;
    lasting = lasting_same h.alloc;
    live = h.live;
  })

  older_held : (kind : Kind) (size align addr : ℕ) (l : List Slot) → AreHeld m l → AreHeld (allocated m made_id kind size align addr) l
  older_held kind size align addr l h = record { each = λ i slot p here is. older_stays kind size align addr slot.size slot.align p (h.each i slot p here is); apart = h.apart }

  module _ (size align addr : ℕ) where
    abbrev new_slot : Slot
    new_slot = record { size = size; align = align; storage = Some (pointer_to made_id addr) }

    abbrev made_memory : Memory
    made_memory = allocated m made_id Stack size align addr

    new_storage : IsStorage made_memory size align (pointer_to made_id addr)
    new_storage = record {
      id = made_id;
      alloc = fresh Stack size align addr;
      prov = refl;
      there = get_here m made_id (fresh Stack size align addr);
      live = refl;
      kind = refl;
      addr = refl;
      bytes = length-replicate size Uninit;
      aligned = refl;
    }

    module _ (l : List Slot) (h : AreHeld m l) where
      made_each : (i : ℕ) (slot : Slot) (p : Pointer) → slice_get (new_slot ∷ l) i ≡ Some slot → slot.storage ≡ Some p → IsStorage made_memory slot.size slot.align p
      made_each zero slot p here is =
          let e = same_Some new_slot slot here in
          let q = same_Some _ _ (ap (λ (w : Slot). w.storage) e ∙ is) in
          subst (λ (w : Slot × Pointer). IsStorage made_memory w.0.size w.0.align w.1) (λ i. (e i, q i)) new_storage
      made_each (suc i) slot p here is = older_stays Stack size align addr slot.size slot.align p (h.each i slot p here is)

      another : (k : ℕ) (a b : Slot) (p q : Pointer) → slice_get (new_slot ∷ l) zero ≡ Some a → slice_get l k ≡ Some b → a.storage ≡ Some p → b.storage ≡ Some q → q.prov ≢ p.prov
      another k a b p q ha hb pa pb same =
          let s = h.each k b q hb pb in
          let e = same_Some _ _ (ap (λ (w : Slot). w.storage) (same_Some new_slot a ha) ∙ pa) in
          older b.size b.align q s (same_Some s.id made_id (sym s.prov ∙ same ∙ sym (ap (λ (w : Pointer). w.prov) e)))

      made_apart : (i k : ℕ) (a b : Slot) (p q : Pointer) → i ≢ k → slice_get (new_slot ∷ l) i ≡ Some a → slice_get (new_slot ∷ l) k ≡ Some b
          → a.storage ≡ Some p → b.storage ≡ Some q → p.prov ≢ q.prov
      made_apart zero zero a b p q d ha hb pa pb = absurd (d refl)
      made_apart zero (suc k) a b p q d ha hb pa pb = λ same. another k a b p q ha hb pa pb (sym same)
      made_apart (suc i) zero a b p q d ha hb pa pb = λ same. another i b a q p hb ha pb pa same
      made_apart (suc i) (suc k) a b p q d ha hb pa pb = h.apart i k a b p q (λ e. d (ap suc e)) ha hb pa pb

      made_held : AreHeld made_memory (new_slot ∷ l)
      made_held = record { each = made_each; apart = made_apart }

  -- ---- what is freed

  module _ (p : Pointer) (kind : Kind) (size align : ℕ) (m' : Memory) (n' : Tally) (x : Unit {0}) (e : memory_answer (Free p kind size align) (m, n) ≡ Went x (m', n')) (r : AllocId × Memory) (gone : Frees m p kind size align r) (noted : n'.freed ≡ n.freed ++ r.0 ∷ []) where
    is_gone : gone.id ≡ r.0
    is_gone = ap (λ w. w.0) gone.is

    other_stays : (z a : ℕ) (q : Pointer) (h : IsStorage m z a q) → h.id ≢ gone.id → IsStorage m' z a q
    other_stays z a q h d =
        storage_stays (Free p kind size align) m' n' x e z a q h
        (λ b. elim (Contains-push_cases n.freed r.0 h.id (subst (λ v. Contains v h.id) noted b)) [
          | inl old ↦ not_dead z a q h old
          | inr new ↦ d (sym new ∙ sym is_gone)
        ])

    module _ (l : List Slot) (h : AreHeld m l) where
      -- the storage of a room
      own_left : (own : OwnSlot l p) → AreHeld m' (slice_set l own.index (record own.slot { storage = None }))
      own_left own = record { each = each_left; apart = apart_left }
        where
          empty : Slot
          empty = record own.slot { storage = None }

          not_empty : (a : Slot) (q : Pointer) → a ≡ empty → a.storage ≡ Some q → ⊥
          not_empty a q same is = by_none (sym (ap (λ (w : Slot). w.storage) same) ∙ is)
            where
              by_none : None ≡ Some q → ⊥
              by_none u = cc

          own_storage : IsStorage m own.slot.size own.slot.align p
          own_storage = h.each own.index own.slot p own.here own.is

          each_left : (i : ℕ) (a : Slot) (q : Pointer) → slice_get (slice_set l own.index empty) i ≡ Some a → a.storage ≡ Some q → IsStorage m' a.size a.align q
          each_left i a q here is = elim (set_cases l own.index empty a i here) [
            | inl same ↦ absurd (not_empty a q same.1 is)
            | inr d ↦
                let s = h.each i a q d.1 is in
                other_stays a.size a.align q s
                (λ same. h.apart i own.index a own.slot q p d.0 d.1 own.here is own.is (s.prov ∙ ap (λ w. Some w) same ∙ sym gone.prov))
          ]

          apart_left : (i k : ℕ) (a b : Slot) (q s : Pointer) → i ≢ k → slice_get (slice_set l own.index empty) i ≡ Some a → slice_get (slice_set l own.index empty) k ≡ Some b
              → a.storage ≡ Some q → b.storage ≡ Some s → q.prov ≢ s.prov
          apart_left i k a b q s d ha hb pa pb = elim (set_cases l own.index empty a i ha) [
            | inl u ↦ absurd (not_empty a q u.1 pa)
            | inr u ↦ elim (set_cases l own.index empty b k hb) [ inl v ↦ absurd (not_empty b s v.1 pb) | inr v ↦ h.apart i k a b q s d u.1 v.1 pa pb ]
          ]

      -- what isn't on the stack
      other_left : kind_number kind ≢ 1 → AreHeld m' l
      other_left d = record { each = each_stays; apart = h.apart }
        where
          each_stays : (i : ℕ) (a : Slot) (q : Pointer) → slice_get l i ≡ Some a → a.storage ≡ Some q → IsStorage m' a.size a.align q
          each_stays i a q here is =
              let s = h.each i a q here is in
              other_stays a.size a.align q s
              (λ same. d (free_kind gone.alloc p.addr kind size align gone.allowed
              ∙ ap (λ (w : Allocation). kind_number w.kind) (same_Some gone.alloc s.alloc (sym gone.there ∙ ap (fin.get m) (sym same) ∙ s.there))
              ∙ ap kind_number s.kind))

      freed_left : (kind' : Kind) → kind ≡ kind' → (may : MayFree l p kind') → AreHeld m' (behind_free l p kind' may)
      freed_left Stack same own = own_left own
      freed_left Heap same own = other_left (λ u. omega (arith, sym (ap kind_number same) ∙ u))
      freed_left Static same own = other_left (λ u. omega (arith, sym (ap kind_number same) ∙ u))
      freed_left Function same own = other_left (λ u. omega (arith, sym (ap kind_number same) ∙ u))

  -- ---- any query

  made_other : (kind : Kind) (size align addr : ℕ) (l : List Slot) → AreHeld m l → AreHeld (allocated m made_id kind size align addr) (behind_made l kind size align (pointer_to made_id addr))
  made_other Stack size align addr l h = made_held size align addr l h
  made_other Heap size align addr l h = older_held Heap size align addr l h
  made_other Static size align addr l h = older_held Static size align addr l h
  made_other Function size align addr l h = older_held Function size align addr l h

  -- A QUERY keeps the storage of the rooms behind it
  pub query_held : (q : MemoryQuery) (l : List Slot) (may : MayAsk l q) → AreHeld m l → (m' : Memory) (n' : Tally) (x : MemoryReply q) → memory_answer q (m, n) ≡ Went x (m', n') → AreHeld m' (behind_query l q may x)
  query_held (Reading q) l may h m' n' x e = quiet_held (Reading q) tt m' n' x e l h
  query_held (Write atomic p bytes align) l may h m' n' x e = quiet_held (Write atomic p bytes align) tt m' n' x e l h
  query_held (Modify p size change) l may h m' n' x e = quiet_held (Modify p size change) tt m' n' x e l h
  query_held (Allocate kind size align addr) l may h m' n' x e = at_outcome e (λ y w. AreHeld w.0 (behind_made l kind size align y)) (made_other kind size align addr l h)
  query_held (Free p kind size align) l may h m' n' x e =
      let a = free_went p kind size align m m' n n' x e in
      freed_left p kind size align m' n' x e a.result (frees m p kind size align a.result a.is) (ap (λ (w : Tally). w.freed) (sym (ap (λ w. w.1) (same_state a.goes)))) l h kind refl may

-- ---- a run

-- A SCRIPT that takes rooms to those of its result does so with their storage
pub keeps_run : {A : Type 0} (target : A → List Slot) (m0 : Memory) (t c : ℕ) (script : MemoryScript A) (l : List Slot) → Keeps target l script
    → (m m' : Memory) (n n' : Tally) (x : A) → MemoryFacts m0 t c m n → AreHeld m l → run memory_answer script (m, n) ≡ Went x (m', n') → AreHeld m' (target x)
keeps_run target m0 t c (Done a) l k m m' n n' x f h e = at_outcome e (λ y w. AreHeld w.0 (target y)) (k m h)
keeps_run target m0 t c (Undefined r) l k m m' n n' x f h e = cc
keeps_run target m0 t c IllFormed l k m m' n n' x f h e = cc
keeps_run target m0 t c (Ask q g) l k m m' n n' x f h e =
    let step = goes_on _ _ _ _ e in
    keeps_run target m0 t c (g step.value) (behind_query k.0 q k.2 step.value) (k.3 step.value) step.mid.0 m' step.mid.1 n' x
    (memory_facts m0 t c q m step.mid.0 n step.mid.1 step.value f step.first)
    (query_held m0 t c m n f q k.0 k.2 (k.1 m h) step.mid.0 step.mid.1 step.value step.first)
    step.rest
