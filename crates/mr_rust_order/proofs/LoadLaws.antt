-- The latest stores to a byte, by the rows and in the run.
use Rattle.mr_rust_order.proofs.Common.{◌≡◌, ◌≢◌, ℕ, ◌+◌, ◌<◌, ◌≤◌, List, length, take, get_or, Bool, true, false, not, IsTrue, sym, ap, ◌∙◌, subst, inl, inr, ◌⊎◌, arith, dec_lt, ◌&&◌, ◌==◌, Contains, and_from, and_parts, eq-eqb, Access, Footprint, step_at, Row, AreJoined, AreMet, IsLatestStore, IsReadOf, counts, is_load, takes, IsListed, IsReadBy, Makes, has_byte, is_atomic_load, is_atomic_store, is_plain_store, is_store, AreRows, IsRow, IsTop, Passes, row_at}
use Rattle.mr_base.proofs.Comparisons.{eq_from}
use Rattle.mr_rust_order.specs.Loads.{AreFoundAt, IsLoadedBy}
use Rattle.mr_rust_order.proofs.AccessLaws.{atomic_is_store, byte_from, byte_to, counted_is_store, loaded_byte, not_loaded, plain_is_store, some_last, some_more, some_wider, store_conflicts, store_is_counted}
use Rattle.mr_rust_order.proofs.OrderLaws.{reach_up_to}
use Rattle.mr_rust_order.proofs.TopLaws.{joined_more, joined_none, joined_same, top_least}

-- ---- in the run

-- the latest store to a byte by the rows is the one that a load reads
pub loaded_source : (run : List Footprint) (j : ℕ) (rows : List Row) (byte x : ℕ) → AreRows run j rows → Makes is_atomic_load (step_at run j) byte → IsLatestStore rows byte x
    → IsReadBy run (row_at rows x).last j byte
loaded_source run j rows byte x r load l =
    record {
      before = row.within;
      load = load;
      store = ((row_at rows x).range, row.made, l.store);
      atomic = λ m.
          let h = r.held (row_at rows x).last m.0 row.within m.1 in
          let plain : is_plain_store (row_at rows h.row).range byte ≡ true = ap (λ (a : Access). is_plain_store a byte) h.found.of_range ∙ m.2 in
          let less = l.atomic h.row h.found.within plain in
          let last = reach_up_to run (row_at rows x).last (row_at rows h.row).last h.reached in
          omega (arith, less, last);
      last = λ k low high m.
          let h = r.held k m.0 high m.1 in
          let stores : is_store (row_at rows h.row).range byte ≡ true = ap (λ (a : Access). is_store a byte) h.found.of_range ∙ m.2 in
          let less = l.latest h.row h.found.within stores in
          let last = reach_up_to run k (row_at rows h.row).last h.reached in
          omega (arith, less, last, low);
    }
  where
    row : IsRow run j (row_at rows x)
    row = r.each x l.within

-- the step that a load reads is that of the latest store by the rows
pub source_loaded : (run : List Footprint) (i j : ℕ) (rows : List Row) (byte : ℕ) → AreRows run j rows → IsReadBy run i j byte
    → (x : ℕ) × IsLatestStore rows byte x × ((row_at rows x).last ≡ i)
source_loaded run i j rows byte r s =
    let h = r.held i s.store.0 s.before s.store.1 in
    let x = h.row in
    let store : is_atomic_store (row_at rows x).range byte ≡ true = ap (λ (a : Access). is_atomic_store a byte) h.found.of_range ∙ s.store.2 in
    let low = reach_up_to run i (row_at rows x).last h.reached in
    let high = not_later x h.found.within (atomic_is_store (row_at rows x).range byte store) in
    let at : (row_at rows x).last ≡ i = omega (arith, low, high) in (
      x,
      record {
        within = h.found.within;
        store = store;
        latest = λ y lt stores. let le = not_later y lt stores in omega (arith, le, at);
        atomic = λ y lt plain.
            let le = not_later y lt (plain_is_store (row_at rows y).range byte plain) in
            let ne : (row_at rows y).last ≢ i = λ e. s.atomic ((row_at rows y).range, made_at y lt e, plain) in
            omega (arith, le, at, ne);
      },
      at,
    )
  where
    not_later : (y : ℕ) → y < length rows → is_store (row_at rows y).range byte ≡ true → (row_at rows y).last ≤ i
    not_later y lt stores =
        let row = r.each y lt in
        elim (dec_lt i (row_at rows y).last) [
          | yes late ↦ absurd (s.last (row_at rows y).last late row.within ((row_at rows y).range, row.made, stores))
          | no over ↦ omega (arith, over)
        ]

    made_at : (y : ℕ) → y < length rows → (row_at rows y).last ≡ i → Contains (step_at run i).accesses (row_at rows y).range
    made_at y lt e = subst (λ (k : ℕ). Contains (step_at run k).accesses (row_at rows y).range) e (r.each y lt).made

-- ---- by the rows

-- the rows that store to a byte of an access are listed among those that conflict with it
pub found_at : (rows : List Row) (access : Access) (found : List ℕ) (byte : ℕ) → AreMet rows access found → has_byte access byte ≡ true → AreFoundAt rows byte found
found_at rows access found byte met has = λ x lt stores. met x lt (store_conflicts (row_at rows x).range access byte stores has)

-- the rows that count have a store to the byte
pub passes_is_store : (rows : List Row) (every : Bool) (byte x : ℕ) → Passes rows (λ r. counts every r.range byte) x → is_store (row_at rows x).range byte ≡ true
passes_is_store rows every byte x p = counted_is_store every (row_at rows x).range byte p.passed

pub taken_is_store : (rows : List Row) (byte latest x : ℕ) → Passes rows (λ r. takes r byte latest) x → is_store (row_at rows x).range byte ≡ true
taken_is_store rows byte latest x p =
    atomic_is_store (row_at rows x).range byte (and_parts (is_atomic_store (row_at rows x).range byte) ((row_at rows x).last + 1 == latest) p.passed).0

-- where a plain store is as late as any, there is no latest store that is atomic
pub none_latest : (rows : List Row) (byte latest plain x : ℕ) → IsTop rows (Passes rows (λ r. counts true r.range byte)) latest → IsTop rows (Passes rows (λ r. counts false r.range byte)) plain
    → latest ≤ plain → IsLatestStore rows byte x → ⊥
none_latest rows byte latest plain x all some le l =
    let stores = store_is_counted (row_at rows x).range byte (atomic_is_store (row_at rows x).range byte l.store) in
    let low = all.above x (record { within = l.within; passed = stores }) in
    let high = top_least rows (Passes rows (λ r. counts false r.range byte)) plain (row_at rows x).last some (λ y p. l.atomic y p.within p.passed) in
    omega (arith, low, high, le)

-- else a row is taken exactly where it has the latest store
pub taken_latest : (rows : List Row) (byte latest plain x : ℕ) → IsTop rows (Passes rows (λ r. counts true r.range byte)) latest → IsTop rows (Passes rows (λ r. counts false r.range byte)) plain
    → plain < latest → Passes rows (λ r. takes r byte latest) x → IsLatestStore rows byte x
taken_latest rows byte latest plain x all some lt p =
    let both = and_parts (is_atomic_store (row_at rows x).range byte) ((row_at rows x).last + 1 == latest) p.passed in
    let at : (row_at rows x).last + 1 ≡ latest = eq_from ((row_at rows x).last + 1) latest both.1 in
    record {
      within = p.within;
      store = both.0;
      latest = λ y inside stores. let low = all.above y (record { within = inside; passed = store_is_counted (row_at rows y).range byte stores }) in omega (arith, low, at);
      atomic = λ y inside stores. let low = some.above y (record { within = inside; passed = stores }) in omega (arith, low, at, lt);
    }

pub latest_taken : (rows : List Row) (byte latest x : ℕ) → IsTop rows (Passes rows (λ r. counts true r.range byte)) latest → IsLatestStore rows byte x → Passes rows (λ r. takes r byte latest) x
latest_taken rows byte latest x all l =
    let stores = store_is_counted (row_at rows x).range byte (atomic_is_store (row_at rows x).range byte l.store) in
    let low = all.above x (record { within = l.within; passed = stores }) in
    let high =
    top_least rows (Passes rows (λ r. counts true r.range byte)) latest ((row_at rows x).last + 1) all
    (λ y p. let le = l.latest y p.within (passes_is_store rows true byte y p) in omega (arith, le)) in
    record {
      within = l.within;
      passed = and_from (is_atomic_store (row_at rows x).range byte) ((row_at rows x).last + 1 == latest) l.store (eq-eqb ((row_at rows x).last + 1) latest (omega (arith, low, high)));
    }

-- up to the next border the latest store to a byte is the same
pub latest_moved : (rows : List Row) (found : List ℕ) (access : Access) (byte b x : ℕ) → AreMet rows access found → has_byte access byte ≡ true → has_byte access b ≡ true
    → ((y : ℕ) → y < length rows → IsListed found y → has_byte (row_at rows y).range b ≡ has_byte (row_at rows y).range byte)
    → IsLatestStore rows b x → IsLatestStore rows byte x
latest_moved rows found access byte b x met here there same l =
    record {
      within = l.within;
      store =
          let at = same x l.within (met x l.within (store_conflicts (row_at rows x).range access b (atomic_is_store (row_at rows x).range b l.store) there)) in
          ap (λ (t : Bool). (row_at rows x).range.store && (row_at rows x).range.atomic && t) (sym at) ∙ l.store;
      latest = λ y lt stores.
          let at = same y lt (met y lt (store_conflicts (row_at rows y).range access byte stores here)) in
          l.latest y lt (ap (λ (t : Bool). (row_at rows y).range.store && t) at ∙ stores);
      atomic = λ y lt plain.
          let at = same y lt (met y lt (store_conflicts (row_at rows y).range access byte (plain_is_store (row_at rows y).range byte plain) here)) in
          l.atomic y lt (ap (λ (t : Bool). (row_at rows y).range.store && not (row_at rows y).range.atomic && t) at ∙ plain);
    }

-- the latest store to one of the bytes from the begin of an access up to another
abbrev pub IsLatestBelow : List Row → Access → ℕ → ℕ → Type 0
IsLatestBelow rows access byte x = (b : ℕ) × (access.addr ≤ b) × (b < byte) × IsLatestStore rows b x

-- the bytes up to the next border are those before, and those that are like one byte
pub bytes_more : (rows : List Row) (found : List ℕ) (access : Access) (byte next : ℕ) (a b c : List ℕ) → AreMet rows access found → access.addr ≤ byte → byte < next → next ≤ access.addr + access.len
    → ((d x : ℕ) → x < length rows → IsListed found x → byte ≤ d → d < next → has_byte (row_at rows x).range d ≡ has_byte (row_at rows x).range byte)
    → AreJoined rows (IsLatestBelow rows access byte) a b → AreJoined rows (IsLatestStore rows byte) b c → AreJoined rows (IsLatestBelow rows access next) a c
bytes_more rows found access byte next a b c met low lt high same j k =
    joined_more rows (IsLatestBelow rows access byte) (IsLatestStore rows byte) (IsLatestBelow rows access next) a b c
    (λ x l. let less = l.2 in (l.0, l.1, omega (arith, less, lt), l.3)) (λ x l. (byte, low, lt, l)) cases j k
  where
    cases : (x : ℕ) → IsLatestBelow rows access next x → IsLatestBelow rows access byte x ⊎ IsLatestStore rows byte x
    cases x l =
        let begin = l.1 in
        let end = l.2 in
        elim (dec_lt l.0 byte) [
          | yes less ↦ inl (l.0, begin, less, l.3)
          | no over ↦
              inr
              (latest_moved rows found access byte l.0 x met (byte_to access byte low (omega (arith, lt, high))) (byte_to access l.0 begin (omega (arith, end, high)))
              (λ y inside listed. same l.0 y inside listed (omega (arith, over)) end) l.3)
        ]

-- no byte lies before the first one, and all bytes lie before the end
pub bytes_none : (rows : List Row) (access : Access) (byte : ℕ) (clock : List ℕ) → byte ≤ access.addr → AreJoined rows (IsLatestBelow rows access byte) clock clock
bytes_none rows access byte clock le = joined_none rows (IsLatestBelow rows access byte) clock (λ x l. let low = l.1 in let high = l.2 in omega (arith, low, high, le))

pub bytes_all : (rows : List Row) (access : Access) (byte : ℕ) (a b : List ℕ) → access.addr + access.len ≤ byte → byte ≤ access.addr + access.len → AreJoined rows (IsLatestBelow rows access byte) a b
    → AreJoined rows (λ x. (d : ℕ) × IsTrue (has_byte access d) × IsLatestStore rows d x) a b
bytes_all rows access byte a b long short j =
    joined_same rows (IsLatestBelow rows access byte) (λ x. (d : ℕ) × IsTrue (has_byte access d) × IsLatestStore rows d x) a b
    (λ x l. let high = l.2 in (l.0, byte_to access l.0 l.1 (omega (arith, high, short)), l.3))
    (λ x l. let t = byte_from access l.0 l.1 in let high = t.1 in (l.0, t.0, omega (arith, high, long), l.2)) j

-- ---- by one access after another

-- an access that is no atomic load reads nothing, and an atomic load reads by its bytes
pub access_none : (rows : List Row) (access : Access) (clock : List ℕ) → is_load access ≡ false
    → AreJoined rows (λ x. IsLoadedBy rows x access) clock clock
access_none rows access clock e = joined_none rows (λ x. IsLoadedBy rows x access) clock (λ x r. not_loaded access r.0 e r.1)

pub access_read : (rows : List Row) (access : Access) (a b : List ℕ) → is_load access ≡ true
    → AreJoined rows (λ x. (d : ℕ) × IsTrue (has_byte access d) × IsLatestStore rows d x) a b
    → AreJoined rows (λ x. IsLoadedBy rows x access) a b
access_read rows access a b e j =
    joined_same rows (λ x. (d : ℕ) × IsTrue (has_byte access d) × IsLatestStore rows d x) (λ x. IsLoadedBy rows x access) a b
    (λ x r. (r.0, loaded_byte access r.0 e ∙ r.1, r.2)) (λ x r. (r.0, sym (loaded_byte access r.0 e) ∙ r.1, r.2)) j

pub reads_none : (rows : List Row) (accesses : List Access) (clock : List ℕ) → AreJoined rows (IsReadOf rows (take 0 accesses)) clock clock
reads_none rows accesses clock = joined_none rows (IsReadOf rows (take 0 accesses)) clock (λ x r. let lt = r.1.1 in omega (arith, lt))

pub reads_more : (rows : List Row) (accesses : List Access) (y : ℕ) (d : Access) (a b c : List ℕ) → y < length accesses → AreJoined rows (IsReadOf rows (take y accesses)) a b
    → AreJoined rows (λ x. IsLoadedBy rows x (get_or accesses y d)) b c → AreJoined rows (IsReadOf rows (take (y + 1) accesses)) a c
reads_more rows accesses y d a b c lt j k =
    joined_more rows (IsReadOf rows (take y accesses)) (λ x. IsLoadedBy rows x (get_or accesses y d)) (IsReadOf rows (take (y + 1) accesses)) a b c
    (λ x r. some_wider (IsLoadedBy rows x) accesses y d lt r) (λ x r. some_last (IsLoadedBy rows x) accesses y d lt r) (λ x r. some_more (IsLoadedBy rows x) accesses y d lt r) j k
