-- What lies under a clock that was joined with another one, and under the clock behind a step.
use Rattle.mr_rust_order.proofs.Common.{◌≡◌, ◌≢◌, ℕ, ◌+◌, ◌<◌, max, List, slice_index, sym, ap, ◌∙◌, inl, inr, ◌⊎◌, arith, ℕ_discrete, dec_lt, Footprint, thread_at, IsClockBefore, IsClockBehind, IsJoin, IsRaised, IsUnder, Reaches}
use Rattle.mr_rust_order.proofs.OrderLaws.{reach_in_thread}

pub join_cases : (one other new : List ℕ) (t n : ℕ) → IsJoin one other new → n < slice_index new t → (n < slice_index one t) ⊎ (n < slice_index other t)
join_cases one other new t n join below =
    let is : slice_index new t ≡ max (slice_index one t) (slice_index other t) = join t in
    elim (dec_lt n (slice_index one t)) [
      | yes lt ↦ inl lt
      | no over ↦ inr (omega (arith, is, below, over))
    ]

pub join_one : (one other new : List ℕ) → IsJoin one other new → IsRaised one new
join_one one other new join = λ t. let is : slice_index new t ≡ max (slice_index one t) (slice_index other t) = join t in omega (arith, is)

pub join_other : (one other new : List ℕ) → IsJoin one other new → IsRaised other new
join_other one other new join = λ t. let is : slice_index new t ≡ max (slice_index one t) (slice_index other t) = join t in omega (arith, is)

pub raised_here : (clock : List ℕ) → IsRaised clock clock
raised_here clock = λ t. omega arith

pub raised_on : (one two three : List ℕ) → IsRaised one two → IsRaised two three → IsRaised one three
raised_on one two three a b = λ t. let p = a t in let q = b t in omega (arith, p, q)

-- what lies under a clock lies under one that is raised
pub under_raised : (run : List Footprint) (one two : List ℕ) (k : ℕ) → IsRaised one two → IsUnder run one k → IsUnder run two k
under_raised run one two k a u = let p = a (thread_at run k) in omega (arith, p, u)

-- a clock in which one number is raised
pub raise_raised : (old new : List ℕ) (t n : ℕ) → slice_index new t ≡ max (slice_index old t) n → ((u : ℕ) → u ≢ t → slice_index new u ≡ slice_index old u) → IsRaised old new
raise_raised old new t n own others = λ u. elim (ℕ_discrete u t) [
  | no ne ↦ let same = others u ne in omega (arith, same)
  | yes same ↦
      let is : slice_index new u ≡ max (slice_index old u) n = ap (slice_index new) same ∙ own ∙ ap (λ (v : ℕ). max (slice_index old v) n) (sym same) in
      omega (arith, is)
]

-- the clock before a step, with the step itself
pub clock_behind : (run : List Footprint) (old new : List ℕ) (j t : ℕ) → t ≡ thread_at run j → IsClockBefore run old j
    → slice_index new t ≡ max (slice_index old t) (j + 1) → ((u : ℕ) → u ≢ t → slice_index new u ≡ slice_index old u) → IsClockBehind run new j
clock_behind run old new j t at c own others =
    record {
      only = λ k under. elim (ℕ_discrete (thread_at run k) t) [
        | no ne ↦ let same = others (thread_at run k) ne in inr (c.only k (omega (arith, same, under)))
        | yes same ↦
            let is : slice_index new (thread_at run k) ≡ max (slice_index old (thread_at run k)) (j + 1) = own_at k same in
            elim (dec_lt k (slice_index old (thread_at run k))) [
              | yes low ↦ inr (c.only k low)
              | no over ↦ reach_in_thread run k j (omega (arith, is, under, over)) (same ∙ at)
            ]
      ];
      all = known;
    }
  where
    own_at : (k : ℕ) → thread_at run k ≡ t → slice_index new (thread_at run k) ≡ max (slice_index old (thread_at run k)) (j + 1)
    own_at k same = ap (slice_index new) same ∙ own ∙ ap (λ (u : ℕ). max (slice_index old u) (j + 1)) (sym same)

    known : (k : ℕ) → Reaches run k j → IsUnder run new k
    known k (inl is) =
        let here : slice_index new (thread_at run k) ≡ max (slice_index old (thread_at run k)) (j + 1) = own_at k (ap (thread_at run) is ∙ sym at) in
        omega (arith, here, is)
    known k (inr h) = under_raised run old new k (raise_raised old new t (j + 1) own others) (c.all k h)
