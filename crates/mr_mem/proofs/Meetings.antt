-- When two ranges share an address.
use Rattle.mr_mem.proofs.Common.{◌≡◌, ℕ, ◌+◌, ◌<◌, sym, ◌∙◌, true, false, ◌&&◌, and_parts, true≢false, false_from_ne_true, is_meeting}
use Rattle.std.specs.Prelude.{nat_lt}
use Rattle.std.proofs.lemmas.Bool.{and_from}
use Rattle.mr_base.proofs.Comparisons.{lt_from, lt_test}

-- both have an address, and each begins before the other ends
pub record AreSharing (a len b count : ℕ) : Type 0 where
  pub filled : 0 < len
  pub other_filled : 0 < count
  pub before : a < b + count
  pub behind : b < a + len

pub meeting_from : (a len b count : ℕ) → AreSharing a len b count → is_meeting a len b count ≡ true
meeting_from a len b count h =
    and_from (nat_lt 0 len) (nat_lt 0 count && (nat_lt a (b + count) && nat_lt b (a + len))) (lt_test 0 len h.filled)
    (and_from (nat_lt 0 count) (nat_lt a (b + count) && nat_lt b (a + len)) (lt_test 0 count h.other_filled)
    (and_from (nat_lt a (b + count)) (nat_lt b (a + len)) (lt_test a (b + count) h.before) (lt_test b (a + len) h.behind)))

pub from_meeting : (a len b count : ℕ) → is_meeting a len b count ≡ true → AreSharing a len b count
from_meeting a len b count e =
    let p = and_parts (nat_lt 0 len) (nat_lt 0 count && (nat_lt a (b + count) && nat_lt b (a + len))) e in
    let q = and_parts (nat_lt 0 count) (nat_lt a (b + count) && nat_lt b (a + len)) p.1 in
    let r = and_parts (nat_lt a (b + count)) (nat_lt b (a + len)) q.1 in
    record { filled = lt_from 0 len p.0; other_filled = lt_from 0 count q.0; before = lt_from a (b + count) r.0; behind = lt_from b (a + len) r.1 }

-- those that share no address don't share one the other way round
pub meeting-sym : (a len b count : ℕ) → is_meeting a len b count ≡ false → is_meeting b count a len ≡ false
meeting-sym a len b count h =
    false_from_ne_true (is_meeting b count a len) (λ m.
    let p = from_meeting b count a len m in
    true≢false (sym (meeting_from a len b count (record { filled = p.other_filled; other_filled = p.filled; before = p.behind; behind = p.before })) ∙ h))
