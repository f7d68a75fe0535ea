-- Footprints that are alike are equal.
use Rattle.mr_event.proofs.Common.{◌≡◌, ap, Footprint}
use Rattle.mr_event.specs.Likeness.{AreAlike}

pub alike_equal : (f g : Footprint) → AreAlike f g → f ≡ g
alike_equal f g h =
    λ i. record {
      thread = h.thread i;
      accesses = h.accesses i;
      allocated = h.allocated i;
      freed = h.freed i;
      touched = h.touched i;
      event = h.event i;
      ended = h.ended i;
      woken = h.woken i;
    }

pub equal_alike : (f g : Footprint) → f ≡ g → AreAlike f g
equal_alike f g e =
    record {
      thread = ap (λ (h : Footprint). h.thread) e;
      event = ap (λ (h : Footprint). h.event) e;
      ended = ap (λ (h : Footprint). h.ended) e;
      accesses = ap (λ (h : Footprint). h.accesses) e;
      touched = ap (λ (h : Footprint). h.touched) e;
      allocated = ap (λ (h : Footprint). h.allocated) e;
      freed = ap (λ (h : Footprint). h.freed) e;
      woken = ap (λ (h : Footprint). h.woken) e;
    }
