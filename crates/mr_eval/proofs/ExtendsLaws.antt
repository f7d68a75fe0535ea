-- Notes that were only added to.
use Rattle.mr_eval.proofs.Common.{◌≡◌, List, [], ◌++◌, refl, sym, ap, ap₂, ◌∙◌, append-nil, append_assoc, AllocId, Extends, Seen, seeing}
use Rattle.mr_base.specs.declared.access.Access.{Access}

abbrev both : List Access → List AllocId → Seen
both accesses touched = record { accesses = accesses; touched = touched }

pub extends_same : (old new : Seen) → new ≡ old → Extends old new
extends_same old new e = record {
  accesses = [];
  touched = [];
  is = e ∙ ap₂ both (sym (append-nil old.accesses)) (sym (append-nil old.touched));
}

pub extends_seeing : (accesses : List Access) (touched : List AllocId) (old : Seen) → Extends old (seeing accesses touched old)
extends_seeing accesses touched old = record { accesses = accesses; touched = touched; is = refl }

pub extends_then : (a b c : Seen) → Extends a b → Extends b c → Extends a c
extends_then a b c x y = record {
  accesses = x.accesses ++ y.accesses;
  touched = x.touched ++ y.touched;
  is = y.is ∙ ap₂ both
      (ap (λ (s : Seen). s.accesses ++ y.accesses) x.is ∙ append_assoc a.accesses x.accesses y.accesses)
      (ap (λ (s : Seen). s.touched ++ y.touched) x.is ∙ append_assoc a.touched x.touched y.touched);
}

pub ruleset extends_laws = (extends_same, extends_seeing, extends_then)
