-- Whose order an arrow is of.
use Rattle.mr_picture.proofs.Common.{◌≡◌, ◌<◌, ◌↔◌, Bool, true, false, IsTrue, refl, false≢true, Pair, arrow_mark, is_wake, Scene}
use Rattle.mr_rust_order.specs.Order.{HappensBefore}
use Rattle.mr_rust_order.specs.Order.Edge.{started}
use Rattle.mr_rust_order.specs.Order.HappensBefore.{edge}
use Rattle.mr_rust_order.proofs.TestLaws.{happens_before_is}
use Rattle.mr_picture.specs.Links.{arrow_sign, is_rusts}
use Rattle.mr_svg.specs.declared.shape.Sign.TheVariants as sign

told : (woken rusts : Bool) (P : Type 0) → (woken ≡ true → P) → IsTrue rusts ↔ P
    → (arrow_sign woken rusts ≡ sign.MachineOrder) ↔ ¬ P
told true rusts P is_order is_rusts = (λ e. absurd cc, λ no. absurd (no (is_order refl)))
told false true P is_order is_rusts = (λ e. absurd cc, λ no. absurd (no (is_rusts.0 refl)))
told false false P is_order is_rusts = (λ e p. absurd (false≢true (is_rusts.1 p)), λ no. refl)

-- THE LAW: a wake is an edge of Rust's order
pub whose : (s : Scene) (arrow : Pair) → arrow.first < arrow.second
    → ((arrow_mark s arrow).sign ≡ sign.MachineOrder) ↔ ¬ HappensBefore s.sketch.feet arrow.first arrow.second
whose s arrow rising =
    let feet = s.sketch.feet in
    told (is_wake feet arrow) (is_rusts feet arrow) (HappensBefore feet arrow.first arrow.second)
    (λ e. edge (started rising e)) (happens_before_is feet arrow.first arrow.second)
