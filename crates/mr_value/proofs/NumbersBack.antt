-- Numbers, bools and pointers are read back from their bytes.
use Rattle.mr_value.proofs.Common.{◌≡◌, ℕ, zero, suc, ◌+◌, ◌*◌, ◌/◌, ◌%◌, ◌^◌, ◌<◌, true, List, [], ◌∷◌, Option, Some, None, refl, ap, ◌∙◌, arith, nat_tests, ◌&&◌, if◌then◌else◌, option_map, AllocId, Pointer, with_provenance, number_of, little_endian, all_have, pointer, pointer_of, pointer_bytes}
use Rattle.mr_value.specs.Numbers.{shared_provenance}
use Rattle.mr_base.specs.Identities.{same_id}
use Rattle.mr_value.proofs.Digits.{more_byte}

pub number_back : (provenance : Option AllocId) (count n : ℕ) → n < 2 ^ (8 * count) → number_of (with_provenance provenance (little_endian count n)) ≡ Some n
number_back provenance zero n p = let h : 0 ≡ n = omega arith in ap Some h
number_back provenance (suc count) n p =
    let more : 2 ^ (8 * suc count) ≡ 256 * 2 ^ (8 * count) = more_byte (suc count) (omega arith) ∙ ap (λ k. 256 * 2 ^ (8 * k)) (omega arith) in
    let rest : n / 256 < 2 ^ (8 * count) = omega arith in
    let digits : n % 256 % 256 + 256 * (n / 256) ≡ n = omega arith in
    ap (option_map (λ m. n % 256 % 256 + 256 * m)) (number_back provenance count (n / 256) rest) ∙ ap Some digits

pub id_itself : (p : AllocId) → same_id p p ≡ true
id_itself p = grind (arith, nat_tests)

all_have_it : (p : AllocId) (ns : List ℕ) → all_have p (with_provenance (Some p) ns) ≡ true
all_have_it p [] = refl
all_have_it p (n ∷ ns) = ap (λ t. t && all_have p (with_provenance (Some p) ns)) (id_itself p) ∙ all_have_it p ns

pub provenance_back : (provenance : Option AllocId) (n : ℕ) (ns : List ℕ) → shared_provenance (with_provenance provenance (n ∷ ns)) ≡ provenance
provenance_back None n ns = refl
provenance_back (Some p) n ns = ap (λ t. if t then Some p else None) (all_have_it p ns)

pub pointer_back : (p : Pointer) → p.addr < 2 ^ 64 → pointer_of (pointer_bytes p) ≡ Some p
pointer_back p h =
    let small : p.addr < 2 ^ (8 * 8) = h in
    ap (λ q. option_map (λ addr. pointer addr q) (number_of (pointer_bytes p))) (provenance_back p.prov (p.addr % 256) (little_endian 7 (p.addr / 256)))
    ∙ ap (option_map (λ addr. pointer addr p.prov)) (number_back p.prov 8 p.addr small)
