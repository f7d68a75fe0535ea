-- What stands inside a bracket.
use Rattle.mr_grammar.proofs.Common.{◌≡◌, ℕ, zero, suc, ◌-◌, ◌==◌, false, List, refl, arith, Word, Scope, Writing, read_inside, read_part, read}

-- it is read with one bracket fewer
pub inside : (room : ℕ) (scope : Scope) (A : Type 0) (form : Writing A) (ws : List Word) → (room == 0) ≡ false → read_inside room scope A form ws ≡ read (room - 1) scope form ws
unfolding read_inside read_part
inside zero scope A form ws some = cc
inside (suc room) scope A form ws some = let e : suc room - 1 ≡ room = omega arith in rw e refl
