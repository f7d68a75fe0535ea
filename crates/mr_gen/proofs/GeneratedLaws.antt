-- The program of each number is well-formed.
use Rattle.mr_gen.proofs.Common.{◌≡◌, ℕ, ◌<◌, ◌≤◌, ◌^◌, sym, arith, Program, generated, is_resetting, program_with, rounds_of, workers_of}
use Rattle.std.proofs.Common.{subst}
use Rattle.mr_typing.specs.Walk.{WellFormed}
use Rattle.mr_gen.proofs.NoFaults.{program_nothing}
use Rattle.mr_gen.proofs.ShapedProgram.{program_shaped}
use Rattle.mr_gen.proofs.UnbrokenProgram.{program_unbroken}

few_workers : (number : ℕ) → workers_of number ≤ 8
few_workers number = omega arith

few_rounds : (number : ℕ) → rounds_of number < 2 ^ 64
few_rounds number = omega arith

pub well_formed : (number : ℕ) → WellFormed (generated number)
unfolding generated
well_formed number =
    let workers = workers_of number in
    let rounds = rounds_of number in
    let resets = is_resetting number in
    record {
      shaped = program_shaped workers rounds resets (few_workers number) (few_rounds number);
      unbroken = program_nothing (program_with workers rounds resets) (program_unbroken workers rounds resets (few_workers number) (few_rounds number));
    }

-- so is a program that is equal to it
pub well_formed_equal : (p : Program) (number : ℕ) → p ≡ generated number → WellFormed p
well_formed_equal p number e = subst WellFormed (sym e) (well_formed number)
