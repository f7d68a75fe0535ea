-- What some numbers say of their programs, computed.
use Rattle.mr_gen.proofs.Common.{◌≡◌, true, false, length, refl, is_resetting, main_blocks, rounds_of, workers_of}

-- the least program: two workers with one round each
least_workers : workers_of 0 ≡ 2
least_workers = refl

least_rounds : rounds_of 0 ≡ 1
least_rounds = refl

least_has_no_race : is_resetting 0 ≡ false
least_has_no_race = refl

-- b0, c1, c2, e1, e2, e3 and h
least_blocks : length (main_blocks (workers_of 0)) ≡ 7
unfolding main_blocks
least_blocks = refl

-- the least program with races
odd_workers : workers_of 1 ≡ 3
odd_workers = refl

odd_rounds : rounds_of 1 ≡ 1
odd_rounds = refl

odd_has_races : is_resetting 1 ≡ true
odd_has_races = refl

-- many workers with many rounds
large_workers : workers_of 7160 ≡ 8
large_workers = refl

large_rounds : rounds_of 7160 ≡ 1023
large_rounds = refl
