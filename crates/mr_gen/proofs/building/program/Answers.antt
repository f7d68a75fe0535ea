use Rattle.mr_gen.proofs.Common.{◌≡◌, Program, generated}
use Rattle.std.proofs.Common.{rules}
use Rattle.mr_gen.proofs.GeneratedLaws.{well_formed_equal}
use Rattle.mr_gen.proofs.building.program.Goals as goal

pub returns-clause-well_formed : goal.returns-clause-well_formed
unfolding generated
returns-clause-well_formed c =
    let made : Program = record {
      edition = 1;
      globals = c.in_ok-globals.globals;
      functions = c.push_functions.new.functions;
      names = c.in_ok-names.names;
      start = record { 0 = 1 };
    } in
    let same : made ≡ generated c.args.number = search rules in
    well_formed_equal made c.args.number same
