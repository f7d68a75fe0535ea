use Rattle.mr_run_tests.proofs.rust_races.a_flag_that_is_read_orders.Goals as goal

pub add-requires-clause-tracks : goal.add-requires-clause-tracks
add-requires-clause-tracks g c = c.in_ok-analysis.ensures _
