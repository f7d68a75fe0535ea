-- Reports that compute.
use Rattle.std.proofs.Common.{◌≡◌, refl, [], ◌∷◌, None, Some}
use Rattle.std.specs.Prelude.{codes}
use Rattle.mr_base.specs.declared.reason.Reason.TheVariants.{DataRace}
use Rattle.mr_base.specs.declared.reason.Verdict.TheVariants as verdict
use Rattle.std.specs.Fmt.{digits}
use Rattle.mr_sched.specs.declared.version.Version.TheVariants.{One, Two}
use Rattle.mr_sched.specs.Versions.{text_in}
use Rattle.mr_report.specs.Json.{json_text}
use Rattle.mr_report.specs.Report.{report_text}

-- a run that printed and exited
printed : report_text (record { thread = 0; text = codes "42" } ∷ []) verdict.Exit [] None One ≡ codes "> 42\nverdict exit\nraces 0\n"
unfolding digits
printed = refl

-- a run with two races, of which the second has no print
raced : report_text [] verdict.Exit (record { first = 3; second = 5 } ∷ record { first = 5; second = 7 } ∷ []) None One ≡ codes "verdict exit\nraces 2\nrace 4 6\nrace 6 8\n"
unfolding digits
raced = refl

-- a data race of the machine, with the schedule that leads to it
witnessed : report_text [] (verdict.Undefined DataRace) (record { first = 0; second = 1 } ∷ []) (Some (record { start = 16 ∷ 32 ∷ []; entries = record { thread = 0; picks = [] } ∷ record { thread = 1; picks = [] } ∷ [] })) One
    ≡ codes "verdict undefined 100 DataRace\nraces 1\nrace 1 2\nwitness 2\nschedule 1\nstart 16 32\n0\n1\n"
unfolding digits text_in
witnessed = refl

-- the same in version 2, where the two steps of thread 1 have one line
witnessed_two : report_text [] (verdict.Undefined DataRace) (record { first = 0; second = 2 } ∷ [])
    (Some (record { start = 16 ∷ 32 ∷ []; entries = record { thread = 0; picks = [] } ∷ record { thread = 1; picks = [] } ∷ record { thread = 1; picks = [] } ∷ [] })) Two
    ≡ codes "verdict undefined 100 DataRace\nraces 1\nrace 1 3\nwitness 3\nschedule 2\nstart 16 32\n0\n1*2\n"
unfolding digits text_in
witnessed_two = refl

-- a run with nothing to tell but its verdict, as JSON
quiet_json : json_text [] verdict.Exit [] None One ≡ codes "{\"output\":[],\"races\":[],\"verdict\":\"exit\",\"witness\":null}\n"
quiet_json = refl

-- a data race, as JSON: in the string each LF of the schedule is written as two characters
witnessed_json : json_text (record { thread = 0; text = codes "2" } ∷ []) (verdict.Undefined DataRace) (record { first = 1; second = 2 } ∷ [])
    (Some (record { start = 16 ∷ 17 ∷ 4096 ∷ 32 ∷ []; entries = record { thread = 0; picks = 33 ∷ 8208 ∷ [] } ∷ record { thread = 0; picks = 34 ∷ 8216 ∷ [] } ∷ record { thread = 1; picks = [] } ∷ [] })) One
    ≡ codes "{\"output\":[\"2\"],\"races\":[[2,3]],\"verdict\":\"undefined 100 DataRace\",\"witness\":\"schedule 1\\nstart 16 17 4096 32\\n0 33 8208\\n0 34 8216\\n1\\n\"}\n"
unfolding digits text_in
witnessed_json = refl

-- the same in version 2
witnessed_two_json : json_text [] (verdict.Undefined DataRace) (record { first = 1; second = 2 } ∷ [])
    (Some (record { start = 16 ∷ []; entries = record { thread = 0; picks = [] } ∷ record { thread = 0; picks = [] } ∷ record { thread = 1; picks = [] } ∷ [] })) Two
    ≡ codes "{\"output\":[],\"races\":[[2,3]],\"verdict\":\"undefined 100 DataRace\",\"witness\":\"schedule 2\\nstart 16\\n0*2\\n1\\n\"}\n"
unfolding digits text_in
witnessed_two_json = refl

-- two prints and two races, with a comma between them
two_json : json_text (record { thread = 0; text = codes "-1" } ∷ record { thread = 1; text = codes "true" } ∷ []) verdict.Deadlock (record { first = 3; second = 5 } ∷ record { first = 5; second = 9 } ∷ []) None One
    ≡ codes "{\"output\":[\"-1\",\"true\"],\"races\":[[4,6],[6,10]],\"verdict\":\"deadlock\",\"witness\":null}\n"
unfolding digits
two_json = refl
