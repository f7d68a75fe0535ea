-- What a run prints can be written as JSON.
use Rattle.mr_answer.proofs.Common.{◌≡◌, subst, sym, List, [], ◌∷◌, map, true, list_all, All-cons, All-head, All-nil, All-tail, Program, Schedule, Config, Printed, run_of, Own, is_printed, line_of}
use Rattle.mr_report.specs.Json.{ArePrinted}
use Rattle.mr_report.specs.declared.report.Line.{Line}
use Rattle.mr_answer.proofs.Printing.Runs.{AreLines, run_plain}

lines_printed : (output : List Printed) → AreLines output → ArePrinted (map line_of output)
lines_printed [] h = All-nil (λ (l : Line). list_all is_printed l.text ≡ true)
lines_printed (l ∷ output) h =
    All-cons (λ (x : Line). list_all is_printed x.text ≡ true) (line_of l) (map line_of output)
    (All-head (λ (x : Printed). list_all is_printed x.text ≡ true) l output h) (lines_printed output (All-tail (λ (x : Printed). list_all is_printed x.text ≡ true) l output h))

pub run_printed : (p : Program) (w : Schedule) → ArePrinted (map line_of (run_of p w).output)
run_printed p w = lines_printed (run_of p w).output (run_plain p w)

pub printed_by_run : (p : Program) (w : Schedule) (config : Config Own) → config ≡ run_of p w → ArePrinted (map line_of config.output)
printed_by_run p w config at = subst (λ (c : Config Own). ArePrinted (map line_of c.output)) (sym at) (run_printed p w)
