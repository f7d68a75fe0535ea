-- What codes say, in sentences.
use Rattle.std.specs.Prelude.{ℕ, List, [], Option, None, Some}
use Rattle.mr_base.specs.Reasons.{code_of}
use Rattle.mr_base.specs.declared.reason.Verdict.{Verdict}
use Rattle.mr_base.specs.declared.reason.Verdict.TheVariants.{Undefined}
use Rattle.mr_listing.specs.ReportReport.{line}
use Rattle.mr_why.specs.Why.{Entry, entry_of}

-- the sentence of an entry of the table of codes
abbrev pub sentence_in : Option Entry → List ℕ
sentence_in None = []
sentence_in (Some entry) = entry.words.what

-- WHAT A CODE SAYS, in a sentence
abbrev pub sentence_of : ℕ → List ℕ
sentence_of code = sentence_in (entry_of code)

-- the line of the reason for which a run is undefined, where it is
abbrev pub reason_text : Verdict → List ℕ
reason_text (Undefined reason) = line (sentence_of (code_of reason))
reason_text _ = []
