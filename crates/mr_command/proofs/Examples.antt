-- Words, computed.
use Rattle.mr_command.proofs.Common.{◌≡◌, [], ◌∷◌, Some, None, codes, refl, OfProgram, OfSchedule, OfTrace, Run, command_of}
use Rattle.mr_command.specs.declared.command.Saying.TheVariants.{Canonical}
use Rattle.mr_answer.specs.declared.formats.Format.TheVariants as Format

the_form : command_of (codes "run" ∷ codes "P" ∷ codes "S" ∷ []) ≡ Some (Run Format.Text (codes "P") (codes "S"))
the_form = refl

the_other_form : command_of (codes "check" ∷ codes "P" ∷ []) ≡ Some (OfProgram Canonical (codes "P"))
the_other_form = refl

the_upgrade : command_of (codes "upgrade" ∷ codes "S" ∷ []) ≡ Some (OfSchedule (codes "S"))
the_upgrade = refl

the_trace : command_of (codes "trace" ∷ codes "P" ∷ codes "S" ∷ []) ≡ Some (Run Format.Footprints (codes "P") (codes "S"))
the_trace = refl

the_offline : command_of (codes "offline" ∷ codes "T" ∷ []) ≡ Some (OfTrace (codes "T"))
the_offline = refl

a_word_more : command_of (codes "check" ∷ codes "P" ∷ codes "S" ∷ []) ≡ None
a_word_more = refl

a_word_short : command_of (codes "run" ∷ codes "P" ∷ []) ≡ None
a_word_short = refl

another_word : command_of (codes "walk" ∷ codes "P" ∷ codes "S" ∷ []) ≡ None
another_word = refl
