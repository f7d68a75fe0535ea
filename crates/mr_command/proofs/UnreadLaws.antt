-- Why a file was not read.
use Rattle.mr_command.proofs.Common.{◌≡◌, ℕ, ap, ◌∙◌, sym, arith, List, ◌⊎◌, inl, inr, refl, Some, None, Option, Contents, Answer, Command, Ends, IsPossible, LacksFile, written_status}
use Rattle.mr_command.specs.Named.{IsUnreadBecause}
use Rattle.mr_command.proofs.HeadlineLaws.{ran_out}
use Rattle.mr_command.proofs.StatusLaws.{lacks}

module _ (command : Option Command) (files_rose out_rose : Type 0) (old new : Option (List ℕ)) (status : ℕ) (six : status ≡ 6) where
  possible_unread : (files : Contents) (a : Answer) → IsPossible files command files_rose a → a.status ≡ 6 → files_rose ⊎ LacksFile files command
  possible_unread files a (inl is) s = inr (lacks files command (sym (ap (λ (b : Answer). b.status) is) ∙ s))
  possible_unread files a (inr unread) s = inl unread.0

  ends_unread : (files : Contents) → Ends files command files_rose out_rose old new status → files_rose ⊎ LacksFile files command
  ends_unread files (inl out) = let eight = (ran_out command old new status out).0 in absurd (omega arith)
  ends_unread files (inr (a, possible, written)) =
      elim (written_status a out_rose old new status written) [
        | inl s ↦ possible_unread files a possible (sym s ∙ six)
        | inr f ↦ let seven = f.1 in absurd (omega arith)
      ]

  pub unread_because : (tale : Option Contents) → (tale ≡ None → files_rose)
      → ((files : Contents) → tale ≡ Some files → Ends files command files_rose out_rose old new status) → IsUnreadBecause files_rose tale command
  unread_because None untold ends = inl (untold refl)
  unread_because (Some files) untold ends = elim (ends_unread files (ends files refl)) [ inl rose ↦ inl rose | inr lacking ↦ inr (files, refl, lacking) ]
