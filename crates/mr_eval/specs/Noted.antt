-- What the load of a value notes, as it follows from the value.
use Rattle.std.specs.Prelude.{ℕ, false, [], ◌∷◌, Option, None, Some}
use Rattle.mr_ast.specs.declared.types.Ty.{Ty}
use Rattle.mr_base.specs.declared.byte.Pointer.{Pointer}
use Rattle.mr_layout.specs.Sizes.{size_of}
use Rattle.mr_value.specs.declared.val.Val.{Val}
use Rattle.mr_eval.specs.Reads.{Seen, accessing, seeing, touching}
use Rattle.mr_eval.specs.Typed.{Targets, targets_of}

-- the one target that there may be
abbrev pub listed : Option (Pointer × ℕ) → Targets
listed None = []
listed (Some t) = t ∷ []

-- what the range checks of what references point to note
abbrev pub noted_targets : Targets → Seen → Seen
noted_targets [] s = s
noted_targets (t ∷ targets) s = noted_targets targets (seeing [] (touching t.0 t.1) s)

-- what a load notes that gives this value of a type: its access, and then what the references in the value point to
abbrev pub noted_load : Ty → Pointer → Val → Seen → Seen
noted_load t p v s =
    noted_targets (targets_of t v) (seeing (accessing false false p (size_of t)) (touching p (size_of t)) s)
