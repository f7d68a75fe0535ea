-- Storage of a local that is given up or renewed.
use Rattle.mr_frame.proofs.Common.{◌≡◌, ℕ, refl, sym, ap, ◌∙◌, arith, List, [], ◌∷◌, length, None, Some, slice_index_or, Stop, LocalName, Pointer, align_of, size_of, range_fault, ranges_of, Ask, Outcome, Refused, Went, on, seen, Allocate, memory_answer, World, world_of, Scene, picks_fault, AreLawful, CanAllocate, acted, asked, renewed, unstored, Frame, GoesOn, Onward, behind_stmt, with_storage, below_of, frame_of, look_of, stack_of, AtStatement, CanRenew, IsDue, on_then}
use Rattle.mr_sched.specs.declared.schedule.Ask.TheVariants.{Address}
use Rattle.mr_plan.proofs.LegalLaws.{picks_length}
use Rattle.mr_frame.specs.declared.slot.Slot.{Slot}
use Rattle.mr_frame.specs.Standing.{IsSlot}
use Rattle.mr_ast.specs.declared.program.Stmt.TheVariants as stmt
use Rattle.mr_base.specs.declared.byte.Kind.TheVariants.{Stack as OnStack}
use Rattle.mr_frame.specs.declared.look.Look.{Look as KeptLook}
use Rattle.mr_frame.specs.declared.stack.Stack.{Stack as KeptStack}
use Rattle.mr_frame.proofs.ActedLaws.{acted_dead, acted_live, asked_live}
use Rattle.mr_frame.proofs.BeginLaws.{first_lawful, first_new}
use Rattle.mr_frame.proofs.StorageLaws.{renewed_is}

-- ---- `live` and `dead`

-- a list of one
pub only_pick : (picks : List ℕ) → length picks ≡ 1 → picks ≡ slice_index_or picks 0 0 ∷ []
only_pick [] e = absurd (omega arith)
only_pick (a ∷ []) e = refl
only_pick (a ∷ b ∷ picks) e = absurd (omega arith)

module _ (look : KeptLook) (s : KeptStack) (x : LocalName) (slot : Slot) where
  module _ (h : IsDue look s (AtStatement (stmt.Live x))) (is : IsSlot h.stands.fits.function (frame_of s.top) x slot) where
    module _ (scene : Scene) (picks : List ℕ) (ok : AreLawful (look_of look) (stack_of s) picks scene) where
      asks_one : asked scene.memory (look_of look) scene.thread (stack_of s) (seen scene.notes) ≡ Address (size_of is.local.ty) (align_of is.local.ty) ∷ []
      asks_one = asked_live look h.ready (frame_of s.top) (below_of s) (stack_of s).payloads x h.stands is.local is.there slot.storage is.stored scene.memory scene.thread (seen scene.notes)

      lawful_one : picks_fault [] (ranges_of scene.memory) scene.thread scene.count (Address (size_of is.local.ty) (align_of is.local.ty) ∷ []) picks ≡ None
      lawful_one = ap (λ (asks : List Ask). picks_fault [] (ranges_of scene.memory) scene.thread scene.count asks picks) (sym asks_one) ∙ ok.lawful

      pub live_one_pick : length picks ≡ 1
      live_one_pick = picks_length [] (ranges_of scene.memory) scene.thread scene.count (Address (size_of is.local.ty) (align_of is.local.ty) ∷ []) picks lawful_one

      module _ (a : ℕ) (one : picks ≡ a ∷ []) where
        can : CanAllocate (is.local.ty ∷ []) (a ∷ []) (world_of scene)
        can = record {
          lawful = ap (λ ps. picks_fault [] (ranges_of scene.memory) scene.thread scene.count (Address (size_of is.local.ty) (align_of is.local.ty) ∷ []) ps) (sym one) ∙ lawful_one;
          uncounted = ok.uncounted;
          room = (let few = ok.few in omega arith);
        }

        pub live_can : CanRenew slot a scene
        live_can = record {
          lawful = (λ i. range_fault (ranges_of scene.memory) a (is.size i) (is.align i)) ∙ first_lawful is.local.ty [] a [] (world_of scene) can;
          new = first_new is.local.ty [] a [] (world_of scene) can;
          few = (let few = ok.few in omega arith);
          small = is.small;
          power = is.power;
        }

        abbrev behind : Pointer → Onward
        behind q = GoesOn (record { frames = behind_stmt (with_storage (frame_of s.top) x.0 (Some q)) ∷ below_of s; payloads = (stack_of s).payloads })

        live_by : acted (look_of look) scene.thread (stack_of s) picks (world_of scene) ≡ on (renewed slot a (world_of scene)) (λ q v. Went (behind q) v)
        live_by =
            ap (λ ps. acted (look_of look) scene.thread (stack_of s) ps (world_of scene)) one
            ∙ acted_live look h.ready (frame_of s.top) (below_of s) (stack_of s).payloads x h.stands is.local is.there slot.storage is.stored scene.thread a (world_of scene)
            ∙ sym (λ i. on (unstored slot.storage (is.size i) (is.align i) (world_of scene)) (λ _ w. on (memory_answer (Allocate OnStack (is.size i) (is.align i) a) w) (λ q w'. Went (behind q) w')))
            ∙ sym (on_then (unstored slot.storage slot.size slot.align (world_of scene)) (λ _ w. memory_answer (Allocate OnStack slot.size slot.align a) w) (λ q v. Went (behind q) v))
            ∙ ap (λ (o : Outcome Pointer World). on o (λ q v. Went (behind q) v)) (sym (renewed_is slot a (world_of scene)))

        pub live_goes : (u : World) (p : Pointer) (g : Frame) → renewed slot a (world_of scene) ≡ Went p u → g ≡ behind_stmt (with_storage (frame_of s.top) x.0 (Some p))
            → acted (look_of look) scene.thread (stack_of s) picks (world_of scene) ≡ Went (GoesOn (record { frames = g ∷ below_of s; payloads = (stack_of s).payloads })) u
        live_goes u p g made is_g =
            live_by
            ∙ ap (λ (o : Outcome Pointer World). on o (λ q w'. Went (behind q) w')) made
            ∙ ap (λ (f : Frame). Went (GoesOn (record { frames = f ∷ below_of s; payloads = (stack_of s).payloads })) u) (sym is_g)

        pub live_stops : (r : Stop) → renewed slot a (world_of scene) ≡ Refused r → acted (look_of look) scene.thread (stack_of s) picks (world_of scene) ≡ Refused r
        live_stops r stop = live_by ∙ ap (λ (o : Outcome Pointer World). on o (λ q v. Went (behind q) v)) stop

  module _ (h : IsDue look s (AtStatement (stmt.Dead x))) (is : IsSlot h.stands.fits.function (frame_of s.top) x slot) (t : ℕ) (picks : List ℕ) (w : World) where
    dead_by : acted (look_of look) t (stack_of s) picks w ≡ on (unstored slot.storage slot.size slot.align w) (λ _ v. Went (GoesOn (record { frames = behind_stmt (with_storage (frame_of s.top) x.0 None) ∷ below_of s; payloads = (stack_of s).payloads })) v)
    dead_by =
        acted_dead look h.ready (frame_of s.top) (below_of s) (stack_of s).payloads x h.stands is.local is.there slot.storage is.stored t picks w
        ∙ ap (λ (o : Outcome (Unit {0}) World). on o (λ _ v. Went (GoesOn (record { frames = behind_stmt (with_storage (frame_of s.top) x.0 None) ∷ below_of s; payloads = (stack_of s).payloads })) v))
        (sym (λ i. unstored slot.storage (is.size i) (is.align i) w))

    pub dead_goes : (v : World) (g : Frame) → unstored slot.storage slot.size slot.align w ≡ Went tt v → g ≡ behind_stmt (with_storage (frame_of s.top) x.0 None)
        → acted (look_of look) t (stack_of s) picks w ≡ Went (GoesOn (record { frames = g ∷ below_of s; payloads = (stack_of s).payloads })) v
    dead_goes v g gone is_g =
        dead_by
        ∙ ap (λ (o : Outcome (Unit {0}) World). on o (λ _ v. Went (GoesOn (record { frames = behind_stmt (with_storage (frame_of s.top) x.0 None) ∷ below_of s; payloads = (stack_of s).payloads })) v)) gone
        ∙ ap (λ (f : Frame). Went (GoesOn (record { frames = f ∷ below_of s; payloads = (stack_of s).payloads })) v) (sym is_g)

    pub dead_stops : (r : Stop) → unstored slot.storage slot.size slot.align w ≡ Refused r → acted (look_of look) t (stack_of s) picks w ≡ Refused r
    dead_stops r stop = dead_by ∙ ap (λ (o : Outcome (Unit {0}) World). on o (λ _ v. Went (GoesOn (record { frames = behind_stmt (with_storage (frame_of s.top) x.0 None) ∷ below_of s; payloads = (stack_of s).payloads })) v)) stop
