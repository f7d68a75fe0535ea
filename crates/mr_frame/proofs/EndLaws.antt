-- The ends of functions, part by part.
use Rattle.mr_frame.proofs.Common.{◌≡◌, ℕ, suc, ◌+◌, ◌<◌, ◌≤◌, refl, sym, ap, ◌∙◌, subst, Bool, true, false, List, [], ◌∷◌, length, drop, get_or, Option, None, Some, add-one, drop-cons, drop_all, Stop, plainly, BlockName, Function, Local, Ty, Pointer, MainReturned, align_of, size_of, Val, same_Some, option_map, slice_get, if◌then◌else◌, Memory, Outcome, Refused, Undefined, Went, ◌>>=◌, on, run, seen_of, with_seen, read_typed, stored, or_ill_formed, Seen, reading, loading, MemoryScript, memory_answer, reading_part, World, Targets, free_each, give_result, give_to, is_main, leave, local_type, resume, return_value, targets_of, unwind_in, unwind_to, free_storage, store, acted, stored_in, unstored, freed_each, left_by, returned, AreCalling, IsCalling, EndsThread, Frame, GoesOn, Look, Onward, Stack, at_block, with_top, IsReady, look_of, AtTerminator, Site, StandsAt}
use Rattle.mr_base.specs.declared.reason.Reason.TheVariants.{NoReturnBlock, NoUnwindBlock, UnwoundThread}
use Rattle.mr_ast.specs.declared.program.Term.TheVariants as term
use Rattle.mr_frame.specs.declared.look.Look.{Look as KeptLook}
use Rattle.mr_frame.proofs.ActedLaws.{acted_is, acted_return, return_run, free_run, memory_bind, site, stack}
use Rattle.mr_frame.proofs.EndSafe.{targets_there}

-- ---- one free after another

module _ (l : Local) (ls : List Local) (storage : Option Pointer) (rest : List (Option Pointer)) (w : World) where
  freed_on : freed_each (l ∷ ls) (storage ∷ rest) w ≡ on (unstored storage (size_of l.ty) (align_of l.ty) w) (λ _ u. freed_each ls rest u)
  unfolding freed_each
  freed_on =
      memory_bind (free_storage l.ty storage) (λ _. free_each ls rest) w
      ∙ ap (λ (o : Outcome (Unit {0}) World). on o (λ _ u. run memory_answer (free_each ls rest) u)) (free_run l.ty storage w)

  pub next_freed : (u : World) → unstored storage (size_of l.ty) (align_of l.ty) w ≡ Went tt u → freed_each (l ∷ ls) (storage ∷ rest) w ≡ freed_each ls rest u
  next_freed u e = freed_on ∙ ap (λ (o : Outcome (Unit {0}) World). on o (λ _ x. freed_each ls rest x)) e

  pub stop_freed : (r : Stop) → unstored storage (size_of l.ty) (align_of l.ty) w ≡ Refused r → freed_each (l ∷ ls) (storage ∷ rest) w ≡ Refused r
  stop_freed r e = freed_on ∙ ap (λ (o : Outcome (Unit {0}) World). on o (λ _ x. freed_each ls rest x)) e

pub none_freed : (w : World) → freed_each [] [] w ≡ Went tt w
unfolding freed_each
none_freed w = refl

module _ (ls : List Local) (st : List (Option Pointer)) (k : ℕ) (dl : Local) (ds : Option Pointer) (low : k < length ls) (high : k < length st) (w : World) where
  cut : freed_each (drop k ls) (drop k st) w ≡ freed_each (get_or ls k dl ∷ drop (suc k) ls) (get_or st k ds ∷ drop (suc k) st) w
  cut = λ i. freed_each (drop-cons ls k dl low i) (drop-cons st k ds high i) w

  pub freed_step : (u : World) → unstored (get_or st k ds) (size_of (get_or ls k dl).ty) (align_of (get_or ls k dl).ty) w ≡ Went tt u → freed_each (drop k ls) (drop k st) w ≡ freed_each (drop (k + 1) ls) (drop (k + 1) st) u
  freed_step u e =
      cut
      ∙ next_freed (get_or ls k dl) (drop (suc k) ls) (get_or st k ds) (drop (suc k) st) w u e
      ∙ ap (λ n. freed_each (drop n ls) (drop n st) u) (sym (add-one k))

  pub freed_stop : (r : Stop) → unstored (get_or st k ds) (size_of (get_or ls k dl).ty) (align_of (get_or ls k dl).ty) w ≡ Refused r → freed_each (drop k ls) (drop k st) w ≡ Refused r
  freed_stop r e = cut ∙ stop_freed (get_or ls k dl) (drop (suc k) ls) (get_or st k ds) (drop (suc k) st) w r e

-- what the code found of the local there
pub found_freed : (ls : List Local) (st : List (Option Pointer)) (k : ℕ) (d : Local) (w : World) (size align : ℕ) → d ≡ get_or ls k d → size ≡ size_of d.ty → align ≡ align_of d.ty
    → unstored (get_or st k None) (size_of (get_or ls k d).ty) (align_of (get_or ls k d).ty) w ≡ unstored (get_or st k None) size align w
found_freed ls st k d w size align is a b =
    ap (λ (l : Local). unstored (get_or st k None) (size_of l.ty) (align_of l.ty) w) (sym is)
    ∙ sym (λ i. unstored (get_or st k None) (a i) (b i) w)

pub freed_end : (ls : List Local) (st : List (Option Pointer)) (k : ℕ) (w : World) → length ls ≤ k → length st ≤ k → freed_each (drop k ls) (drop k st) w ≡ Went tt w
freed_end ls st k w low high = (λ i. freed_each (drop_all k ls low i) (drop_all k st high i) w) ∙ none_freed w

-- ---- behind a return

pub left_none : (look : Look) (s : Stack) (t : Option Ty) (v : Val) (w : World) → left_by look s t v [] w ≡ Went (EndsThread (record s { frames = [] })) w
unfolding left_by
left_none look s t v w = refl

module _ (look : Look) (s : Stack) (t : Ty) (v : Val) (caller : Frame) (rest : List Frame) (w : World) (c : IsCalling look.program (Some t) caller) where
  left_to : left_by look s (Some t) v (caller ∷ rest) w ≡ run memory_answer (give_result s caller rest (Some t) v c.next (Some c.kept_place)) w
  unfolding left_by
  left_to =
      ap (λ (o : Option Targets). run memory_answer (give_to s caller rest (Some t) v o) w) (targets_there look (Some t) caller c)
      ∙ ap (λ (o : Option Pointer). run memory_answer (give_result s caller rest (Some t) v c.next o) w) c.keeps

  pub left_nowhere : c.next ≡ None → left_by look s (Some t) v (caller ∷ rest) w ≡ Refused (plainly NoReturnBlock)
  left_nowhere e = left_to ∙ ap (λ (o : Option BlockName). run memory_answer (give_result s caller rest (Some t) v o (Some c.kept_place)) w) e

  pub left_at : (b : BlockName) → c.next ≡ Some b → left_by look s (Some t) v (caller ∷ rest) w ≡ on (stored_in t c.kept_place v w) (λ _ u. Went (GoesOn (with_top s rest (at_block caller b.0))) u)
  unfolding stored_in
  left_at b e =
      left_to
      ∙ ap (λ (o : Option BlockName). run memory_answer (give_result s caller rest (Some t) v o (Some c.kept_place)) w) e
      ∙ memory_bind (store t c.kept_place v) _ w

-- ---- what a caller goes on with, as the code finds it

module _ (look : Look) (s : Stack) (below : List Frame) (t : Ty) (v : Val) (w : World) (caller : Frame) (rest : List Frame) (is : below ≡ caller ∷ rest) (calling : AreCalling look.program (Some t) below) where
  call : IsCalling look.program (Some t) caller
  call = (subst (AreCalling look.program (Some t)) is calling).0

  pub caller_targets : (x : Targets) × (targets_of look caller ≡ Some x)
  caller_targets = (_, targets_there look (Some t) caller call)

  module _ (found : Targets) (e : targets_of look caller ≡ Some found) where
    next_is : call.next ≡ found.next
    next_is = ap (λ (x : Targets). x.next) (same_Some _ found (sym (targets_there look (Some t) caller call) ∙ e))

    over : left_by look s (Some t) v below w ≡ left_by look s (Some t) v (caller ∷ rest) w
    over = ap (λ (bs : List Frame). left_by look s (Some t) v bs w) is

    pub gives_nowhere : found.next ≡ None → left_by look s (Some t) v below w ≡ Refused (plainly NoReturnBlock)
    gives_nowhere k = over ∙ left_nowhere look s t v caller rest w call (next_is ∙ k)

    module _ (b : BlockName) (k : found.next ≡ Some b) (place : Pointer) (kept : caller.call ≡ Some place) where
      gives_by : left_by look s (Some t) v below w ≡ on (stored_in t place v w) (λ _ u. Went (GoesOn (with_top s rest (at_block caller b.0))) u)
      gives_by =
          over
          ∙ left_at look s t v caller rest w call b (next_is ∙ k)
          ∙ ap (λ (p : Pointer). on (stored_in t p v w) (λ _ u. Went (GoesOn (with_top s rest (at_block caller b.0))) u)) (same_Some call.kept_place place (sym call.keeps ∙ kept))

      pub gives_stop : (r : Stop) → stored_in t place v w ≡ Refused r → left_by look s (Some t) v below w ≡ Refused r
      gives_stop r stop = gives_by ∙ ap (λ (o : Outcome (Unit {0}) World). on o (λ _ u. Went (GoesOn (with_top s rest (at_block caller b.0))) u)) stop

      pub gives_at : (u : World) (f : Frame) (payloads : List Pointer) → stored_in t place v w ≡ Went tt u → f ≡ at_block caller b.0 → payloads ≡ s.payloads
          → left_by look s (Some t) v below w ≡ Went (GoesOn (record { frames = f ∷ rest; payloads = payloads })) u
      gives_at u f payloads went is_f same =
          gives_by
          ∙ ap (λ (o : Outcome (Unit {0}) World). on o (λ _ u. Went (GoesOn (with_top s rest (at_block caller b.0))) u)) went
          ∙ sym (λ i. Went (GoesOn (record { frames = is_f i ∷ rest; payloads = same i })) u)

-- the value of the return local is loaded from its storage
pub returned_is : (m : Memory) (fn : Function) (f : Frame) (seen : Seen) (p : Pointer) (l : Local) → slice_get f.locals fn.ret.0 ≡ Some (Some p) → slice_get fn.locals fn.ret.0 ≡ Some l → returned m fn f seen ≡ read_typed m l.ty p seen
unfolding returned read_typed
returned_is m fn f seen p l at typed = λ i. run (reading m) (stored (at i) >>= λ q. or_ill_formed (option_map (λ (k : Local). k.ty) (typed i)) >>= λ t. loading t q) seen

-- ---- unwinding

module _ (look : KeptLook) (ready : IsReady look) (f : Frame) (payloads : List Pointer) (picks : List ℕ) (t : ℕ) (w : World) where
  abbrev lk : Look
  lk = look_of look

  pub resumed_bottom : (below : List Frame) → StandsAt look.program.now f below (AtTerminator term.Resume) → below ≡ [] → acted lk t (record { frames = f ∷ below; payloads = payloads }) picks w ≡ Refused (plainly UnwoundThread)
  resumed_bottom below h e =
      acted_is look ready f below payloads (AtTerminator term.Resume) h t picks w
      ∙ ap (λ (under : List Frame). run memory_answer (resume lk (stack look ready f below payloads) (site look ready f below payloads (AtTerminator term.Resume) h) under) w) e

  module _ (below : List Frame) (h : StandsAt look.program.now f below (AtTerminator term.Resume)) (caller : Frame) (rest : List Frame) (is : below ≡ caller ∷ rest) (result : Option Ty) (c : IsCalling look.program.now result caller) where
    abbrev whole : Stack
    whole = stack look ready f below payloads

    abbrev here : Site
    here = site look ready f below payloads (AtTerminator term.Resume) h

    resumed_to : acted lk t whole picks w ≡ run memory_answer (unwind_to whole here caller rest c.unwind) w
    resumed_to =
        acted_is look ready f below payloads (AtTerminator term.Resume) h t picks w
        ∙ ap (λ (under : List Frame). run memory_answer (resume lk whole here under) w) is
        ∙ ap (λ (o : Option Targets). run memory_answer (unwind_in whole here caller rest o) w) (targets_there lk result caller c)

    pub resumed_nowhere : c.unwind ≡ None → acted lk t whole picks w ≡ Refused (plainly NoUnwindBlock)
    resumed_nowhere e = resumed_to ∙ ap (λ (o : Option BlockName). run memory_answer (unwind_to whole here caller rest o) w) e

    pub resumed_at : (b : BlockName) → c.unwind ≡ Some b → acted lk t whole picks w ≡ on (freed_each h.fits.function.locals f.locals w) (λ _ u. Went (GoesOn (with_top whole rest (at_block caller b.0))) u)
    unfolding freed_each
    resumed_at b e =
        resumed_to
        ∙ ap (λ (o : Option BlockName). run memory_answer (unwind_to whole here caller rest o) w) e
        ∙ memory_bind (free_each h.fits.function.locals f.locals) _ w

-- where an unwinding goes on, as the code finds it
module _ (look : KeptLook) (ready : IsReady look) (f : Frame) (payloads : List Pointer) (picks : List ℕ) (t : ℕ) (w : World) (below : List Frame) (h : StandsAt look.program.now f below (AtTerminator term.Resume)) (caller : Frame) (rest : List Frame) (is : below ≡ caller ∷ rest) where
  abbrev result : Option Ty
  result = local_type h.fits.function h.fits.function.ret

  under : IsCalling look.program.now result caller
  under = (subst (AreCalling look.program.now result) is h.calling).0

  pub resumes_targets : (x : Targets) × (targets_of (look_of look) caller ≡ Some x)
  resumes_targets = (_, targets_there (look_of look) result caller under)

  module _ (found : Targets) (e : targets_of (look_of look) caller ≡ Some found) where
    unwind_is : under.unwind ≡ found.unwind
    unwind_is = ap (λ (x : Targets). x.unwind) (same_Some _ found (sym (targets_there (look_of look) result caller under) ∙ e))

    pub resumes_nowhere : found.unwind ≡ None → acted (look_of look) t (record { frames = f ∷ below; payloads = payloads }) picks w ≡ Refused (plainly NoUnwindBlock)
    resumes_nowhere k = resumed_nowhere look ready f payloads picks t w below h caller rest is result under (unwind_is ∙ k)

    module _ (b : BlockName) (k : found.unwind ≡ Some b) where
      resumes_by : acted (look_of look) t (record { frames = f ∷ below; payloads = payloads }) picks w ≡ on (freed_each h.fits.function.locals f.locals w) (λ _ u. Went (GoesOn (record { frames = at_block caller b.0 ∷ rest; payloads = payloads })) u)
      resumes_by = resumed_at look ready f payloads picks t w below h caller rest is result under b (unwind_is ∙ k)

      pub resumes_stop : (r : Stop) → freed_each h.fits.function.locals f.locals w ≡ Refused r → acted (look_of look) t (record { frames = f ∷ below; payloads = payloads }) picks w ≡ Refused r
      resumes_stop r stop = resumes_by ∙ ap (λ (o : Outcome (Unit {0}) World). on o (λ _ u. Went (GoesOn (record { frames = at_block caller b.0 ∷ rest; payloads = payloads })) u)) stop

      pub resumes_at : (u : World) (g : Frame) (others : List Frame) (left : List Pointer) → freed_each h.fits.function.locals f.locals w ≡ Went tt u → g ≡ at_block caller b.0 → others ≡ rest → left ≡ payloads
          → acted (look_of look) t (record { frames = f ∷ below; payloads = payloads }) picks w ≡ Went (GoesOn (record { frames = g ∷ others; payloads = left })) u
      resumes_at u g others left went is_g same_rest same =
          resumes_by
          ∙ ap (λ (o : Outcome (Unit {0}) World). on o (λ _ u. Went (GoesOn (record { frames = at_block caller b.0 ∷ rest; payloads = payloads })) u)) went
          ∙ sym (λ i. Went (GoesOn (record { frames = is_g i ∷ same_rest i; payloads = same i })) u)

-- ---- return, as a whole

module _ (look : KeptLook) (ready : IsReady look) (f : Frame) (below : List Frame) (payloads : List Pointer) (h : StandsAt look.program.now f below (AtTerminator term.Return)) (t : ℕ) (picks : List ℕ) (w : World) where
  abbrev whole_stack : Stack
  whole_stack = record { frames = f ∷ below; payloads = payloads }

  abbrev goes_on : MemoryScript Onward
  goes_on = reading_part (return_value h.fits.function f) >>= λ v. free_each h.fits.function.locals f.locals >>= λ _. leave (look_of look) whole_stack (local_type h.fits.function h.fits.function.ret) v below

  pub returned_main : is_main t below ≡ true → acted (look_of look) t whole_stack picks w ≡ Refused (plainly MainReturned)
  returned_main e = acted_return look ready f below payloads h t picks w ∙ ap (λ (b : Bool). run memory_answer (if b then Undefined (plainly MainReturned) else goes_on) w) e

  pub returned_other : is_main t below ≡ false → acted (look_of look) t whole_stack picks w
      ≡ on (returned w.0 h.fits.function f (seen_of w.1)) (λ v s. on (freed_each h.fits.function.locals f.locals (w.0, with_seen w.1 s)) (λ u v'. left_by (look_of look) whole_stack (local_type h.fits.function h.fits.function.ret) v below v'))
  returned_other e =
      acted_return look ready f below payloads h t picks w
      ∙ ap (λ (b : Bool). run memory_answer (if b then Undefined (plainly MainReturned) else goes_on) w) e
      ∙ return_run look ready f below payloads h.fits.function w

  abbrev behind_load : Val → Seen → Outcome Onward World
  behind_load v s = on (freed_each h.fits.function.locals f.locals (w.0, with_seen w.1 s)) (λ u v'. left_by (look_of look) whole_stack (local_type h.fits.function h.fits.function.ret) v below v')

  pub returned_stop : is_main t below ≡ false → (r : Stop) → returned w.0 h.fits.function f (seen_of w.1) ≡ Refused r → acted (look_of look) t whole_stack picks w ≡ Refused r
  returned_stop e r stop = returned_other e ∙ ap (λ (o : Outcome Val Seen). on o behind_load) stop

  pub returned_at : is_main t below ≡ false → (fn : Function) → h.fits.function ≡ fn → (v : Val) (s : Seen) → returned w.0 fn f (seen_of w.1) ≡ Went v s
      → acted (look_of look) t whole_stack picks w ≡ on (freed_each fn.locals f.locals (w.0, with_seen w.1 s)) (λ u v'. left_by (look_of look) whole_stack (local_type fn fn.ret) v below v')
  returned_at e fn same v s went =
      returned_other e
      ∙ ap (λ (o : Outcome Val Seen). on o behind_load) (ap (λ (g : Function). returned w.0 g f (seen_of w.1)) same ∙ went)
      ∙ ap (λ (g : Function). on (freed_each g.locals f.locals (w.0, with_seen w.1 s)) (λ u v'. left_by (look_of look) whole_stack (local_type g g.ret) v below v')) same
