-- The intrinsic that is due, if one is.
use Rattle.mr_frame.proofs.Common.{◌≡◌, refl, sym, ap, ◌∙◌, List, ◌∷◌, length, Option, None, Some, length-replicate, same_Some, option_map, replicate, slice_get, Place, Value, Block, BlockName, Function, Intrinsic, Program, Stmt, Term, Pointer, WellFormed, FitsFrame, IsLook, Frame, Look, Stack, IsReady, look_of, DueDo, do_at, do_due, next_do, AtStatement, Due, NoDo, Site, due_of, due_term, site_of, IsAt, StandsAt, due_in}
use Rattle.mr_frame.specs.declared.frame.Next.{Next}
use Rattle.mr_frame.specs.Doing.{operation_in}
use Rattle.mr_ast.specs.declared.program.Term.TheVariants as term
use Rattle.mr_frame.specs.declared.frame.Next.TheVariants as next
use Rattle.mr_frame.specs.declared.look.Look.{Look as KeptLook}
use Rattle.mr_frame.proofs.ActedLaws.{site, stack}
use Rattle.mr_frame.proofs.Frames.{due_end, due_stmt, site_is}

-- ---- where a thread stands

module _ (look : KeptLook) (ready : IsReady look) (f : Frame) (below : List Frame) (payloads : List Pointer) where
  abbrev lk : Look
  lk = look_of look

  abbrev whole : Stack
  whole = stack look ready f below payloads

  pub next_do_is : (due : Due) (h : StandsAt look.program.now f below due) → next_do lk whole ≡ do_due (site look ready f below payloads due h) (Some due)
  unfolding next_do site_of
  next_do_is due h =
      ap do_at (site_is lk (record { functions = ready.functions; globals = ready.globals }) ready.well f below h.fits)
      ∙ ap (do_due (site look ready f below payloads due h)) h.is

  -- where none is due, the terminator is none
  pub no_do : (x : Term) → StandsAt look.program.now f below (due_term x) → next_do lk whole ≡ None → NoDo x
  no_do (term.Goto b) h none = tt
  no_do (term.Switch v cases last) h none = tt
  no_do term.Unreachable h none = tt
  no_do (term.Call callee args place next unwind) h none = tt
  no_do term.Return h none = tt
  no_do (term.Unwind v b) h none = tt
  no_do term.Resume h none = tt
  no_do (term.Stop b) h none = tt
  no_do term.Exit h none = tt
  no_do term.Abort h none = tt
  no_do (term.Do op args place next) h none = absurd (let both = sym none ∙ next_do_is (due_term (term.Do op args place next)) h in absurd (cc))

-- ---- the same of a program alone

nowhere : Pointer
nowhere = record { addr = 0; prov = None }

module _ (p : Program) (well : WellFormed p) (f : Frame) (below : List Frame) (fits : FitsFrame p f) where
  -- with any pointers to functions and globals
  abbrev any_look : Look
  any_look = record { program = p; functions = replicate (length p.functions) nowhere; globals = replicate (length p.globals) nowhere }

  any_is : IsLook any_look
  any_is = record { functions = length-replicate (length p.functions) nowhere; globals = length-replicate (length p.globals) nowhere }

  abbrev there : Site
  there = record { function = fits.function; block = fits.block; frame = f; below = below }

  due_found : (n : Next) → IsAt fits.block f.at n → due_of there ≡ Some (due_in n)
  due_found (next.Statement x) at = due_stmt any_look any_is well f below fits x.now at
  due_found (next.Terminator t) at = due_end any_look any_is well f below fits at.0 ∙ ap (λ u. Some (due_term u)) at.1

  pub do_found : (functions globals payloads : List Pointer) (n : Next) → IsAt fits.block f.at n → next_do (record { program = p; functions = functions; globals = globals }) (record { frames = f ∷ below; payloads = payloads }) ≡ do_due there (Some (due_in n))
  unfolding next_do site_of
  do_found functions globals payloads n at = ap do_at (site_is any_look any_is well f below fits) ∙ ap (do_due there) (due_found n at)

-- the operation that is due
abbrev pub op_of : Option DueDo → Option Intrinsic
op_of o = option_map (λ (d : DueDo). d.op) o

op_in : (s : Site) (t : Term) → op_of (do_due s (Some (due_term t))) ≡ operation_in t
op_in s (term.Goto b) = refl
op_in s (term.Switch v cases last) = refl
op_in s term.Unreachable = refl
op_in s (term.Call callee args place next unwind) = refl
op_in s term.Return = refl
op_in s (term.Unwind v b) = refl
op_in s term.Resume = refl
op_in s (term.Stop b) = refl
op_in s term.Exit = refl
op_in s term.Abort = refl
op_in s (term.Do op args place next) = refl

abbrev pub op_at : Next → Option Intrinsic
op_at (next.Statement x) = None
op_at (next.Terminator t) = operation_in t.now

op_next : (s : Site) (n : Next) → op_of (do_due s (Some (due_in n))) ≡ op_at n
op_next s (next.Statement x) = refl
op_next s (next.Terminator t) = op_in s t.now

pub op_due : (p : Program) → WellFormed p → (f : Frame) (below : List Frame) (fits : FitsFrame p f) (fn : Function) → slice_get p.functions f.function ≡ Some fn → (functions globals payloads : List Pointer) (n : Next)
    → ((b : Block) → slice_get fn.blocks f.block ≡ Some b → IsAt b f.at n) → op_at n ≡ op_of (next_do (record { program = p; functions = functions; globals = globals }) (record { frames = f ∷ below; payloads = payloads }))
op_due p well f below fits fn there functions globals payloads n at =
    let same = same_Some fits.function fn (sym fits.is ∙ there) in
    let here = at fits.block (ap (λ (g : Function). slice_get g.blocks f.block) (sym same) ∙ fits.here) in
    sym (ap op_of (do_found p well f below fits functions globals payloads n here) ∙ op_next (record { function = fits.function; block = fits.block; frame = f; below = below }) n)

-- ---- the terminator of an intrinsic

module _ (look : KeptLook) (ready : IsReady look) (f : Frame) (below : List Frame) (payloads : List Pointer) (d : DueDo) (is : next_do (look_of look) (stack look ready f below payloads) ≡ Some d) where
  pub no_stmt_due : (x : Stmt) → StandsAt look.program.now f below (AtStatement x) → ⊥
  no_stmt_due x h = let both = sym is ∙ next_do_is look ready f below payloads (AtStatement x) h in cc

  from_due : (s : Site) (t : Term) → do_due s (Some (due_term t)) ≡ Some d → t ≡ term.Do d.op d.args d.place d.next
  from_due s (term.Goto b) e = absurd (cc)
  from_due s (term.Switch v cases last) e = absurd (cc)
  from_due s term.Unreachable e = absurd (cc)
  from_due s (term.Call callee args place next unwind) e = absurd (cc)
  from_due s term.Return e = absurd (cc)
  from_due s (term.Unwind v b) e = absurd (cc)
  from_due s term.Resume e = absurd (cc)
  from_due s (term.Stop b) e = absurd (cc)
  from_due s term.Exit e = absurd (cc)
  from_due s term.Abort e = absurd (cc)
  from_due s (term.Do op args place next) e =
      let same : record { site = s; op = op; args = args; place = place; next = next } ≡ d = same_Some _ d e in
      ap (λ (x : DueDo). term.Do x.op x.args x.place x.next) same

  pub term_due : (t : Term) → StandsAt look.program.now f below (due_term t) → t ≡ term.Do d.op d.args d.place d.next
  term_due t h = from_due (site look ready f below payloads (due_term t) h) t (sym (next_do_is look ready f below payloads (due_term t) h) ∙ is)

  -- and where it stands
  pub site_due : (t : Term) (h : StandsAt look.program.now f below (due_term t)) → d.site ≡ site look ready f below payloads (due_term t) h
  site_due t h = from_site (site look ready f below payloads (due_term t) h) t (sym (next_do_is look ready f below payloads (due_term t) h) ∙ is)
    where
      from_site : (s : Site) (u : Term) → do_due s (Some (due_term u)) ≡ Some d → d.site ≡ s
      from_site s (term.Goto b) e = absurd (cc)
      from_site s (term.Switch v cases last) e = absurd (cc)
      from_site s term.Unreachable e = absurd (cc)
      from_site s (term.Call callee args place next unwind) e = absurd (cc)
      from_site s term.Return e = absurd (cc)
      from_site s (term.Unwind v b) e = absurd (cc)
      from_site s term.Resume e = absurd (cc)
      from_site s (term.Stop b) e = absurd (cc)
      from_site s term.Exit e = absurd (cc)
      from_site s term.Abort e = absurd (cc)
      from_site s (term.Do op args place next) e =
          let same : record { site = s; op = op; args = args; place = place; next = next } ≡ d = same_Some _ d e in
          ap (λ (x : DueDo). x.site) (sym same)

-- the parts of two terminators that are the same intrinsic
pub same_do : (op op' : Intrinsic) (args args' : List Value) (place place' : Option Place) (next next' : BlockName) → term.Do op args place next ≡ term.Do op' args' place' next' → (args ≡ args') × (place ≡ place') × (next ≡ next')
same_do op op' args args' place place' next next' e = (cc, cc, cc)
