use Rattle.mr_step.proofs.Common.{false, ap, ◌∙◌, subst, arith, length, Program, config_of}
use Rattle.mr_typing.specs.Walk.{WellFormed}
use Rattle.mr_step.proofs.FirstLaws.{first_sound, first_within, functions_are, globals_are}
use Rattle.mr_step.proofs.machine.Machine.begun.Goals as goal

pub prove-unreachable-requires : goal.prove-unreachable-requires
prove-unreachable-requires c =
    let r = c.requires in
    let same = c.program-program.ensures.same in
    let many = functions_are c.args.p.now (subst WellFormed same c.program-program.ensures.well_formed) r.0 r.1 c.args.start r.2 in
    let written = ap (λ (p : Program). length p.functions) same in
    c.if-prove.true (omega (arith, c.args.start.functions.ok.0))

pub prove-unreachable-requires-2 : goal.prove-unreachable-requires-2
prove-unreachable-requires-2 c =
    let r = c.requires in
    let same = c.program-program.ensures.same in
    let many = globals_are c.args.p.now (subst WellFormed same c.program-program.ensures.well_formed) r.0 r.1 c.args.start r.2 in
    let written = ap (λ (p : Program). length p.globals) same in
    c.if-prove-2.true (omega (arith, c.args.start.globals.ok.0))

pub invariant_of-result : goal.invariant_of-result
invariant_of-result c =
    let p = c.args.p.now in
    let well = subst WellFormed c.program-program.ensures.same c.program-program.ensures.well_formed in
    let r = c.requires in
    record {
      set = record {
        well = well;
        functions = functions_are p well r.0 r.1 c.args.start r.2;
        globals = globals_are p well r.0 r.1 c.args.start r.2;
        cache = r.2.cache;
      };
      sound = λ e. first_sound p well r.0 r.1 c.args.start r.2 (config_of c.in_ok-progress.progress) c.in_ok-progress.ensures;
      within = λ e. first_within p well r.0 r.1 c.args.start r.2 (config_of c.in_ok-progress.progress) c.in_ok-progress.ensures;
    }

pub returns : goal.returns
returns c = λ picks h i. record { look = h.look i; failed = false; config = (c.in_ok-progress.ensures ∙ h.config) i }
