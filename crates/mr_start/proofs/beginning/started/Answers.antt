use Rattle.mr_start.proofs.Common.{◌≤◌, ap, sym, ◌∙◌, subst, length, take, drop, Program, WellFormed, filled}
use Rattle.mr_layout.specs.Cached.{IsCacheOf}
use Rattle.mr_start.proofs.Begun.{config_is, first_functions, first_globals, functions_within, look_is, many_functions, many_globals}
use Rattle.mr_start.proofs.beginning.started.Goals as goal

pub split_at-requires : goal.split_at-requires
split_at-requires c =
    let p = c.args.p.now in
    let same = c.program-program.ensures.same in
    let well = subst WellFormed same c.program-program.ensures.well_formed in
    let within = functions_within p well c.args.picks.now c.requires.legal c.as_slice.result.now (c.as_slice.ensures.value ∙ c.requires.begun.pointers) in
    subst (λ n. n ≤ length c.as_slice.result.now) (sym (c.len.ensures ∙ ap (λ (q : Program). length q.functions) same)) within

pub enter_main-requires-clause-ready : goal.enter_main-requires-clause-ready
enter_main-requires-clause-ready c =
    let p = c.args.p.now in
    let same = c.program-program.ensures.same in
    let well = subst WellFormed same c.program-program.ensures.well_formed in
    let pointers = c.as_slice.result.now in
    let are = c.as_slice.ensures.value ∙ c.requires.begun.pointers in
    let split = c.len.ensures ∙ ap (λ (q : Program). length q.functions) same in
    record {
      well = well;
      functions = ap length (c.split_at.ensures.front ∙ ap (λ n. take n pointers) split) ∙ many_functions p well c.args.picks.now c.requires.legal pointers are;
      globals = ap length (c.split_at.ensures.back ∙ ap (λ n. drop n pointers) split) ∙ many_globals p well c.args.picks.now c.requires.legal pointers are;
      cache = subst (IsCacheOf c.in_ok-cache.cache) same c.in_ok-cache.ensures;
    }

pub fill-requires : goal.fill-requires
fill-requires c =
    let p = c.args.p.now in
    let same = c.program-program.ensures.same in
    let well = subst WellFormed same c.program-program.ensures.well_formed in
    let pointers = c.as_slice.result.now in
    let are = c.as_slice.ensures.value ∙ c.requires.begun.pointers in
    let split = c.len.ensures ∙ ap (λ (q : Program). length q.functions) same in
    ap length (c.split_at.ensures.back ∙ ap (λ n. drop n pointers) split) ∙ many_globals p well c.args.picks.now c.requires.legal pointers are
    ∙ ap (λ (q : Program). length q.globals) (sym same) ∙ ap length (sym c.as_slice-2.ensures)

pub returns : goal.returns
returns c =
    let p = c.args.p.now in
    let picks = c.args.picks.now in
    let same = c.program-program.ensures.same in
    let well = subst WellFormed same c.program-program.ensures.well_formed in
    let pointers = c.as_slice.result.now in
    let are = c.as_slice.ensures.value ∙ c.requires.begun.pointers in
    let split = c.len.ensures ∙ ap (λ (q : Program). length q.functions) same in
    let functions = c.split_at.ensures.front ∙ ap (λ n. take n pointers) split ∙ first_functions p well picks c.requires.legal pointers are in
    let globals = c.split_at.ensures.back ∙ ap (λ n. drop n pointers) split ∙ first_globals p well picks c.requires.legal pointers are in
    let entered = c.in_ok-memory.ensures in
    let all = c.as_slice-2.ensures ∙ ap (λ (q : Program). q.globals) same in
    record {
      look = look_is p picks _ _ (c.in_ok-from_slice.ensures.items ∙ functions) (c.in_ok-from_slice-2.ensures.items ∙ globals);
      cache = subst (IsCacheOf c.in_ok-cache.cache) same c.in_ok-cache.ensures;
      config = config_is p picks _ _ _ (c.memory-2.view_is ∙ c.in_ok-fill.ensures ∙ (λ i. filled (functions i) (globals i) (entered.memory i) (all i) (globals i))) entered.stack entered.count;
    }
