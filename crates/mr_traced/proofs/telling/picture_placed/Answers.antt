use Rattle.mr_traced.proofs.Common.{named, named_of, run_in, IsPictureText, trace_of}
use Rattle.mr_traced.proofs.Chains.{told_is}
use Rattle.mr_traced.proofs.telling.picture_placed.Goals as goal

pub returns : goal.returns
returns c =
    told_is (IsPictureText c.args.asked) c.in_ok-picture_of.field-0 (run_in (trace_of c.args.trace.now))
    (named_of c.args.places.now)
    c.in_ok-run.run'.items c.as_slice.result.now c.as_slice-2.result.now (named c.in_ok-places.places)
    c.in_ok-run.ensures.run c.in_ok-places.ensures c.as_slice.ensures.value c.as_slice-2.ensures.value
    c.in_ok-fits.ensures c.in_ok-picture_of.ensures
