use Rattle.mr_frame.proofs.Common.{sym, ap, ◌∙◌, same_Some, slice_get, Function, below_of, frame_of}
use Rattle.mr_frame.proofs.StandLaws.{found_due}
use Rattle.mr_frame.proofs.stack.Stack.due.Goals as goal

pub next_of-requires : goal.next_of-requires
next_of-requires c =
    let fits = c.requires.fits.0 in
    (c.args.look.now.program.now, fits, same_Some fits.function c.function.result.now (sym fits.is ∙ c.function.ensures))

pub returns : goal.returns
returns c =
    let fits = c.requires.fits.0 in
    let same = same_Some fits.function c.function.result.now (sym fits.is ∙ c.function.ensures) in
    record {
      ready = c.requires.ready;
      stands = record {
        fits = fits;
        bare = c.requires.fits.1;
        calling = c.requires.fits.2;
        is = found_due c.args.look.now c.requires.ready (frame_of c.args.self.now.top) (below_of c.args.self.now) fits c.next_of.result
            (c.next_of.ensures fits.block (ap (λ (f : Function). slice_get f.blocks c.args.self.now.top.block) (sym same) ∙ fits.here));
      };
    }
