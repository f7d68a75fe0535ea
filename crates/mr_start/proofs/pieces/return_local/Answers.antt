use Rattle.mr_start.proofs.Common.{Local, all_at}
use Rattle.mr_layout.specs.TypeOk.{TypeOk}
use Rattle.mr_typing.specs.Unbroken.{UnbrokenFunction}
use Rattle.mr_typing.proofs.UnbrokenLaws.{well_formed_keeps}
use Rattle.mr_start.proofs.pieces.return_local.Goals as goal

pub returns : goal.returns
returns c =
    let p = c.args.p.now in
    let main = c.function_at-main.result.now in
    let kept = all_at (UnbrokenFunction p) p.functions p.start.0 main (well_formed_keeps p c.requires).functions c.function_at-main.ensures in (
      main,
      c.function_at-main.ensures,
      c.local_at.ensures,
      all_at (λ (l : Local). TypeOk l.ty) main.locals main.ret.0 c.local_at.result.now kept.locals c.local_at.ensures,
    )
