use Rattle.mr_picture.proofs.Common.{◌∷◌, [], as_written, words_mark, scene_in, mark_of}
use Rattle.mr_picture.proofs.Marks.{begun, last_mark, more_mark}
use Rattle.mr_picture.proofs.legend.push_entry.Goals as goal

pub returns : goal.returns
returns c =
    let old = c.args.out.now.items in
    let own = mark_of c.args.sign c.args.shape [] c.args.words.now in
    last_mark as_written c.push_words.result old _ _ (own ∷ [])
    (words_mark (scene_in c.args.scene.now) c.args.number c.args.words.now)
    (more_mark as_written old old _ [] own (begun as_written old) c.in_ok-push_mark.ensures) c.push_words.ensures
