use Rattle.mr_layout.proofs.Common.{◌+◌, false, get_or, drop, refl, ◌∙◌, drop_more, drop_all, U8, Tag}
use Rattle.mr_layout.proofs.TableLaws.{tags_next, tags_none}
use Rattle.mr_layout.proofs.tables.put_tags.Goals as goal

abbrev no_tag : Tag
no_tag = record { at = 0; int = U8; number = record { neg = false; mag = 0 } }

pub loop-tag-init : goal.loop-tag-init
loop-tag-init c = record { long = refl; values = λ k l. refl }

pub loop-tag-preserved : goal.loop-tag-preserved
loop-tag-preserved c =
    let i = c.loop-tag.tag-index in
    let tags = c.args.tags.now in
    let one = get_or tags i no_tag in
    record {
      long = c.put.ensures.long ∙ c.loop-tag.invariant.long;
      values =
          tags_next c.args.start one.at c.int_bytes.result c.saturating_add.result c.args.value one (drop (i + 1) tags) (drop i tags) tags c.args.table.now c.loop-tag.table c.put.new.table
          c.saturating_add.ensures c.requires (drop_more tags i no_tag c.loop-tag-test.true) refl c.int_bytes.ensures c.loop-tag.invariant.long c.put.ensures.long
          c.put.ensures.before c.put.ensures.inside c.put.ensures.after c.loop-tag.invariant.values;
    }

pub returns-clause-values : goal.returns-clause-values
returns-clause-values c =
    tags_none c.args.start c.args.value (drop c.loop-tag.tag-index c.args.tags.now) c.args.tags.now c.args.table.now c.loop-tag.table
    (drop_all c.loop-tag.tag-index c.args.tags.now c.loop-tag-test.false) c.loop-tag.invariant.values
