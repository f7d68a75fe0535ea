-- The bytes of a tag are those of its number as an integer, and tags are stored one behind the other.
use Rattle.mr_frame.proofs.Common.{◌≡◌, ℕ, ◌+◌, ◌<◌, false, List, ◌∷◌, length, drop, get_or, sym, ap, ◌∙◌, add-one, drop-cons, Tag, Pointer, Memory, encoding_of, tag_bytes, Went, on, behind, Seen, storing, Left, tagged}
use Rattle.mr_layout.proofs.BrokenLaws.{int_ok}
use Rattle.mr_value.specs.Discriminants.{bits_of_number}
use Rattle.mr_value.proofs.EncodeLaws.{encode_int}
use Rattle.mr_eval.proofs.ShapeOf.{int_shape}
use Rattle.mr_ast.specs.declared.types.Ty.TheVariants as ty
use Rattle.mr_value.specs.declared.val.Val.TheVariants as val

pub tag_encoded : (g : Tag) → encoding_of (ty.Int g.int) (val.Int (bits_of_number g.int g.number)) ≡ tag_bytes g
tag_encoded g = encode_int g.int (bits_of_number g.int g.number)

-- the tag at a position, and those behind it
pub tag_stored : (m : Memory) (p : Pointer) (tags : List Tag) (i : ℕ) (d : Tag) (old : Seen) (new : Memory) (last : Seen) → i < length tags
    → storing m false (behind p (get_or tags i d).at) (tag_bytes (get_or tags i d)) 1 old ≡ Went new last → tagged m p (drop i tags) old ≡ tagged new p (drop (i + 1) tags) last
tag_stored m p tags i d old new last lt h =
    ap (λ ts. tagged m p ts old) (drop-cons tags i d lt ∙ ap (λ n. get_or tags i d ∷ drop n tags) (sym (add-one i)))
    ∙ ap (λ (o : Left). on o (λ m' s. tagged m' p (drop (i + 1) tags) s)) h

pub ruleset tag_laws = (tag_encoded, int_ok, int_shape)
