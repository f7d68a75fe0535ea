-- Statements that change memory neither make nor free an allocation.
use Rattle.mr_frame.proofs.Common.{List, [], ◌∷◌, Bool, true, false, Option, Some, None, if◌then◌else◌, Stmt, Tag, Ty, Pointer, align_of, size_of, Val, blank, encoding_of, tag_bytes, has_shape, type_of_place, IllFormed, ◌>>=◌, Surround, place_script, value_script, MemoryScript, reading_part, behind, ReadScript, loading, store_each, Change, change, store, tags_in, with_type, write, write_found, write_tags}
use Rattle.mr_plan.proofs.QuietRuns.{IsQuiet, quiet_then, reading_quiet}
use Rattle.mr_ast.specs.declared.program.Stmt.TheVariants as stmt

-- what follows a reading part
pub read_quiet : {A B : Type 0} (m : ReadScript A) (f : A → MemoryScript B) → ((x : A) → IsQuiet (f x)) → IsQuiet (reading_part m >>= f)
read_quiet m f h = quiet_then (reading_part m) f (reading_quiet m) h

pub store_quiet : (t : Ty) (p : Pointer) (v : Val) → IsQuiet (store t p v)
store_quiet t p v = by_test (has_shape t v)
  where
    by_test : (b : Bool) → IsQuiet (if b then write p (encoding_of t v) (align_of t) else IllFormed)
    by_test true = (tt, λ x. tt)
    by_test false = tt

with_type_quiet : (t : Option Ty) (f : Ty → Change) → ((u : Ty) → IsQuiet (f u)) → IsQuiet (with_type t f)
with_type_quiet None f h = tt
with_type_quiet (Some t) f h = h t

tagging_quiet : (p : Pointer) (tags : List Tag) → IsQuiet (write_tags p tags)
tagging_quiet p [] = tt
tagging_quiet p (tag ∷ tags) = quiet_then (write (behind p tag.at) (tag_bytes tag) 1) (λ u. write_tags p tags) (tt, λ x. tt) (λ u. tagging_quiet p tags)

found_quiet : (p : Pointer) (tags : Option (List Tag)) → IsQuiet (write_found p tags)
found_quiet p None = tt
found_quiet p (Some tags) = tagging_quiet p tags

pub change_quiet : (s : Surround) (x : Stmt) → IsQuiet (change s x)
change_quiet s (stmt.Assign place value) = read_quiet (place_script s place) _ (λ p. read_quiet (value_script s value) _ (λ v. with_type_quiet (type_of_place s.locals place) (λ t. store t p v) (λ t. store_quiet t p v)))
change_quiet s (stmt.Mention place) = read_quiet (place_script s place) _ (λ p. tt)
change_quiet s (stmt.Disc place number) = read_quiet (place_script s place) _ (λ p. found_quiet p (tags_in (type_of_place s.locals place) number))
change_quiet s (stmt.Deinit place) = read_quiet (place_script s place) _ (λ p. with_type_quiet (type_of_place s.locals place) (λ t. write p (blank (size_of t)) (align_of t)) (λ t. (tt, λ x. tt)))
change_quiet s (stmt.Validate place) = read_quiet (place_script s place) _ (λ p. with_type_quiet (type_of_place s.locals place) (λ t. reading_part (loading t p) >>= λ v. store t p v) (λ t. read_quiet (loading t p) _ (λ v. store_quiet t p v)))
change_quiet s (stmt.Live x) = tt
change_quiet s (stmt.Dead x) = tt

pub stores_quiet : (ts : List Ty) (ps : List Pointer) (vs : List Val) → IsQuiet (store_each ts ps vs)
stores_quiet [] [] [] = tt
stores_quiet [] [] (v ∷ vs) = tt
stores_quiet [] (p ∷ ps) vs = tt
stores_quiet (t ∷ ts) [] vs = tt
stores_quiet (t ∷ ts) (p ∷ ps) [] = tt
stores_quiet (t ∷ ts) (p ∷ ps) (v ∷ vs) = quiet_then (store t p v) (λ _. store_each ts ps vs) (store_quiet t p v) (λ u. stores_quiet ts ps vs)
