use Rattle.mr_runs.proofs.Common.{◌≡◌, ◌∙◌, ◌+◌, ℕ, cond, length, Some, None, Option, ap, nat_cmp, is_at, SeenPiece, UninitPiece, found}
use Rattle.mr_runs.proofs.GrowLaws.{found_taken, grown_over, taken_back}
use Rattle.mr_runs.proofs.grow.write_behind.Goals as goal

pub returns-in-Ok-clause-done : goal.returns-in-Ok-clause-done
returns-in-Ok-clause-done c =
    let es = c.args.runs.now.entries in
    let from = c.args.from in
    let numbers = c.args.numbers.now in
    let begin = c.in-Some.begin in
    let rest = c.in-Some.rest in
    let g = c.in-Some.ensures.some in
    let taken = c.insert.new.self.entries in
    let take_is : (q : ℕ) → found q c.insert.new.self.entries ≡ cond (is_at (nat_cmp (c.args.from + length c.args.numbers.now)) q) (Some (UninitPiece c.in-Some.rest)) (found q c.args.runs.now.entries) =
    λ q. c.in_ok-insert.ensures.updates.0 q ∙ ap (λ (p : SeenPiece). cond (is_at (nat_cmp (from + length numbers)) q) (Some p) (found q es)) c.uninit.ensures in
    let there = found_taken es from begin rest numbers c.args.provenance c.requires.tiled c.requires.some c.requires.inside g taken take_is in
    λ yes. grown_over es from begin rest numbers c.args.provenance c.requires.tiled c.requires.some c.requires.inside g taken c.grow.new.runs.entries c.remove.new.self.entries take_is
    (λ q. c.in-Ok.ensures.ok g.piece there q)
    c.remove.ensures.updates.0 c.len-ordered.ensures.ordered

pub returns-in-Err-clause-err : goal.returns-in-Err-clause-err
returns-in-Err-clause-err c =
    let es = c.args.runs.now.entries in
    let from = c.args.from in
    let numbers = c.args.numbers.now in
    let take_is : (q : ℕ) → found q c.insert.new.self.entries ≡ cond (is_at (nat_cmp (c.args.from + length c.args.numbers.now)) q) (Some (UninitPiece c.in-Some.rest)) (found q c.args.runs.now.entries) =
    λ q. c.in_ok-insert.ensures.updates.0 q ∙ ap (λ (p : SeenPiece). cond (is_at (nat_cmp (from + length numbers)) q) (Some p) (found q es)) c.uninit.ensures in
    taken_back es from c.in-Some.begin c.in-Some.rest numbers c.args.provenance c.requires.tiled c.requires.some c.requires.inside c.in-Some.ensures.some c.insert.new.self.entries c.remove-in-Err.new.self.entries take_is
    (λ q. c.remove-in-Err.ensures.updates.0 q ∙ ap (λ (o : Option SeenPiece). cond (is_at (nat_cmp (from + length numbers)) q) None o) (c.in-Err.ensures.err q))
    c.len-ordered-in-Err.ensures.ordered
