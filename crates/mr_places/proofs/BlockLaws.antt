-- The rows of blocks, functions and programs, in their parts.
use Rattle.mr_places.proofs.Common.{◌≡◌, ℕ, zero, suc, ◌+◌, ◌-◌, List, [], ◌∷◌, ◌++◌, length, codes, None, refl, ap, sym, ◌∙◌, subst, arith, nat_le, append_assoc, Block, Function, Mark, EachSpelled, Scope, Writing, name_form, token, word, ◌◂◌, args_form, inside_function, judged_edition, judged_kind, stmt_form, term_form, block_form, function_form, globals_form, locals_form, SpelledInside, Spelled, ends_of_block, ends_of_blocks, ends_of_function}
use Rattle.mr_ast.specs.declared.program.Local.{Local}
use Rattle.mr_ast.specs.declared.program.LocalName.{LocalName}
use Rattle.mr_ast.specs.declared.words.Bracket.TheVariants.{Round, Curly}
use Rattle.mr_ast.specs.declared.words.Role.TheVariants.{DefinesFunction, DefinesBlock}
use Rattle.mr_ast.specs.Writing.{listed, local_use, ◌▪◌, ◌▸◌}
use Rattle.mr_ast.specs.ProgramGrammar.{ProgramBody, stmts_form, blocks_form, body_form, functions_form, program_form}
use Rattle.mr_places.proofs.FreeLaws.{IsFree, IsFreeRow, free-append, free_spelled, opens_free, closes_free}
use Rattle.mr_places.proofs.FreeForms.{forms_free, args_free, edition_free, globals_free, kind_free, locals_free, name_free, word_free}
use Rattle.mr_places.proofs.EndLaws.{Closes, Passes, closes_passes, closes_append, passes_append, passes_closes, free_passes}
use Rattle.mr_places.proofs.RowLaws.{closes_same, passes_same, each_shifted, each_closes, each_once, ended_closes, stmt_closes, term_closes}

-- a block: three words, its statements, its end
pub record BlockRow (height : ℕ) (scope : Scope) (b : Block) (marks : List Mark) : Type 0 where
  pub head : List Mark
  pub three : length head ≡ 3
  pub free : IsFreeRow head
  pub stmts : List Mark
  pub written : EachSpelled (λ k. Spelled height 31 scope (stmt_form k)) 0 b.stmts stmts
  pub term : List Mark
  pub ending : Spelled height 31 scope term_form b.term term
  pub whole : marks ≡ head ++ (stmts ++ term)

pub block_row : (height : ℕ) (scope : Scope) (k : ℕ) (b : Block) (marks : List Mark) → Spelled height 31 scope (block_form k) b marks → BlockRow height scope b marks
unfolding block_form stmts_form
block_row height scope k b marks (head, body, hm, bm, is_b, whole, (n, kd, nm, km, is_head, hwhole, name_d, kind_d), (ss, t, sm, tm, is_body, bwhole, (u, ss', cm, sm', is_ss, swhole, colon_d, stmts_d), term_d)) =
    let name_one : nm ≡ record { word = name_d.0; flaw = name_d.2 } ∷ [] = name_d.5 ∙ ap (λ r. record { word = name_d.0; flaw = name_d.2 } ∷ r) name_d.6.1 in
    let kind_one : km ≡ record { word = kind_d.0; flaw = kind_d.2 } ∷ [] = kind_d.5 ∙ ap (λ r. record { word = kind_d.0; flaw = kind_d.2 } ∷ r) kind_d.6.1 in
    let colon_one : cm ≡ record { word = colon_d.0; flaw = colon_d.2 } ∷ [] = colon_d.5 ∙ ap (λ r. record { word = colon_d.0; flaw = colon_d.2 } ∷ r) colon_d.6.1 in
    let free_name = free_spelled forms_free height 31 scope (name_form (nat_le 1024 k) (DefinesBlock k)) (name_free _ _) n nm name_d in
    let free_kind = free_spelled forms_free height 31 scope (token judged_kind) kind_free kd km kind_d in
    let free_colon = free_spelled forms_free height 31 scope (word (codes ":")) (word_free (codes ":") refl) u cm colon_d in
    let stmts_are : ss' ≡ b.stmts = sym (ap (λ z. z.stmts) is_b ∙ ap (λ q. q.0) is_body ∙ is_ss) in
    let term_is : t ≡ b.term = sym (ap (λ z. z.term) is_b ∙ ap (λ q. q.1) is_body) in
    let row : marks ≡ (nm ++ (km ++ cm)) ++ (sm' ++ tm) =
    whole ∙ ap (λ r. r ++ bm) hwhole ∙ ap (λ r. (nm ++ km) ++ r) bwhole ∙ ap (λ r. (nm ++ km) ++ (r ++ tm)) swhole ∙ ap (λ r. (nm ++ km) ++ r) (append_assoc cm sm' tm)
    ∙ sym (append_assoc (nm ++ km) cm (sm' ++ tm)) ∙ ap (λ r. r ++ (sm' ++ tm)) (append_assoc nm km cm) in
    record {
      head = nm ++ (km ++ cm);
      three = rw (name_one, kind_one, colon_one) refl;
      free = free-append nm (km ++ cm) free_name (free-append km cm free_kind free_colon);
      stmts = sm';
      written = subst (λ l. EachSpelled (λ j. Spelled height 31 scope (stmt_form j)) 0 l sm') stmts_are stmts_d;
      term = tm;
      ending = subst (λ x. Spelled height 31 scope term_form x tm) term_is term_d;
      whole = row;
    }

pub block_closes : (height : ℕ) (scope : Scope) (b : Block) (marks : List Mark) → BlockRow height scope b marks → Closes (ends_of_block b) marks
block_closes height scope b marks row =
    let inner : Closes (suc (length b.stmts)) (row.stmts ++ row.term) =
    (let number : length b.stmts + 1 ≡ suc (length b.stmts) = omega arith in
    closes_same number (closes_append (each_once _ (stmt_closes height 31 scope) 0 b.stmts row.stmts row.written) (term_closes height 31 scope b.term row.term row.ending))) in
    let number : 0 + suc (length b.stmts) ≡ suc (length b.stmts) = omega arith in
    rw row.whole (closes_same number (passes_closes (free_passes row.head row.free) inner))

-- a function: what stands up to the semicolon behind its locals, its blocks, and a bracket
pub record FunctionRow (scope : Scope) (k : ℕ) (f : Function) (marks : List Mark) : Type 0 where
  pub height : ℕ
  pub opening : List Mark
  pub opens : Closes 1 opening
  pub blocks : List Mark
  pub written : EachSpelled (λ j. Spelled height 31 (inside_function k scope) (block_form j)) 0 f.blocks blocks
  pub closing : List Mark
  pub free : IsFreeRow closing
  pub whole : marks ≡ opening ++ (blocks ++ closing)

-- the blocks, the first of which is written apart
blocks_row : (height : ℕ) (scope : Scope) (bs : List Block) (marks : List Mark) → Spelled height 31 scope blocks_form bs marks
    → EachSpelled (λ j. Spelled height 31 scope (block_form j)) 0 bs marks
unfolding blocks_form
blocks_row height scope bs marks (b, others, front, back, is_bs, whole, first, rest) =
    let all : EachSpelled (λ j. Spelled height 31 scope (block_form j)) 0 (b ∷ others) marks =
    (front, back, whole, first, each_shifted (λ j. Spelled height 31 scope (block_form j)) 0 others back rest) in
    subst (λ l. EachSpelled (λ j. Spelled height 31 scope (block_form j)) 0 l marks) (sym is_bs) all

-- the parts of a function, one behind the other
in_parts : (a b c d e g : List Mark) (o : Mark) → a ++ (b ++ (c ++ (o ∷ ((d ++ e) ++ g)))) ≡ ((a ++ (b ++ (c ++ o ∷ []))) ++ d) ++ (e ++ g)
in_parts a b c d e g o =
    ap (λ r. a ++ (b ++ (c ++ (o ∷ r)))) (append_assoc d e g)
    ∙ sym (append_assoc (a ++ (b ++ (c ++ o ∷ []))) d (e ++ g) ∙ append_assoc a (b ++ (c ++ o ∷ [])) (d ++ (e ++ g))
    ∙ ap (λ r. a ++ r) (append_assoc b (c ++ o ∷ []) (d ++ (e ++ g))) ∙ ap (λ r. a ++ (b ++ r)) (append_assoc c (o ∷ []) (d ++ (e ++ g))))

pub function_row : (height : ℕ) (scope : Scope) (k : ℕ) (f : Function) (marks : List Mark) → Spelled height 32 scope (function_form k) f marks → FunctionRow scope k f marks
unfolding function_form body_form SpelledInside
function_row zero scope k f marks (u, f', fm, rest, is_f, whole, fn_d, (n, body, nm, bm, is_f', whole', name_d, (head, inner, hm, im, is_body, whole'', head_d, (start, end, between, is_start, is_shut, whole''', inside_d)))) = absurd inside_d
function_row (suc height) scope k f marks (u, f', fm, rest, is_f, whole, fn_d, (n, body, nm, bm, is_f', whole', name_d, (head, inner, hm, im, is_body, whole'', head_d, (start, end, between, is_start, is_shut, whole''', (ls, bs, lm, blm, is_inner, whole4, lets_d, blocks_d))))) =
    let here = inside_function k scope in
    let free_fn = free_spelled forms_free (suc height) 32 scope (word (codes "fn")) (word_free (codes "fn") refl) u fm fn_d in
    let free_name = free_spelled forms_free (suc height) 32 scope (name_form (nat_le 256 k) (DefinesFunction k)) (name_free _ _) n nm name_d in
    let head_form : Writing (List LocalName × LocalName) = listed Round args_form ▪ codes "->" ▸ local_use in
    let head_free : IsFree head_form = ((args_free, tt), (word_free (codes "->") refl, (tt, name_free _ _))) in
    let free_head = free_spelled forms_free (suc height) 32 here head_form head_free head hm head_d in
    let opened : Mark = record { word = start; flaw = None } in
    let shut : Mark = record { word = end; flaw = None } in
    let free_start = opens_free Curly start is_start in
    let free_end = closes_free Curly end is_shut in
    let lets : Closes 1 lm = ended_let lets_d in
    let in_front : IsFreeRow (fm ++ (nm ++ (hm ++ opened ∷ []))) =
    free-append fm _ free_fn (free-append nm _ free_name (free-append hm _ free_head (free_start, tt))) in
    let number : 0 + 1 ≡ 1 = omega arith in
    let row : marks ≡ ((fm ++ (nm ++ (hm ++ opened ∷ []))) ++ lm) ++ (blm ++ shut ∷ []) =
    whole ∙ ap (λ r. fm ++ r) whole' ∙ ap (λ r. fm ++ (nm ++ r)) whole'' ∙ ap (λ r. fm ++ (nm ++ (hm ++ r))) whole'''
    ∙ ap (λ r. fm ++ (nm ++ (hm ++ (opened ∷ (r ++ shut ∷ []))))) whole4 ∙ in_parts fm nm hm lm blm (shut ∷ []) opened in
    let blocks_are : bs ≡ f.blocks = sym (ap (λ z. z.blocks) is_f ∙ ap (λ z. z.blocks) is_f' ∙ ap (λ z. z.blocks) is_body ∙ ap (λ q. q.1) is_inner) in
    record {
      height = height;
      opening = (fm ++ (nm ++ (hm ++ opened ∷ []))) ++ lm;
      opens = closes_same number (passes_closes (free_passes _ in_front) lets);
      blocks = blm;
      written = subst (λ l. EachSpelled (λ j. Spelled height 31 here (block_form j)) 0 l blm) blocks_are (blocks_row height here bs blm blocks_d);
      closing = shut ∷ [];
      free = (free_end, tt);
      whole = row;
    }
  where
    ended_let : {ls : List Local} {lm : List Mark} → Spelled height 31 (inside_function k scope) (codes "let" ▸ locals_form ◂ codes ";") ls lm → Closes 1 lm
    ended_let {ls} {lm} (u, ls', wm, rm, is_ls, whole, let_d, ended_d) =
        let free_let = free_spelled forms_free height 31 (inside_function k scope) (word (codes "let")) (word_free (codes "let") refl) u wm let_d in
        let number : 0 + 1 ≡ 1 = omega arith in
        rw whole (closes_same number (passes_closes (free_passes wm free_let) (ended_closes height 31 (inside_function k scope) locals_form locals_free ls' rm ended_d)))

pub function_passes : (scope : Scope) (k : ℕ) (f : Function) (marks : List Mark) → FunctionRow scope k f marks → Passes (ends_of_function f) marks
function_passes scope k f marks row =
    let blocks = each_closes _ ends_of_block (λ j b ms written. block_closes row.height (inside_function k scope) b ms (block_row row.height (inside_function k scope) j b ms written)) 0 f.blocks row.blocks row.written in
    let number : 1 + (ends_of_blocks f.blocks + 0) ≡ suc (ends_of_blocks f.blocks) = omega arith in
    rw row.whole (passes_same number (passes_append (closes_passes row.opens) (passes_append (closes_passes blocks) (free_passes row.closing row.free))))

-- a program: what stands in front of its functions, these, and what stands behind them
pub record ProgramRow (scope : Scope) (functions : List Function) (marks : List Mark) : Type 0 where
  pub height : ℕ
  pub head : List Mark
  pub free : IsFreeRow head
  pub rows : List Mark
  pub written : EachSpelled (λ k. Spelled height 32 scope (function_form k)) 0 functions rows
  pub tail : List Mark
  pub whole : marks ≡ head ++ (rows ++ tail)

pub program_row : (height : ℕ) (scope : Scope) (body : ProgramBody) (marks : List Mark) → Spelled height 32 scope program_form body marks → ProgramRow scope body.functions marks
unfolding program_form functions_form
program_row height scope body marks (u, z, m1, r1, is_z, w1, word_d, (v, parts, m2, r2, is_body, w2, edition_d, (items, start, im, tm, is_parts, w3, (gs, fs, gm, fm, is_items, w4, globals_d, functions_d), main_d))) =
    let free_first = free_spelled forms_free height 32 scope (word (codes "minirust")) (word_free (codes "minirust") refl) u m1 word_d in
    let free_second = free_spelled forms_free height 32 scope (token judged_edition) edition_free v m2 edition_d in
    let free_globals = free_spelled forms_free height 32 scope globals_form globals_free gs gm globals_d in
    let functions_are : fs ≡ body.functions =
    sym (ap (λ b. b.functions) is_z ∙ ap (λ b. b.functions) is_body ∙ ap (λ q. q.0.1) is_parts ∙ ap (λ q. q.1) is_items) in
    let row : marks ≡ (m1 ++ (m2 ++ gm)) ++ (fm ++ tm) =
    w1 ∙ ap (λ r. m1 ++ r) w2 ∙ ap (λ r. m1 ++ (m2 ++ r)) w3 ∙ ap (λ r. m1 ++ (m2 ++ (r ++ tm))) w4 ∙ ap (λ r. m1 ++ (m2 ++ r)) (append_assoc gm fm tm)
    ∙ sym (append_assoc m1 (m2 ++ gm) (fm ++ tm) ∙ ap (λ r. m1 ++ r) (append_assoc m2 gm (fm ++ tm))) in
    record {
      height = height;
      head = m1 ++ (m2 ++ gm);
      free = free-append m1 (m2 ++ gm) free_first (free-append m2 gm free_second free_globals);
      rows = fm;
      written = subst (λ l. EachSpelled (λ k. Spelled height 32 scope (function_form k)) 0 l fm) functions_are functions_d;
      tail = tm;
      whole = row;
    }
