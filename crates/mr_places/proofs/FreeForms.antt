-- No type, place, value, statement or terminator has a semicolon among its words, before the one behind it.
use Rattle.mr_places.proofs.Common.{◌≡◌, ℕ, Bool, false, List, codes, bytes_eq, refl, Kind, word, token, name_form, stmt_behind, assign_form, term_behind, judged_edition, judged_kind, locals_form, args_form, globals_form, form_of}
use Rattle.mr_ast.specs.declared.words.Role.{Role}
use Rattle.mr_ast.specs.declared.words.TypeWord.{TypeWord}
use Rattle.mr_ast.specs.declared.words.TreeWord.{TreeWord}
use Rattle.mr_ast.specs.declared.words.ValueWord.{ValueWord}
use Rattle.mr_ast.specs.declared.words.StmtWord.{StmtWord}
use Rattle.mr_ast.specs.declared.words.TermWord.{TermWord}
use Rattle.mr_ast.specs.declared.words.ItemWord.{ItemWord}
use Rattle.mr_ast.specs.declared.expr.BinaryOp.{BinaryOp}
use Rattle.mr_ast.specs.Words.{is_name, is_number}
use Rattle.mr_ast.specs.Writing.{TheType, TheTree, ThePlace, TheValue, limited_word, judged_u64, judged_repeat, judged_any, judged_positive, judged_name, judged_target, judged_int, u64_form, num_form, target_use, int_form}
use Rattle.mr_ast.specs.TypeGrammar.{shape_form, field_form, chunk_form, tag_form, variant_form, case_form, branch_form, tree_behind, judged_tree, tree_form, ref_form, tuple_type_form, array_form, union_type_form, enum_form, type_behind, judged_type, type_form, tags_form, cases_form, fields_form, chunks_form, variants_form}
use Rattle.mr_ast.specs.ValueGrammar.{postfix_form, deref_form, base_form, place_from, global_value_form, tuple_value_form, union_value_form, variant_value_form, addr_of_form, cast_form, transmute_form, binary_form, value_behind, judged_value, value_form, postfixes_form, more_values_form}
use Rattle.mr_ast.specs.ProgramGrammar.{numbered_form, switch_case_form, switch_form, unwind_form, call_form, judged_intrinsic, intrinsic_form, do_form, local_form, repeat_form, reloc_form, item_behind, judged_item, item_form, global_form, switch_cases_form, values_form, items_form}
use Rattle.mr_ast.specs.declared.words.TypeWord.TheVariants as type_word
use Rattle.mr_ast.specs.declared.words.TreeWord.TheVariants as tree_word
use Rattle.mr_ast.specs.declared.words.ValueWord.TheVariants as value_word
use Rattle.mr_ast.specs.declared.words.StmtWord.TheVariants as stmt_word
use Rattle.mr_ast.specs.declared.words.TermWord.TheVariants as term_word
use Rattle.mr_ast.specs.declared.words.ItemWord.TheVariants as item_word
use Rattle.mr_places.proofs.FreeLaws.{IsFree}

pub word_free : (text : List ℕ) → bytes_eq (codes ";") text ≡ false → IsFree (word text)
word_free text other = ((λ scope n. rw other refl), λ i. tt)

pub limited_free : (code : ℕ) (over : Bool) (text : List ℕ) → bytes_eq (codes ";") text ≡ false → IsFree (limited_word code over text)
limited_free code over text other = ((λ scope n. rw other refl), λ i. tt)

pub u64_free : IsFree u64_form
unfolding judged_u64 is_number
u64_free = ((λ scope n. refl), λ i. tt)

pub any_free : IsFree (token judged_any)
unfolding judged_any is_number
any_free = ((λ scope n. refl), λ i. tt)

pub positive_free : IsFree (token judged_positive)
unfolding judged_positive is_number
positive_free = ((λ scope n. refl), λ i. tt)

pub repeat_token_free : IsFree (token judged_repeat)
unfolding judged_repeat is_number
repeat_token_free = ((λ scope n. refl), λ i. tt)

pub num_free : IsFree num_form
num_free = ((tt, (word_free (codes "-") refl, positive_free)), (tt, any_free))

pub int_free : IsFree int_form
unfolding judged_int
int_free = ((λ scope n. refl), λ i. tt)

pub name_free : (over : Bool) (role : Role) → IsFree (name_form over role)
unfolding judged_name is_name
name_free over role = ((λ scope n. refl), λ i. tt)

pub target_free : IsFree target_use
unfolding judged_target is_name
target_free = ((λ scope n. refl), λ i. tt)

ruleset pieces = (word_free, limited_free, u64_free, num_free, name_free, int_free, target_free)

-- types
pub shape_free : IsFree shape_form
unfolding shape_form
shape_free = search pieces parts 10

pub field_free : IsFree field_form
unfolding field_form
field_free = search pieces parts 10

pub chunk_free : IsFree chunk_form
unfolding chunk_form
chunk_free = search pieces parts 10

pub tag_free : IsFree tag_form
unfolding tag_form
tag_free = search pieces parts 10

pub variant_free : IsFree variant_form
unfolding variant_form tags_form
variant_free = search (pieces, tag_free) parts 10

pub case_free : IsFree case_form
unfolding case_form
case_free = search pieces parts 10

pub branch_free : IsFree branch_form
unfolding branch_form cases_form
branch_free = search (pieces, case_free) parts 10

pub tree_behind_free : (w : TreeWord) → IsFree (tree_behind w)
tree_behind_free tree_word.Known = (tt, num_free)
tree_behind_free tree_word.Invalid = tt
tree_behind_free tree_word.Branch = branch_free

pub tree_free : IsFree tree_form
unfolding tree_form judged_tree
tree_free = ((λ scope n. refl), tree_behind_free)

pub ref_free : IsFree ref_form
unfolding ref_form
ref_free = search pieces parts 10

pub tuple_type_free : IsFree tuple_type_form
unfolding tuple_type_form fields_form
tuple_type_free = search (pieces, shape_free, field_free) parts 10

pub array_free : IsFree array_form
unfolding array_form
array_free = search pieces parts 10

pub union_type_free : IsFree union_type_form
unfolding union_type_form fields_form chunks_form
union_type_free = search (pieces, shape_free, field_free, chunk_free) parts 10

pub enum_free : IsFree enum_form
unfolding enum_form variants_form
enum_free = search (pieces, shape_free, variant_free, tree_free) parts 10

pub type_behind_free : (w : TypeWord) → IsFree (type_behind w)
type_behind_free (type_word.Int i) = tt
type_behind_free type_word.Bool = tt
type_behind_free type_word.Raw = tt
type_behind_free type_word.FnPtr = tt
type_behind_free type_word.Unit = tt
type_behind_free type_word.Ref = ref_free
type_behind_free type_word.Tuple = tuple_type_free
type_behind_free type_word.Array = array_free
type_behind_free type_word.Union = union_type_free
type_behind_free type_word.Enum = enum_free

pub type_free : IsFree type_form
unfolding type_form judged_type
type_free = ((λ scope n. refl), type_behind_free)

-- places
pub postfix_free : (k : ℕ) → IsFree (postfix_form k)
unfolding postfix_form
postfix_free k = search pieces parts 10

pub deref_free : (over : Bool) → IsFree (deref_form over)
unfolding deref_form
deref_free over = search pieces parts 10

pub base_free : (over : Bool) → IsFree (base_form over)
unfolding base_form
base_free over = search (pieces, deref_free) parts 10

pub place_free : (over : Bool) → IsFree (place_from over)
unfolding place_from postfixes_form
place_free over = (base_free over, postfix_free)

-- values
pub global_value_free : IsFree global_value_form
unfolding global_value_form
global_value_free = search pieces parts 10

pub tuple_value_free : IsFree tuple_value_form
unfolding tuple_value_form more_values_form
tuple_value_free = search pieces parts 10

pub union_value_free : IsFree union_value_form
unfolding union_value_form
union_value_free = search pieces parts 10

pub variant_value_free : IsFree variant_value_form
unfolding variant_value_form
variant_value_free = search pieces parts 10

pub addr_of_free : IsFree addr_of_form
unfolding addr_of_form
addr_of_free = search pieces parts 10

pub cast_free : IsFree cast_form
unfolding cast_form
cast_free = search pieces parts 10

pub transmute_free : IsFree transmute_form
unfolding transmute_form
transmute_free = search pieces parts 10

pub binary_free : (o : BinaryOp) → IsFree (binary_form o)
unfolding binary_form
binary_free o = search pieces parts 10

pub value_behind_free : (w : ValueWord) → IsFree (value_behind w)
value_behind_free (value_word.Int i) = (tt, num_free)
value_behind_free value_word.True = tt
value_behind_free value_word.False = tt
value_behind_free value_word.Raw = (tt, u64_free)
value_behind_free value_word.Fn = search pieces parts 10
value_behind_free value_word.Global = global_value_free
value_behind_free value_word.Tuple = tuple_value_free
value_behind_free value_word.Union = union_value_free
value_behind_free value_word.Variant = variant_value_free
value_behind_free value_word.Load = (tt, tt)
value_behind_free value_word.Disc = (tt, tt)
value_behind_free value_word.AddrOf = addr_of_free
value_behind_free value_word.Cast = cast_free
value_behind_free value_word.Transmute = transmute_free
value_behind_free (value_word.Unary o) = (tt, tt)
value_behind_free (value_word.Binary o) = binary_free o

pub value_free : IsFree value_form
unfolding value_form judged_value
value_free = ((λ scope n. refl), value_behind_free)

-- the kinds
pub forms_free : (kind : Kind) → IsFree (form_of kind)
forms_free TheType = type_free
forms_free TheTree = tree_free
forms_free (ThePlace over) = place_free over
forms_free TheValue = value_free

-- statements, without the semicolon
pub stmt_behind_free : (w : StmtWord) → IsFree (stmt_behind w)
unfolding numbered_form
stmt_behind_free stmt_word.Live = search pieces parts 10
stmt_behind_free stmt_word.Dead = search pieces parts 10
stmt_behind_free stmt_word.Mention = (tt, tt)
stmt_behind_free stmt_word.Disc = search pieces parts 10
stmt_behind_free stmt_word.Deinit = (tt, tt)
stmt_behind_free stmt_word.Validate = (tt, tt)

pub assign_free : (over : Bool) → IsFree (assign_form over)
unfolding assign_form
assign_free over = search pieces parts 10

-- terminators
pub switch_case_free : IsFree switch_case_form
unfolding switch_case_form
switch_case_free = search pieces parts 10

pub switch_free : IsFree switch_form
unfolding switch_form switch_cases_form
switch_free = search (pieces, switch_case_free) parts 10

pub unwind_free : IsFree unwind_form
unfolding unwind_form
unwind_free = search pieces parts 10

pub call_free : IsFree call_form
unfolding call_form values_form
call_free = search pieces parts 10

pub intrinsic_free : IsFree intrinsic_form
unfolding judged_intrinsic
intrinsic_free = ((λ scope n. refl), λ i. tt)

pub do_free : IsFree do_form
unfolding do_form values_form
do_free = search (pieces, intrinsic_free) parts 10

pub term_behind_free : (w : TermWord) → IsFree (term_behind w)
term_behind_free term_word.Goto = search pieces parts 10
term_behind_free term_word.Switch = switch_free
term_behind_free term_word.Unreachable = tt
term_behind_free term_word.Return = tt
term_behind_free term_word.Exit = tt
term_behind_free term_word.Abort = tt
term_behind_free term_word.Resume = tt
term_behind_free term_word.Stop = search pieces parts 10
term_behind_free term_word.Unwind = unwind_free
term_behind_free term_word.Call = call_free
term_behind_free term_word.Do = do_free

-- what stands in front of blocks
pub edition_free : IsFree (token judged_edition)
unfolding judged_edition
edition_free = ((λ scope n. refl), λ i. tt)

pub kind_free : IsFree (token judged_kind)
unfolding judged_kind
kind_free = ((λ scope n. refl), λ i. tt)

pub local_free : (k : ℕ) → IsFree (local_form k)
unfolding local_form
local_free k = search pieces parts 10

pub locals_free : IsFree locals_form
unfolding locals_form
locals_free = search (pieces, local_free) parts 10

pub args_free : IsFree args_form
unfolding args_form
args_free = search pieces parts 10

-- globals
pub repeat_free : IsFree repeat_form
unfolding repeat_form
repeat_free = ((word_free (codes "*") refl, repeat_token_free), tt)

pub reloc_free : IsFree reloc_form
unfolding reloc_form
reloc_free = search pieces parts 10

pub item_behind_free : (w : ItemWord) → IsFree (item_behind w)
item_behind_free (item_word.Byte b) = (tt, repeat_free)
item_behind_free item_word.Uninit = (tt, repeat_free)
item_behind_free item_word.Reloc = reloc_free

pub item_free : IsFree item_form
unfolding item_form judged_item is_number
item_free = ((λ scope n. refl), item_behind_free)

pub global_free : (k : ℕ) → IsFree (global_form k)
unfolding global_form items_form
global_free k = search (pieces, item_free) parts 10

pub globals_free : IsFree globals_form
unfolding globals_form
globals_free = global_free
