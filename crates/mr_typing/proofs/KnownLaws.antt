-- What is known of a type, told by tests of its kind, against what is written alike.
use Rattle.mr_typing.proofs.Common.{◌≡◌, ◌↔◌, ℕ, ◌*◌, Bool, true, false, IsTrue, List, [], ◌∷◌, Option, Some, None, sym, ap, ap₂, ◌∙◌, ◌&&◌, ◌==◌, and_parts, same_from_decides, IntType, Ty, out-Ty, roll-Ty, Ty-F, Variant, int_size, same_type, integer_in, integer_of, overflow_type, is_bool, is_bool_layer, is_fn_ptr, is_raw, type_made}
use Rattle.std.specs.Cmp.Derive.{both_true}
use Rattle.std.proofs.lemmas.Bool.{false≢true}
use Rattle.std.proofs.lemmas.Option.{none-some, same_Some}
use Rattle.mr_typing.specs.Known.{are_overflow_fields, is_overflow_layer}
use Rattle.mr_layout.proofs.BaseComparisons.{eq_from, eq_itself}
use Rattle.mr_ast.specs.declared.types.Ty.TheVariants as ty
use Rattle.mr_typing.proofs.KindLaws.{same_type_sym, same_with_bool, same_with_fn_ptr, same_with_int, same_with_raw}
use Rattle.mr_typing.proofs.SameTypeLaws.{same_type_answer, same_type_equal, same_type_itself}

-- ---- types without parts

pub int_answer : (b : Bool) (t : Ty) (i : IntType) → (IsTrue b ↔ (integer_of t ≡ Some i)) → b ≡ same_type t (ty.Int i)
int_answer b t i tells = same_from_decides b (same_type t (ty.Int i)) (tells.0, tells.1) ((same_with_int t i).0, (same_with_int t i).1)

-- where it is told which integer a type is
pub int_told : (b : Bool) (t : Ty) (j i : IntType) → integer_of t ≡ Some j → (IsTrue b ↔ (j ≡ i)) → b ≡ same_type t (ty.Int i)
int_told b t j i is tells = int_answer b t i (
  (λ e. is ∙ ap (λ (k : IntType). Some k) (tells.0 e)),
  λ e. tells.1 (same_Some j i (sym is ∙ e)),
)

pub int_untold : (t : Ty) (i : IntType) → integer_of t ≡ None → false ≡ same_type t (ty.Int i)
int_untold t i is = int_answer false t i ((λ e. absurd (false≢true e)), λ e. absurd (none-some i (sym is ∙ e)))

pub int_turned : (i : IntType) (t : Ty) → same_type (ty.Int i) t ≡ same_type t (ty.Int i)
int_turned i t = same_type_sym (ty.Int i) t

pub bool_turned : (t : Ty) → same_type ty.Bool t ≡ is_bool t
bool_turned t = same_type_sym ty.Bool t ∙ same_with_bool t

pub raw_turned : (t : Ty) → same_type ty.Raw t ≡ is_raw t
raw_turned t = same_type_sym ty.Raw t ∙ same_with_raw t

pub fn_ptr_turned : (t : Ty) → same_type ty.FnPtr t ≡ is_fn_ptr t
fn_ptr_turned t = same_type_sym ty.FnPtr t ∙ same_with_fn_ptr t

-- ---- what an overflowing operator gives

abbrev overflow_fields : IntType → List (ℕ × Ty)
overflow_fields i = (0, ty.Int i) ∷ (int_size i, ty.Bool) ∷ []

fields_are : (i : IntType) (fields : List (ℕ × Ty)) → are_overflow_fields i fields ≡ true → fields ≡ overflow_fields i
fields_are i (f ∷ g ∷ []) e =
    let p = and_parts (f.0 == 0) (same_type f.1 (ty.Int i) && ((g.0 == int_size i) && is_bool g.1)) e in
    let q = and_parts (same_type f.1 (ty.Int i)) ((g.0 == int_size i) && is_bool g.1) p.1 in
    let r = and_parts (g.0 == int_size i) (is_bool g.1) q.1 in
    let one : f ≡ (0, ty.Int i) = ap₂ (λ (n : ℕ) (t : Ty). (n, t)) (eq_from f.0 0 p.0) (same_type_equal f.1 (ty.Int i) q.0) in
    let two : g ≡ (int_size i, ty.Bool) = ap₂ (λ (n : ℕ) (t : Ty). (n, t)) (eq_from g.0 (int_size i) r.0) (same_type_equal g.1 ty.Bool (same_with_bool g.1 ∙ r.1)) in
    ap₂ (λ (a b : ℕ × Ty). a ∷ b ∷ []) one two
fields_are i _ e = absurd (cc)

fields_are_so : (i : IntType) → are_overflow_fields i (overflow_fields i) ≡ true
fields_are_so i = both_true (eq_itself 0) (both_true (same_type_itself (ty.Int i)) (both_true (eq_itself (int_size i)) (ap is_bool_layer ty.outs-Bool)))

overflow_layer : (i : IntType) (d : Ty-F Ty Variant) → is_overflow_layer i d ≡ true → d ≡ Ty-F.Tuple (2 * int_size i) (int_size i) (overflow_fields i)
overflow_layer i (Ty-F.Tuple size align fields) e =
    let p = and_parts (size == 2 * int_size i) ((align == int_size i) && are_overflow_fields i fields) e in
    let q = and_parts (align == int_size i) (are_overflow_fields i fields) p.1 in
    ap₂ (λ (s a : ℕ). Ty-F.Tuple s a fields) (eq_from size (2 * int_size i) p.0) (eq_from align (int_size i) q.0)
    ∙ ap (λ (fs : List (ℕ × Ty)). Ty-F.Tuple (2 * int_size i) (int_size i) fs) (fields_are i fields q.1)
overflow_layer i _ e = absurd (cc)

overflow_layer_so : (i : IntType) → is_overflow_layer i (out-Ty (overflow_type i)) ≡ true
overflow_layer_so i =
    ap (is_overflow_layer i) (ty.outs-Tuple (2 * int_size i) (int_size i) (overflow_fields i))
    ∙ both_true (eq_itself (2 * int_size i)) (both_true (eq_itself (int_size i)) (fields_are_so i))

pub same_as_overflow : (i : IntType) (t : Ty) → is_overflow_layer i (out-Ty t) ≡ same_type t (overflow_type i)
same_as_overflow i t = same_type_answer (is_overflow_layer i (out-Ty t)) t (overflow_type i) (
  (λ e. sym (type_made t) ∙ ap roll-Ty (overflow_layer i (out-Ty t) e) ∙ ty.rolls-Tuple (2 * int_size i) (int_size i) (overflow_fields i)),
  λ e. ap (λ (u : Ty). is_overflow_layer i (out-Ty u)) e ∙ overflow_layer_so i,
)

pub overflow_turned : (i : IntType) (t : Ty) → same_type (overflow_type i) t ≡ same_type t (overflow_type i)
overflow_turned i t = same_type_sym (overflow_type i) t

-- the integer of such a type
abbrev first_integer : Ty-F Ty Variant → Option IntType
first_integer (Ty-F.Tuple size align (f ∷ fields)) = integer_of f.1
first_integer _ = None

first_is : (i : IntType) → first_integer (out-Ty (overflow_type i)) ≡ Some i
first_is i = ap first_integer (ty.outs-Tuple (2 * int_size i) (int_size i) (overflow_fields i)) ∙ ap integer_in (ty.outs-Int i)

overflow_apart : (j i : IntType) → overflow_type j ≡ overflow_type i → j ≡ i
overflow_apart j i e =
    let same : Some j ≡ Some i = sym (first_is j) ∙ ap (λ (t : Ty). first_integer (out-Ty t)) e ∙ first_is i in
    cc

pub overflow_answer : (b : Bool) (j i : IntType) → (IsTrue b ↔ (j ≡ i)) → b ≡ same_type (overflow_type j) (overflow_type i)
overflow_answer b j i tells = same_type_answer b (overflow_type j) (overflow_type i) ((λ e. ap overflow_type (tells.0 e)), λ e. tells.1 (overflow_apart j i e))

-- what is written as it is none of the types without parts
pub int_no_overflow : (j i : IntType) → is_overflow_layer i (out-Ty (ty.Int j)) ≡ false
int_no_overflow j i = ap (is_overflow_layer i) (ty.outs-Int j)

pub bool_no_overflow : (i : IntType) → is_overflow_layer i (out-Ty ty.Bool) ≡ false
bool_no_overflow i = ap (is_overflow_layer i) ty.outs-Bool

pub raw_no_overflow : (i : IntType) → is_overflow_layer i (out-Ty ty.Raw) ≡ false
raw_no_overflow i = ap (is_overflow_layer i) ty.outs-Raw

pub fn_ptr_no_overflow : (i : IntType) → is_overflow_layer i (out-Ty ty.FnPtr) ≡ false
fn_ptr_no_overflow i = ap (is_overflow_layer i) ty.outs-FnPtr

pub ruleset known_laws = (int_answer, int_turned, bool_turned, raw_turned, fn_ptr_turned, same_with_bool, same_with_raw, same_with_fn_ptr, same_as_overflow, overflow_turned, overflow_answer, int_no_overflow, bool_no_overflow, raw_no_overflow, fn_ptr_no_overflow)

pub ruleset written_laws = (same_type_answer, int_turned, bool_turned, raw_turned, fn_ptr_turned, overflow_turned)
