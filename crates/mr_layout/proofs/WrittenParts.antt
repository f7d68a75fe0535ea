-- The types that are written in a program hold their parts, and the parts of a well-formed type are well-formed.
use Rattle.mr_layout.proofs.Common.{◌≡◌, ℕ, List, [], ◌∷◌, All, Ty, Variant, AllFields, AllVariants, TypeCases, type_induction, TypeOk, parts_of, types_of, types_of_fields, types_of_variants}
use Rattle.std.proofs.lemmas.List.Elements.{All-nil, All-cons, All-append, All-same}
use Rattle.mr_ast.specs.declared.types.Ty.TheVariants as ty
use Rattle.mr_layout.proofs.PartFacts.{FieldsOk, VariantsOk}
use Rattle.mr_layout.proofs.WrittenLaws.{parts_int, parts_bool, parts_raw, parts_fn_ptr, parts_ref, parts_tuple, parts_array, parts_union, parts_enum}
use Rattle.mr_layout.proofs.WellFormed.{tuple_ok, array_ok, union_ok, enum_ok}

-- the parts of a well-formed type

abbrev AreOk : Ty → Type 0
AreOk t = TypeOk t → All TypeOk (parts_of t)

no_parts : (t : Ty) → parts_of t ≡ [] → AreOk t
no_parts t e ok = All-same TypeOk (parts_of t) [] e (All-nil TypeOk)

fields_are : (size : ℕ) (fields : List (ℕ × Ty)) → AllFields AreOk fields → FieldsOk size fields → All TypeOk (types_of_fields fields)
fields_are size [] all ok = All-nil TypeOk
fields_are size (f ∷ fields) all ok =
    All-append TypeOk (types_of f.1) (types_of_fields fields) (All-cons TypeOk f.1 (parts_of f.1) ok.0.ok (all.0 ok.0.ok)) (fields_are size fields all.1 ok.1)

variants_are : (size : ℕ) (variants : List Variant) → AllVariants AreOk variants → VariantsOk size variants → All TypeOk (types_of_variants variants)
variants_are size [] all ok = All-nil TypeOk
variants_are size (v ∷ variants) all ok =
    All-append TypeOk (types_of v.ty) (types_of_variants variants) (All-cons TypeOk v.ty (parts_of v.ty) ok.0.ok (all.0 ok.0.ok)) (variants_are size variants all.1 ok.2)

ok_cases : TypeCases AreOk
ok_cases = record {
  at_int = λ i. no_parts (ty.Int i) (parts_int i);
  at_bool = no_parts ty.Bool parts_bool;
  at_raw = no_parts ty.Raw parts_raw;
  at_fn_ptr = no_parts ty.FnPtr parts_fn_ptr;
  at_ref = λ size align never. no_parts (ty.Ref size align never) (parts_ref size align never);
  at_tuple = λ size align fields all ok. All-same TypeOk _ _ (parts_tuple size align fields) (fields_are size fields all (tuple_ok size align fields ok).parts);
  at_array = λ count elem all ok. let part = (array_ok count elem ok).part in All-same TypeOk _ _ (parts_array count elem) (All-cons TypeOk elem (parts_of elem) part (all part));
  at_union = λ size align fields chunks all ok. All-same TypeOk _ _ (parts_union size align fields chunks) (fields_are size fields all (union_ok size align fields chunks ok).parts);
  at_enum = λ size align disc variants tree all ok. All-same TypeOk _ _ (parts_enum size align disc variants tree) (variants_are size variants all (enum_ok size align disc variants tree ok).parts);
}

-- a well-formed type and its parts are well-formed
pub ok_types : (t : Ty) → TypeOk t → All TypeOk (types_of t)
ok_types t ok = All-cons TypeOk t (parts_of t) ok (type_induction AreOk ok_cases t ok)
