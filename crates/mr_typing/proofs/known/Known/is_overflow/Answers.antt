use Rattle.mr_typing.proofs.Common.{◌≡◌, ◌↔◌, IsTrue, false, sym, ap, ◌∙◌, rules, tests, same_type, overflow_type, ty_of}
use Rattle.std.proofs.Common.{inl, inr}
use Rattle.mr_typing.specs.declared.known.Known.{Known}
use Rattle.mr_ast.specs.declared.types.Ty.TheVariants as ty
use Rattle.mr_typing.proofs.KnownLaws.{bool_no_overflow, fn_ptr_no_overflow, int_no_overflow, overflow_answer, raw_no_overflow, same_as_overflow}
use Rattle.mr_typing.proofs.known.Known.is_overflow.Goals as goal

pub returns-in-Overflow : goal.returns-in-Overflow
returns-in-Overflow c =
    let same : IsTrue c.eq.result ↔ (c.in-Overflow.j ≡ c.args.i) = search (rules, tests) in
    overflow_answer c.eq.result c.in-Overflow.j c.args.i same
    ∙ ap (λ (k : Known). same_type (ty_of k) (overflow_type c.args.i)) (sym c.in-Overflow.is)

pub returns-in-Int : goal.returns-in-Int
returns-in-Int c =
    let i = c.args.i in
    let told = λ (k : Known) (e : same_type (ty_of k) (overflow_type i) ≡ false) (is : c.args.self ≡ k). sym (ap (λ (x : Known). same_type (ty_of x) (overflow_type i)) is ∙ e) in
    elim c.in-Int.is [
      | inl one ↦ told (Known.Int one.0) (sym (same_as_overflow i (ty.Int one.0)) ∙ int_no_overflow one.0 i) one.1
      | inr others ↦ elim others [
        | inl is ↦ told Known.Bool (sym (same_as_overflow i ty.Bool) ∙ bool_no_overflow i) is
        | inr rest ↦ elim rest [
          | inl is ↦ told Known.Raw (sym (same_as_overflow i ty.Raw) ∙ raw_no_overflow i) is
          | inr is ↦ told Known.FnPtr (sym (same_as_overflow i ty.FnPtr) ∙ fn_ptr_no_overflow i) is
        ]
      ]
    ]
