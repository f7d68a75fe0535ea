-- What is known of an allocation beside its bytes: what it keeps for good, and whether it is live.
use Rattle.mr_plan.proofs.Common.{◌≡◌, refl, ap, ◌∙◌, Option, Some, None, length, same_Some, Allocation, header_of}
use Rattle.mr_plan.specs.Places.{Header}

-- what an allocation keeps for good
pub record Lasting (a b : Allocation) : Type 0 where
  pub addr : a.addr ≡ b.addr
  pub span : a.span ≡ b.span
  pub align : a.align ≡ b.align
  pub kind : a.kind ≡ b.kind
  pub size : length a.bytes ≡ length b.bytes

pub lasting_same : (a : Allocation) → Lasting a a
lasting_same a = record { addr = refl; span = refl; align = refl; kind = refl; size = refl }

pub lasting_then : (a b c : Allocation) → Lasting a b → Lasting b c → Lasting a c
lasting_then a b c l k = record {
  addr = l.addr ∙ k.addr;
  span = l.span ∙ k.span;
  align = l.align ∙ k.align;
  kind = l.kind ∙ k.kind;
  size = l.size ∙ k.size;
}

-- alike but for what the bytes hold
pub record Like (a b : Allocation) : Type 0 where
  pub lasting : Lasting a b
  pub live : a.live ≡ b.live

-- an allocation, and one that is like it
pub record LikeOne (a : Allocation) (o : Option Allocation) : Type 0 where
  pub other : Allocation
  pub is : o ≡ Some other
  pub like : Like a other

-- where there is the same header, there is an allocation alike
pub like_one : (a : Allocation) (o : Option Allocation) → header_of (Some a) ≡ header_of o → LikeOne a o
like_one a None h = cc
like_one a (Some b) h =
    let e = same_Some _ _ h in
    record {
      other = b;
      is = refl;
      like = record {
        lasting = record {
          addr = ap (λ (w : Header). w.addr) e;
          span = ap (λ (w : Header). w.span) e;
          align = ap (λ (w : Header). w.align) e;
          kind = ap (λ (w : Header). w.kind) e;
          size = ap (λ (w : Header). w.size) e;
        };
        live = ap (λ (w : Header). w.live) e;
      };
    }

-- allocations that are alike have one header
pub like_header : (a b : Allocation) → Like a b → header_of (Some a) ≡ header_of (Some b)
like_header a b l = λ i. Some (record {
  addr = l.lasting.addr i;
  span = l.lasting.span i;
  align = l.lasting.align i;
  kind = l.lasting.kind i;
  live = l.live i;
  size = l.lasting.size i;
})
