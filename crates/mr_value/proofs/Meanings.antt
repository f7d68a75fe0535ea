-- What an answer of decoding says of the values that bytes mean.
use Rattle.mr_value.proofs.Common.{◌≡◌, ℕ, true, length, Option, Some, None, sym, ◌∙◌, arith, take_all, IfSome, IfNone, Ty, size_of, TypeOk, Val, decoded, Means, encoding_of, is_faithful, Bytes, part, has_shape, some_is}
use Rattle.mr_value.proofs.DecodeShape.{decoded_has_shape}
use Rattle.mr_value.proofs.EncodeLength.{length-encoding_of}
use Rattle.mr_value.proofs.ReadsBack.{decoded-encoding_of}

pub same_meaning : (t : Ty) (b : Bytes) (v w : Val) → Means t b v → Means t b w → v ≡ w
same_meaning t b v w first second = some_is (sym first.decodes ∙ second.decodes)

pub shape_of_meaning : (t : Ty) (b : Bytes) (v : Val) → TypeOk t → Means t b v → has_shape t v ≡ true
shape_of_meaning t b v ok m = decoded_has_shape t ok b m.sized v m.decodes

pub meaning_of_encoding : (t : Ty) (v : Val) → TypeOk t → has_shape t v ≡ true → is_faithful t v ≡ true → Means t (encoding_of t v) v
meaning_of_encoding t v ok shape faithful = record { sized = length-encoding_of t ok v shape; decodes = decoded-encoding_of t ok v shape faithful }

-- a part that is the whole
pub whole_part : (b : Bytes) (size : ℕ) → length b ≡ size → part 0 size b ≡ b
whole_part b size h = take_all size b (omega arith)

pub some_means : (t : Ty) (b : Bytes) (o : Option Val) → length b ≡ size_of t → o ≡ decoded t b → IfSome o (Means t b)
some_means t b None h e = tt
some_means t b (Some v) h e = record { sized = h; decodes = sym e }

pub none_means : (t : Ty) (b : Bytes) (o : Option Val) → o ≡ decoded t b → IfNone o ((w : Val) → Means t b w → ⊥)
none_means t b None e = λ w m. clash (e ∙ m.decodes)
  where
    clash : {w : Val} → None ≡ Some w → ⊥
    clash g = cc
none_means t b (Some v) e = tt

pub some_shape : (t : Ty) (b : Bytes) (o : Option Val) → TypeOk t → length b ≡ size_of t → o ≡ decoded t b → IfSome o (λ v. has_shape t v ≡ true)
some_shape t b None ok h e = tt
some_shape t b (Some v) ok h e = decoded_has_shape t ok b h v (sym e)
