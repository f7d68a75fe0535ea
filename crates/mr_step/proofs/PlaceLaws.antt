-- Where a thread stands, as it is kept.
use Rattle.mr_step.proofs.Common.{◌≡◌, ℕ, zero, suc, Bool, true, false, List, [], ◌∷◌, slice_get, Some, refl, numbered}
use Rattle.mr_step.specs.Kept.{kept_place}
use Rattle.mr_step.specs.Standing.{place_in}
use Rattle.mr_step.specs.declared.progress.Thread.{Thread as KeptThread}

one_place : (n : ℕ) (th : KeptThread) (threads : List KeptThread) → kept_place (Some th) ≡ place_in (slice_get (numbered n (th ∷ threads)) 0)
one_place n th threads = go th.ended refl
  where
    go : (e : Bool) → th.ended ≡ e → kept_place (Some th) ≡ place_in (slice_get (numbered n (th ∷ threads)) 0)
    go true is = rw is refl
    go false is = rw is refl

pub places_kept : (n : ℕ) (threads : List KeptThread) (t : ℕ) → kept_place (slice_get threads t) ≡ place_in (slice_get (numbered n threads) t)
places_kept n [] zero = refl
places_kept n [] (suc t) = refl
places_kept n (th ∷ threads) zero = one_place n th threads
places_kept n (th ∷ threads) (suc t) = places_kept (suc n) threads t
