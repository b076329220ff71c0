-- A property of each request, along the lists that acceptance and removal make: by recursion on the list.
use Prim.Native.Nat.{ℕ, zero, suc, ◌<◌}
use mathlib.Core.List.{List, ◌++◌}
use native.Mathlib.Nat.{not-suc-le-zero, le_of_suc-le-suc}
use lib.ListN.{length, get_or}
use Rattle.queue.specs.declared.Request.{Request}
use Rattle.queue.specs.Places.{no_request}
use Rattle.queue.proofs.Order.{Each, none, more, without}

module _ {P : Request → Type 0} where
  pub each_append : {xs ys : List Request} → Each P xs → Each P ys → Each P (xs ++ ys)
  each_append none q = q
  each_append (more p ps) q = more p (each_append ps q)

  pub each_without : (at : ℕ) {l : List Request} → Each P l → Each P (without at l)
  unfolding without
  each_without zero none = none
  each_without (suc at) none = none
  each_without zero (more p ps) = ps
  each_without (suc at) (more p ps) = more p (each_without at ps)

  pub each_at : {l : List Request} → Each P l → (at : ℕ) → at < length l → P (get_or l at no_request)
  each_at none at h = absurd (not-suc-le-zero h)
  each_at (more p ps) zero h = p
  each_at (more p ps) (suc at) h = each_at ps at (le_of_suc-le-suc h)

  pub each_map : {Q : Request → Type 0} {l : List Request} → ((r : Request) → P r → Q r) → Each P l → Each Q l
  each_map f none = none
  each_map f (more p ps) = more (f _ p) (each_map f ps)
