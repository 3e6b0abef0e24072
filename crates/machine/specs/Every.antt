-- What holds of each element of a list, told by recursion.
use Rattle.std.specs.Prelude.{ℕ, zero, suc, ◌<◌, List, [], ◌∷◌, ◌++◌, length, slice_index_or}
use Rattle.std.proofs.Common.{arith}
use Rattle.std.specs.List.{All}

abbrev pub Every : {X : Type 0} → (X → Type 0) → List X → Type 0
Every P [] = Unit {0}
Every P (x ∷ xs) = P x × Every P xs

module _ {X : Type 0} (P : X → Type 0) where
  pub every_append : (xs ys : List X) → Every P xs → Every P ys → Every P (xs ++ ys)
  every_append [] ys h k = k
  every_append (x ∷ xs) ys h k = (h.0, every_append xs ys h.1 k)

  pub every_split : (xs ys : List X) → Every P (xs ++ ys) → Every P xs × Every P ys
  every_split [] ys h = (tt, h)
  every_split (x ∷ xs) ys h = let r = every_split xs ys h.1 in ((h.0, r.0), r.1)

  pub every_push : (xs : List X) (x : X) → Every P xs → P x → Every P (xs ++ x ∷ [])
  every_push xs x h p = every_append xs (x ∷ []) h (p, tt)

  pub every_weaker : (Q : X → Type 0) → ((x : X) → P x → Q x) → (xs : List X) → Every P xs → Every Q xs
  every_weaker Q f [] h = tt
  every_weaker Q f (x ∷ xs) h = (f x h.0, every_weaker Q f xs h.1)

  -- and by index
  pub every_from_each : (xs : List X) (d : X) → ((k : ℕ) → k < length xs → P (slice_index_or xs k d)) → Every P xs
  every_from_each [] d f = tt
  every_from_each (x ∷ xs) d f = (f 0 (omega arith), every_from_each xs d (λ k lt. f (suc k) (omega (arith, lt))))

  pub all_from_every : (xs : List X) → Every P xs → All P xs
  all_from_every [] h k d lt = absurd (omega (arith, lt))
  all_from_every (x ∷ xs) h zero d lt = h.0
  all_from_every (x ∷ xs) h (suc k) d lt = all_from_every xs h.1 k d (omega (arith, lt))
