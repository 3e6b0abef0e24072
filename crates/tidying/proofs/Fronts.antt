-- The fronts of arrays that the code hands on.
use Rattle.std.proofs.Common.{◌≡◌, ℕ, ◌-◌, ◌≤◌, length, take, replicate, ap, ◌∙◌, arith}
use Rattle.std.proofs.lemmas.List.{length-replicate, take-replicate}

pub front_still : {X : Type 0} (n most : ℕ) (x : X) → n ≤ most → take (n - 0) (replicate most x) ≡ replicate n x
front_still n most x few = let zero-less : n - 0 ≡ n = omega arith in ap (λ k. take k (replicate most x)) zero-less ∙ take-replicate n most x few

pub front_long : {X : Type 0} (n most : ℕ) (x : X) → n ≤ most → length (take (n - 0) (replicate most x)) ≡ n
front_long n most x few = ap length (front_still n most x few) ∙ length-replicate n x
