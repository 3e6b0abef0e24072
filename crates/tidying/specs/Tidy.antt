-- Tidying: targets are sent past skips, the nodes that are then not reached are dropped, and the rest is renumbered in order.
use Rattle.std.specs.Prelude.{◌≡◌, ℕ, zero, suc, Bool, true, false, List, [], ◌∷◌}
use Rattle.machine.specs.Programs.{Prog, prog}
use Rattle.tidying.specs.Reached.{Marks, reached_marks}
use Rattle.tidying.specs.Skips.{with_targets, skipless}

-- the elements whose mark is up
abbrev pub marked : {X : Type 0} → List Bool → List X → List X
marked [] xs = []
marked (b ∷ marks) [] = []
marked (true ∷ marks) (x ∷ xs) = x ∷ marked marks xs
marked (false ∷ marks) (x ∷ xs) = marked marks xs

-- how many marks before place n are up: the new number of node n, if it is marked
abbrev pub rank : List Bool → ℕ → ℕ
rank [] n = 0
rank (b ∷ marks) zero = 0
rank (true ∷ marks) (suc n) = suc (rank marks n)
rank (false ∷ marks) (suc n) = rank marks n

-- the marked nodes alone, numbered in order
abbrev pub renumbered : List Bool → Prog → Prog
renumbered marks p = with_targets (rank marks) (prog (marked marks p.entries) p.first)

abbrev pub tidied : Prog → Prog
tidied p = renumbered (reached_marks (skipless p)) (skipless p)

-- tidying told without the search: kept are just the nodes that are reached once targets are sent past skips
pub record Tidies (p q : Prog) : Type 0 where
  pub marks : List Bool
  pub reached : Marks (skipless p) marks
  pub kept : q ≡ renumbered marks (skipless p)
