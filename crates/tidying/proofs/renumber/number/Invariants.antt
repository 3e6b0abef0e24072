use Rattle.std.proofs.Common.{◌≡◌, ℕ, ◌<◌, get_or}
use Rattle.tidying.specs.Tidy.{rank}
use Rattle.tidying.proofs.renumber.number.Given as goal

abbrev pub invariant-loop-i : goal.invariant-loop-i
invariant-loop-i l = (l.next ≡ rank l.marks l.i) × ((n : ℕ) → n < l.i → get_or l.numbers n 0 ≡ rank l.marks n)
