use Rattle.tidying.proofs.Numbering.{Keeping}
use Rattle.tidying.proofs.renumber.keep.Given as goal

abbrev pub invariant-loop-i : goal.invariant-loop-i
invariant-loop-i l = Keeping l.marks l.initial.entries l.entries l.count l.i
