use Rattle.std.proofs.Common.{arith}
use Rattle.machine.specs.WellFormed.{blank}
use Rattle.tidying.proofs.Numbering.{keeping_dropped, keeping_kept}
use Rattle.tidying.proofs.renumber.keep.Goals as goal
use Rattle.tidying.proofs.renumber.keep.Goals.{then-marked, else-marked}

pub loop-i-preserved : goal.loop-i-preserved
loop-i-preserved c =
    elim c.if-marked.branch [
      | then-marked w ↦ rw (w.entries-is, w.count-is)
          (keeping_kept c.args.marks.now c.args.entries.now c.loop-i.entries c.loop-i.count c.loop-i.i blank c.loop-i.invariant (omega arith) (omega arith) c.loop-i.auto.entries w.if-marked.true)
      | else-marked w ↦ rw (w.entries-is, w.count-is)
          (keeping_dropped c.args.marks.now c.args.entries.now c.loop-i.entries c.loop-i.count c.loop-i.i blank c.loop-i.invariant (omega arith) (omega arith) c.loop-i.auto.entries w.if-marked.false)
    ]
