use Rattle.std.proofs.Common.{◌≡◌}
use Rattle.machine.specs.Programs.{prog}
use Rattle.settling.specs.Working.{held}
use Rattle.tidying.proofs.Marked.{left}
use Rattle.tidying.proofs.Spreading.{Going}
use Rattle.tidying.proofs.reach.reach.Given as goal

abbrev pub invariant-loop-node : goal.invariant-loop-node
invariant-loop-node l = Going (prog l.entries l.first) (held l.spread) × (l.spread.items.ghost_name ≡ l.initial.spread.items.ghost_name)

abbrev pub decreases-loop-node : goal.decreases-loop-node
decreases-loop-node l = left (held l.spread)
