use Rattle.std.proofs.Common.{◌≡◌}
use Rattle.machine.specs.Programs.{program_of}
use Rattle.settling.specs.Working.{held}
use Rattle.settling.proofs.Potential.{potential}
use Rattle.settling.proofs.Going.{Going}
use Rattle.settling.proofs.settle.settle_nodes.Given as goal

abbrev pub invariant-loop-node : goal.invariant-loop-node
invariant-loop-node g l =
    Going (g.P.Facts.facts l.pile) (g.P.Analysis.moves l.pile) (program_of l.program) l.visits (held l.work)
    × (l.work.items.ghost_name ≡ l.initial.work.items.ghost_name)

abbrev pub decreases-loop-node : goal.decreases-loop-node
decreases-loop-node g l = potential (g.P.Facts.facts l.pile) (held l.work)
