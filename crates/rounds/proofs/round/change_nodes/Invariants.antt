use Rattle.machine.specs.Programs.{program_of}
use Rattle.rounds.proofs.Rounding.{Rounding}
use Rattle.rounds.proofs.round.change_nodes.Given as goal

abbrev pub invariant-loop-at : goal.invariant-loop-at
invariant-loop-at g l =
    Rounding (g.P.Facts.facts l.pile) (g.P.Analysis.moves l.pile) (program_of l.initial.program) l.facts l.initial.changes
    l.at (program_of l.program) l.changes l.made l.short
