use Rattle.machine.specs.Programs.{program_of}
use Rattle.machine.proofs.Held.{held_program}
use Rattle.settling.proofs.Settled.{settles}
use Rattle.settling.proofs.settle.settle.Goals as goal

pub returns-then-table-count-clause-settles : goal.returns-then-table-count-clause-settles
returns-then-table-count-clause-settles g c =
    settles _ _ (g.met.P.Facts.shown c.args.pile.now) (g.met.P.Analysis.sound c.args.pile.now) (program_of c.args.program.now) (held_program c.args.program.now)

pub returns-clause-settles : goal.returns-clause-settles
returns-clause-settles g c =
    settles _ _ (g.met.P.Facts.shown c.args.pile.now) (g.met.P.Analysis.sound c.args.pile.now) (program_of c.args.program.now) (held_program c.args.program.now)
