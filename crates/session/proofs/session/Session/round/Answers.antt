use Rattle.std.proofs.Common.{Ok, Err}
use Rattle.machine.specs.Programs.{program_of}
use Rattle.rounds.specs.Rounds.{reason_of}
use Rattle.session.specs.Calls.{held}
use Rattle.session.proofs.Did.{round_did}
use Rattle.session.proofs.session.Session.round.Goals as goal

pub returns-clause-did : goal.returns-clause-did
returns-clause-did g c =
    round_did (g.P.Facts.facts c.args.pile.now) (g.P.Analysis.moves c.args.pile.now) (held c.args.self.now) c.args.table.now c.args.changes.now (Ok c.in_ok-round.field-0) (program_of c.round.new.program)
    c.round.new.table c.round.new.changes c.in_ok-round.ensures.exact

pub returns-in_err-round-clause-did : goal.returns-in_err-round-clause-did
returns-in_err-round-clause-did g c =
    round_did (g.P.Facts.facts c.args.pile.now) (g.P.Analysis.moves c.args.pile.now) (held c.args.self.now) c.args.table.now c.args.changes.now (Err (reason_of c.in_err-round.field-0.0)) (program_of c.round.new.program)
    c.round.new.table c.round.new.changes c.in_err-round.ensures.exact
