use Rattle.std.proofs.Common.{◌≤◌, length, arith}
use Rattle.machine.proofs.Held.{held_program}
use Rattle.machine.specs.Limits.{node_limit}
use Rattle.machine.specs.Programs.{program_of}
use Rattle.rounds.specs.Rounds.{numbered}
use Rattle.round_trials.proofs.Told.{round_told}
use Rattle.round_trials.proofs.driver.round_with.Goals as goal

pub returns : goal.returns
returns g c =
    let room : node_limit ≤ length c.deref_mut.result.now = omega (arith, c.in_ok-table.ensures, c.deref_mut.ensures.len) in
    record {
      told = round_told (g.P.Facts.facts c.args.pile.now) (g.P.Analysis.moves c.args.pile.now) (program_of c.args.program.now) (held_program c.args.program.now)
          c.deref_mut.result.now room c.args.changes.now (numbered c.round.result) (program_of c.round.new.program) c.round.new.table c.round.new.changes
          c.round.ensures.exact;
      equivalent = c.round.ensures.equivalent;
    }
