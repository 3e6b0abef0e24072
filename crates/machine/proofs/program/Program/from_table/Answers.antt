use Rattle.std.proofs.Common.{sym, arith}
use Rattle.machine.proofs.Tables.{every_all}
use Rattle.machine.proofs.program.Program.from_table.Goals as goal

pub invariant_of-result : goal.invariant_of-result
invariant_of-result c =
    record {
      counted = omega arith;
      starts = omega arith;
      sound = every_all c.args.count c.args.table.entries (omega arith) (sym c.if-not-are_sound.ensures);
    }
