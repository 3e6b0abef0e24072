use Rattle.std.proofs.Common.{◌≤◌, length, ap, arith}
use Rattle.machine.specs.declared.program.Program.{Program}
use Rattle.machine.specs.Programs.{program_of}
use Rattle.machine.proofs.Held.{held_program}
use Rattle.text.specs.Limits.{text_limit}
use Rattle.text.specs.Print.{printed}
use Rattle.text.specs.Reads.{SpellsJust}
use Rattle.text.proofs.ReadLaws.{reads_back}
use Rattle.printer.proofs.Long.{printed_fits}
use Rattle.printer.proofs.print.print.Goals as goal

fits : (p : Program) → length (printed (program_of p)) ≤ text_limit
fits p = printed_fits (program_of p) (held_program p)

back : (p : Program) → SpellsJust (printed (program_of p)) (program_of p)
back p = reads_back (program_of p) (held_program p) (fits p)

pub push_program-requires : goal.push_program-requires
push_program-requires c = omega (arith, ap length c.new-page.ensures, fits c.args.program.now)

pub returns-then-len-out-clause-fits : goal.returns-then-len-out-clause-fits
returns-then-len-out-clause-fits c = fits c.args.program.now

pub returns-then-len-out-clause-back : goal.returns-then-len-out-clause-back
returns-then-len-out-clause-back c = back c.args.program.now

pub returns-clause-fits : goal.returns-clause-fits
returns-clause-fits c = fits c.args.program.now

pub returns-clause-back : goal.returns-clause-back
returns-clause-back c = back c.args.program.now
