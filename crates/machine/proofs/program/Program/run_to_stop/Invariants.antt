use Rattle.std.proofs.Common.{length}
use Rattle.machine.specs.Programs.{program_of}
use Rattle.machine.specs.Progress.{state_of}
use Rattle.machine.specs.Runs.{limited}
use Rattle.machine.proofs.Running.{Going}
use Rattle.machine.proofs.program.Program.run_to_stop.Given as goal

abbrev pub invariant-loop-steps : goal.invariant-loop-steps
invariant-loop-steps l =
    Going (program_of l.self) l.self.count l.budget
    (limited (program_of l.self) (length l.fn.progress.output.now) l.budget 0 l.self.first (state_of l.fn.progress))
    l.fn.progress l.at l.steps l.progress
