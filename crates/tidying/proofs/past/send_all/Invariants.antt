use Rattle.std.proofs.Common.{◌≡◌, ℕ, ◌<◌, get_or}
use Rattle.machine.specs.Programs.{program_of}
use Rattle.tidying.specs.Skips.{past}
use Rattle.tidying.specs.Ways.{Right}
use Rattle.tidying.proofs.Landing.{AtRest}
use Rattle.tidying.proofs.past.send_all.Given as goal

abbrev pub invariant-loop-n : goal.invariant-loop-n
invariant-loop-n l =
    ((m : ℕ) → Right (program_of l.program) m l.ways)
    × AtRest l.ways
    × ((k : ℕ) → k < l.n → get_or l.sent k 0 ≡ past (program_of l.program) k)
