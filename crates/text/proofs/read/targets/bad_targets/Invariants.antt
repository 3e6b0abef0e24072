use Rattle.std.proofs.Common.{◌≡◌, drop}
use Rattle.text.specs.Targets.{bad_targets}
use Rattle.text.proofs.read.targets.bad_targets.Given as goal

abbrev pub invariant-loop-i : goal.invariant-loop-i
invariant-loop-i l = bad_targets l.count l.i (drop l.i l.entries) ≡ bad_targets l.count 0 l.entries
