use Rattle.std.proofs.Common.{◌≡◌, ◌++◌, map, get_or, take, drop}
use Rattle.tidying.specs.Skips.{retargeted}
use Rattle.tidying.proofs.send.send.Given as goal

abbrev pub invariant-loop-entry : goal.invariant-loop-entry
invariant-loop-entry l = l.entries ≡ map (retargeted (λ n. get_or l.to n 0)) (take l.entry-index l.initial.entries) ++ drop l.entry-index l.initial.entries
