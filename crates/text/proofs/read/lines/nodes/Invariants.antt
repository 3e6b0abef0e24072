use Rattle.std.proofs.Common.{◌-◌}
use Rattle.text.proofs.TextLaws.{NodesSoFar}
use Rattle.text.proofs.read.lines.nodes.Given as goal

abbrev pub invariant-loop-line : goal.invariant-loop-line
invariant-loop-line l = NodesSoFar l.initial.lines l.entries l.count l.lines

abbrev pub decreases-loop-line : goal.decreases-loop-line
decreases-loop-line l = 200 - l.count
