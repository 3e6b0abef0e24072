use Rattle.std.proofs.Common.{◌≡◌, ◌+◌, ◌-◌, ◌≤◌, length}
use Rattle.analysis.specs.Analyses.{nodes_of}
use Rattle.analysis.specs.Deeps.{course_of, each, looked}
use Rattle.machine.specs.Every.{Every}
use Rattle.analysis.specs.Forms.{Proper}
use Rattle.analysis.proofs.deep.+look.Given as goal

abbrev pub decreases-look : goal.decreases-look
decreases-look g l = 3 - l.depth

-- there is room for the entries that are left, they are nodes of the machine, and what is left of the row gives what the whole row gives
abbrev pub invariant-loop-entry : goal.invariant-loop-entry
invariant-loop-entry g l =
    let m = g.A.Analysis.moves l.a in
    let look = looked m (3 - (l.depth + 1)) in
    (length (nodes_of l.walk.row) + length l.row + l.waiting ≤ 4)
    × Every Proper l.row
    × (each m look l.row l.waiting (course_of l.walk) ≡ each m look l.initial.row l.waiting (course_of l.initial.walk))

abbrev pub decreases-loop-entry : goal.decreases-loop-entry
decreases-loop-entry g l = length l.row
