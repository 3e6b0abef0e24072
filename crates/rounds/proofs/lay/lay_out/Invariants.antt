use Rattle.std.proofs.Common.{◌≡◌, ◌+◌, ◌-◌, ◌++◌, length, take, drop}
use Rattle.rounds.specs.Changes.{laid, replacement_of}
use Rattle.rounds.proofs.lay.lay_out.Given as goal

-- the entries so far, and those that are to come
abbrev pub invariant-loop-i : goal.invariant-loop-i
invariant-loop-i l =
    (length l.entries ≡ 4)
    × (take l.i l.entries ++ laid l.old l.change.way (drop l.i (replacement_of l.change).row) (l.count - 1 + l.i)
    ≡ laid l.old l.change.way (replacement_of l.change).row (l.count - 1))
