-- The words are as they were, and no word before i has a bit.
use Rattle.std.proofs.Common.{◌≡◌, ◌*◌, drop}
use Rattle.settling.specs.NodeSets.{bits_of, lowest_from, lowest}
use Rattle.settling.proofs.node_set.NodeSet.take_lowest.Given as goal

abbrev pub invariant-loop-i : goal.invariant-loop-i
invariant-loop-i l =
    (l.word-items ≡ l.fn.self.words) × (lowest_from (64 * l.i) (bits_of (drop l.i l.word-items)) ≡ lowest (bits_of l.fn.self.words))
