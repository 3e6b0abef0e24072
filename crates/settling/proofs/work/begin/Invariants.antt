use Rattle.std.proofs.Common.{◌≡◌, take, replicate}
use Rattle.settling.proofs.work.begin.Given as goal

abbrev pub invariant-loop-fact : goal.invariant-loop-fact
invariant-loop-fact g l = take l.fact-index l.facts ≡ replicate l.fact-index (g.P.Facts.facts l.pile).nowhere
