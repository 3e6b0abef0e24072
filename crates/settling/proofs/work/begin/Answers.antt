use Rattle.std.proofs.Common.{arith}
use Rattle.settling.proofs.Visiting.{begun_is}
use Rattle.settling.proofs.Waiting.{few_is}
use Rattle.settling.proofs.work.begin.Goals as goal

pub returns-clause-exact : goal.returns-clause-exact
returns-clause-exact g c =
    let still = few_is _ (let few = c.requires.few in let same = c.loop-fact.auto.facts in omega arith) _ c.new-work.ensures.exact in
    begun_is _ _ _ _ _ _ c.loop-fact.invariant c.loop-fact-test.false (c.loop-fact.auto.fact-index-end, c.loop-fact.auto.facts)
    c.start.ensures.exact _ _ still c.put.ensures.exact
