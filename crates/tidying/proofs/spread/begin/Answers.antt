use Rattle.std.proofs.Common.{length, refl}
use Rattle.settling.proofs.Waiting.{few_is}
use Rattle.tidying.proofs.Spreading.{first_is}
use Rattle.tidying.proofs.spread.begin.Goals as goal

pub returns-clause-exact : goal.returns-clause-exact
returns-clause-exact c =
    first_is (length c.args.marks.now) c.args.first c.args.marks.now c.requires.still refl _ _ (few_is _ c.requires.few _ c.new-spread.ensures.exact) c.put.ensures.exact
