use Rattle.std.proofs.Common.{length}
use Rattle.settling.proofs.Waiting.{within_none, new_is}
use Rattle.settling.proofs.worklist.Worklist.new.Goals as goal

pub invariant_of-result : goal.invariant_of-result
invariant_of-result g c = record { within = within_none (length c.args.items.now) c.new-waiting.result c.new-waiting.ensures }

pub returns-clause-exact : goal.returns-clause-exact
returns-clause-exact g c = new_is c.args.items.now c.new-waiting.result c.new-waiting.ensures
