use Rattle.settling.proofs.Waiting.{put_is}
use Rattle.settling.proofs.worklist.Worklist.put.Goals as goal

pub returns-then-node-items-clause-exact : goal.returns-then-node-items-clause-exact
returns-then-node-items-clause-exact g c = put_is c.args.self.now.items.now c.args.self.now.waiting c.args.node c.args.item c.insert.new.self c.if-node-items.true c.insert.ensures
