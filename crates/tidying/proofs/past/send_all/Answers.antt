use Rattle.tidying.proofs.past.send_all.Goals as goal

pub land-requires-clause-right : goal.land-requires-clause-right
land-requires-clause-right c = c.loop-n.invariant.0 c.loop-n.n
