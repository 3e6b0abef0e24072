use Rattle.tidying.proofs.Landing.{unknowns}
use Rattle.tidying.proofs.past.+land.Given as goal

abbrev pub decreases-land : goal.decreases-land
decreases-land l = unknowns l.ways.now
