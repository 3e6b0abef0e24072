use Rattle.analysis.specs.PairLaws.{pair_sound}
use Rattle.analysis.proofs.pair.Pair.new.Goals as goal

pub returns-clause-moves : goal.returns-clause-moves
returns-clause-moves g c =
    let first = c.args.first in
    let second = c.args.second in
    pair_sound (g.met.A.Facts.shown first) (g.met.B.Facts.shown second) (g.met.A.Analysis.sound first) (g.met.B.Analysis.sound second)
