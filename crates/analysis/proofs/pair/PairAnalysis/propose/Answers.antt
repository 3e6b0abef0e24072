use Rattle.std.proofs.Common.{◌≡◌, rules}
use Rattle.analysis.specs.Analyses.{meant}
use Rattle.analysis.specs.Pairs.{pair_moves}
use Rattle.analysis.specs.PairLaws.{pair_sound}
use Rattle.analysis.proofs.Replies.{proposal_shows}
use Rattle.analysis.proofs.pair.PairAnalysis.propose.Goals as goal

pub returns : goal.returns
returns g c =
    let self = c.args.self.now in
    let sound = pair_sound (g.met.A.Facts.shown self.first) (g.met.B.Facts.shown self.second) (g.met.A.Analysis.sound self.first) (g.met.B.Analysis.sound self.second) in
    let exact : meant c.or_else.result ≡ (pair_moves (g.A.Facts.facts self.first) (g.B.Facts.facts self.second) (g.A.Analysis.moves self.first) (g.B.Analysis.moves self.second)).proposal c.args.fact.now c.args.node = search rules in
    record {
      exact = exact;
      shows = proposal_shows sound c.args.fact.now c.args.node c.requires exact;
    }
