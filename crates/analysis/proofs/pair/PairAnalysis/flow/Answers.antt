use Rattle.std.proofs.Common.{◌≡◌, arith}
use Rattle.std.proofs.lemmas.Bool.Decides.{nat_tests}
use Rattle.analysis.specs.Pairs.{pair_moves}
use Rattle.analysis.specs.PairLaws.{pair_sound}
use Rattle.analysis.proofs.Replies.{flow_shows}
use Rattle.analysis.proofs.pair.PairAnalysis.flow.Goals as goal

pub returns-then-is_nowhere : goal.returns-then-is_nowhere
returns-then-is_nowhere g c =
    let self = c.args.self.now in
    let sound = pair_sound (g.met.A.Facts.shown self.first) (g.met.B.Facts.shown self.second) (g.met.A.Analysis.sound self.first) (g.met.B.Analysis.sound self.second) in
    let exact : c.nowhere.result ≡ (pair_moves (g.A.Facts.facts self.first) (g.B.Facts.facts self.second) (g.A.Analysis.moves self.first) (g.B.Analysis.moves self.second)).flow c.args.fact.now c.args.node c.args.exit = grind (arith, nat_tests) in
    record {
      exact = exact;
      shows = flow_shows sound c.args.fact.now c.args.node c.args.exit c.requires exact;
    }
