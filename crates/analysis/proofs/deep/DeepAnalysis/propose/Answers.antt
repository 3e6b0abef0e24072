use Rattle.std.proofs.Common.{ap, ◌∙◌}
use Rattle.analysis.specs.Deeps.{proposed_by}
use Rattle.analysis.specs.DeepLaws.{deep_sound}
use Rattle.analysis.proofs.Replies.{proposal_shows, meant_if}
use Rattle.analysis.proofs.deep.DeepAnalysis.propose.Goals as goal

pub returns : goal.returns
returns g c =
    let inner = c.args.self.now.inner in
    let exact = meant_if _ _ c.then_some.ensures ∙ ap (proposed_by (g.A.Analysis.moves inner)) c.follow-walk.ensures.course in
    record {
      exact = exact;
      shows = proposal_shows (deep_sound (g.met.A.Analysis.sound inner)) c.args.fact.now c.args.node c.requires exact;
    }
