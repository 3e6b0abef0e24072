use Rattle.std.proofs.Common.{◌≡◌, Some, rules}
use Rattle.analysis.specs.Analyses.{meant}
use Rattle.analysis.proofs.Replies.{proposal_shows}
use Rattle.analyses.specs.Constants.{known_proposal}
use Rattle.analyses.specs.ConstantLaws.{constants_sound}
use Rattle.analyses.proofs.constants.ConstantsAnalysis.propose.Goals as goal

pub returns-in-Some-clause-shows : goal.returns-in-Some-clause-shows
returns-in-Some-clause-shows c =
    let exact : meant (Some c.one.result) ≡ known_proposal c.args.fact.now c.args.node = search rules in
    proposal_shows constants_sound c.args.fact.now c.args.node c.requires exact
