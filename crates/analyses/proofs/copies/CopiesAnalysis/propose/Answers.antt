use Rattle.std.proofs.Common.{◌≡◌, Some, rules}
use Rattle.analysis.specs.Analyses.{meant}
use Rattle.analysis.proofs.Replies.{proposal_shows}
use Rattle.analyses.specs.Copies.{copied_proposal}
use Rattle.analyses.specs.CopyLaws.{copies_sound}
use Rattle.analyses.proofs.copies.CopiesAnalysis.propose.Goals as goal

pub returns-in-Some-clause-shows : goal.returns-in-Some-clause-shows
returns-in-Some-clause-shows c =
    let exact : meant (Some c.one.result) ≡ copied_proposal c.args.fact.now c.args.node = search rules in
    proposal_shows copies_sound c.args.fact.now c.args.node c.requires exact
