use Rattle.std.proofs.Common.{Some, sym, ap, ◌∙◌}
use Rattle.analysis.proofs.Replies.{flow_shows}
use Rattle.analyses.specs.Constants.{known_flow}
use Rattle.analyses.specs.ConstantLaws.{constants_sound}
use Rattle.analyses.proofs.constants.ConstantsAnalysis.flow.Goals as goal

pub returns-in-Some-clause-shows : goal.returns-in-Some-clause-shows
returns-in-Some-clause-shows c =
    let n = c.args.node in
    let exact = ap Some c.go_over.ensures ∙ sym (ap (λ f. known_flow f n) c.in-Some.is) in
    flow_shows constants_sound c.args.fact.now n c.args._exit c.requires exact
