use Rattle.std.proofs.Common.{Some, sym, ap, ◌∙◌}
use Rattle.analysis.proofs.Replies.{flow_shows}
use Rattle.analyses.specs.Copies.{copied_flow}
use Rattle.analyses.specs.CopyLaws.{copies_sound}
use Rattle.analyses.proofs.copies.CopiesAnalysis.flow.Goals as goal

pub returns-in-Some-clause-shows : goal.returns-in-Some-clause-shows
returns-in-Some-clause-shows c =
    let n = c.args.node in
    let exact = ap Some c.go_over.ensures ∙ sym (ap (λ f. copied_flow f n) c.in-Some.is) in
    flow_shows copies_sound c.args.fact.now n c.args._exit c.requires exact
