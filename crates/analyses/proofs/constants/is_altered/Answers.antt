use Rattle.std.proofs.Common.{◌||◌, ap, ◌∙◌, rules}
use Rattle.analyses.specs.Constants.{is_known}
use Rattle.analyses.specs.Operands.{any_operand}
use Rattle.analyses.proofs.constants.is_altered.Goals as goal

pub returns-else-is_folded : goal.returns-else-is_folded
returns-else-is_folded c =
    let p = is_known c.args.known.now in
    c.any_operand.ensures p (λ x y e. search rules) ∙ ap (λ b. b || any_operand p c.args.node) c.if-is_folded.ensures
