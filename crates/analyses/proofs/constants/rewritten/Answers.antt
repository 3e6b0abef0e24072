use Rattle.std.proofs.Common.{ap, ◌∙◌, rules}
use Rattle.analyses.specs.Constants.{known_operand}
use Rattle.analyses.specs.Folding.{folded}
use Rattle.analyses.proofs.constants.rewritten.Goals as goal

pub returns : goal.returns
returns c = c.fold.ensures ∙ ap folded (c.on_operands.ensures (known_operand c.args.known.now) (λ x y e. search rules))
