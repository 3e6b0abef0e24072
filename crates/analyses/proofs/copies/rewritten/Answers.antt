use Rattle.std.proofs.Common.{rules}
use Rattle.analyses.specs.Copies.{copied_operand}
use Rattle.analyses.proofs.copies.rewritten.Goals as goal

pub returns : goal.returns
returns c = c.on_operands.ensures (copied_operand c.args.sources.now) (λ x y e. search rules)
