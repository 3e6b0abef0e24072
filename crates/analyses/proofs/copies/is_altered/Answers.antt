use Rattle.std.proofs.Common.{rules}
use Rattle.analyses.specs.Copies.{is_copied}
use Rattle.analyses.proofs.copies.is_altered.Goals as goal

pub returns : goal.returns
returns c = c.any_operand.ensures (is_copied c.args.sources.now) (λ x y e. search rules)
