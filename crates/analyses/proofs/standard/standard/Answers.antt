use Rattle.std.proofs.Common.{refl}
use Rattle.analysis.specs.Deeps.{looked}
use Rattle.analyses.proofs.standard.standard.Goals as goal

pub returns : goal.returns
unfolding looked
returns c =
    record {
      height = refl;
      facts = c.piled.ensures.facts;
      moves = c.piled.ensures.moves;
      example = refl;
    }
