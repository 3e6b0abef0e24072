use Rattle.std.proofs.Common.{refl}
use Rattle.analysis.specs.Deeps.{looked}
use Rattle.analyses.specs.Copies.{cleared}
use Rattle.analyses.specs.Entries.{gaps, any_lost, agreeing}
use Rattle.settling.specs.Settling.{joined_at, arrived_at, begun, visited, next}
use Rattle.settling.specs.Worklist.{run}
use Rattle.rounds.specs.Changes.{same_node}
use Rattle.rounds.specs.Rounds.{decided}
use Rattle.cases.proofs.Divides.{divides}
use Rattle.cases.proofs.starred.starred_cases.Goals as goal

pub returns : goal.returns
unfolding looked gaps any_lost agreeing cleared joined_at arrived_at begun visited next run same_node decided
returns c =
    record {
      starred = ((refl, refl, refl), λ _ _. refl, divides, λ _ _ _ _. refl, (refl, refl));
      rounds = (refl, refl);
    }
