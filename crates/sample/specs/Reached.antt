-- An analysis that knows whether a node is reached, as a value.
use Rattle.std.specs.Prelude.{Bool, true, false, cond, not, ◌||◌, ◌&&◌, ◌≡◌}
use Rattle.analysis.specs.Analyses.{MovesOf, absent}
use Rattle.analysis.specs.Facts.{FactsOf, Point, state, register, cell}

abbrev pub reached_allows : Bool → Point → Type 0
reached_allows f (state s) = f ≡ true
reached_allows f (register r) = ⊥
reached_allows f (cell c) = ⊥

abbrev pub reached_facts : FactsOf Bool
reached_facts = record {
  height = 1;
  rank = λ f. cond f 1 0;
  allows = reached_allows;
  nowhere = false;
  joined = ◌||◌;
  rises = λ f g. not f && g;
}

abbrev pub reached_moves : MovesOf Bool
reached_moves = record { start = true; flow = λ f n exit. f; proposal = λ f n. absent }
