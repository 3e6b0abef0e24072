-- The facts nowhere and reached.
use Rattle.std.specs.Prelude.{◌≡◌, ℕ, true, false, cond, not, ◌&&◌, ◌||◌, [], ◌∷◌}
use Rattle.machine.specs.declared.node.Node.{Node}
use Rattle.analysis.specs.Analyses.{Proposed, absent, instead}
use Rattle.analysis.specs.Facts.{FactsOf, Point, state, register, cell}
use Rattle.analyses.specs.declared.reach.Reach.{Reach}

-- reached allows every state, and no register or cell is a point of these facts
abbrev pub reach_allows : Reach → Point → Type 0
reach_allows f (state s) = f.reached ≡ true
reach_allows f (register r) = ⊥
reach_allows f (cell c) = ⊥

abbrev pub reach_facts : FactsOf Reach
reach_facts = record {
  height = 1;
  rank = λ f. cond f.reached 1 0;
  allows = reach_allows;
  nowhere = record { reached = false };
  joined = λ f g. record { reached = f.reached || g.reached };
  rises = λ f g. not f.reached && g.reached;
}

-- one node in the place of another that is reached
abbrev pub one_node : Reach → Node → ℕ → ℕ → Proposed
one_node f n way numbers = cond f.reached (instead (n ∷ []) way numbers) absent
