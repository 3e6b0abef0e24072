-- The standard pile, as a value, and a worked example.
use Rattle.std.specs.Prelude.{◌≡◌, true, [], ◌∷◌, Some, None}
use Rattle.machine.specs.declared.node.BinaryOp.TheVariants.{Mul}
use Rattle.machine.specs.declared.node.Node.TheVariants.{Mov, Binary}
use Rattle.machine.specs.declared.node.Operand.TheVariants.{Reg}
use Rattle.analysis.specs.Analyses.{MovesOf, instead}
use Rattle.analysis.specs.Deeps.{deep_moves}
use Rattle.analysis.specs.Facts.{FactsOf}
use Rattle.analysis.specs.Pairs.{pair_facts, pair_moves}
use Rattle.analysis.specs.declared.pair.PairFact.{PairFact}
use Rattle.analyses.specs.declared.reach.Reach.{Reach}
use Rattle.analyses.specs.Arithmetic.{arithmetic_moves}
use Rattle.analyses.specs.Branches.{branch_moves}
use Rattle.analyses.specs.Constants.{Known, known_facts, known_moves}
use Rattle.analyses.specs.Copies.{Copied, copied_facts, copied_moves}
use Rattle.analyses.specs.Reach.{reach_facts}

abbrev pub StandardFact : Type 0
StandardFact = PairFact Known (PairFact Copied (PairFact Reach Reach))

abbrev pub standard_facts : FactsOf StandardFact
standard_facts = pair_facts known_facts (pair_facts copied_facts (pair_facts reach_facts reach_facts))

abbrev pub last_moves : MovesOf (PairFact Reach Reach)
last_moves = pair_moves reach_facts reach_facts arithmetic_moves branch_moves

abbrev pub later_moves : MovesOf (PairFact Copied (PairFact Reach Reach))
later_moves = pair_moves copied_facts (pair_facts reach_facts reach_facts) copied_moves last_moves

abbrev pub standard_moves : MovesOf StandardFact
standard_moves = deep_moves (pair_moves known_facts (pair_facts copied_facts (pair_facts reach_facts reach_facts)) known_moves later_moves) standard_facts

-- r3 is known as 1, and r1 is a copy of r0
abbrev pub example_fact : StandardFact
example_fact = record {
  first = Some (None ∷ None ∷ None ∷ Some 1 ∷ None ∷ None ∷ None ∷ None ∷ []);
  second = record {
    first = Some (None ∷ Some 0 ∷ None ∷ None ∷ None ∷ None ∷ None ∷ None ∷ []);
    second = record { first = record { reached = true }; second = record { reached = true } };
  };
}

-- `mul r2 r1 r3` becomes `mov r2 r0`, by constants, copies and arithmetic: bits 1, 2 and 3
abbrev pub Example : Type 0
Example = standard_moves.proposal example_fact (Binary Mul 2 (Reg 1) (Reg 3)) ≡ instead (Mov 2 (Reg 0) ∷ []) 0 14
