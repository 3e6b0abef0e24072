-- The analysis of arithmetic, as a value.
use Rattle.std.specs.Prelude.{ℕ, true, cond, Some, None, Option, ◌==◌}
use Rattle.machine.specs.declared.node.Operand.{Operand}
use Rattle.machine.specs.declared.node.Operand.TheVariants.{Reg, Num}
use Rattle.machine.specs.declared.node.BinaryOp.{BinaryOp}
use Rattle.machine.specs.declared.node.BinaryOp.TheVariants.{Add, Sub, Mul, Div, Rem, And, Or, Xor, Shl, Shr, Eq, Lt}
use Rattle.machine.specs.declared.node.Node.{Node}
use Rattle.machine.specs.declared.node.Node.TheVariants.{Mov, Binary, In, Out, Ld, St, Br, Skip, Halt, Fail}
use Rattle.analysis.specs.Analyses.{MovesOf, Proposed, absent}
use Rattle.analyses.specs.declared.reach.Reach.{Reach}
use Rattle.analyses.specs.Reach.{one_node}

-- what does the same as a binary operation with a number on the right
abbrev pub simpler_binary : BinaryOp → ℕ → Operand → ℕ → Option Node
simpler_binary Add to left right = cond (right == 0) (Some (Mov to left)) None
simpler_binary Sub to left right = cond (right == 0) (Some (Mov to left)) None
simpler_binary Mul to left right = cond (right == 1) (Some (Mov to left)) (cond (right == 0) (Some (Mov to (Num 0))) None)
simpler_binary Div to left right = cond (right == 1) (Some (Mov to left)) None
simpler_binary Rem to left right = None
simpler_binary And to left right = None
simpler_binary Or to left right = None
simpler_binary Xor to left right = None
simpler_binary Shl to left right = None
simpler_binary Shr to left right = None
simpler_binary Eq to left right = None
simpler_binary Lt to left right = None

-- what does the same as the node
abbrev pub simpler : Node → Option Node
simpler (Mov to (Reg from)) = cond (to == from) (Some Skip) None
simpler (Mov to (Num n)) = None
simpler (Binary op to left (Reg right)) = None
simpler (Binary op to left (Num right)) = simpler_binary op to left right
simpler (In to) = None
simpler (Out from) = None
simpler (Ld to cell) = None
simpler (St cell from) = None
simpler (Br on) = None
simpler Skip = None
simpler Halt = None
simpler (Fail fault) = None

-- by analysis 3
abbrev pub simpler_proposed : Reach → Option Node → Proposed
simpler_proposed f None = absent
simpler_proposed f (Some n) = one_node f n 0 8

abbrev pub arithmetic_moves : MovesOf Reach
arithmetic_moves = record {
  start = record { reached = true };
  flow = λ f n e. f;
  proposal = λ f n. simpler_proposed f (simpler n);
}
