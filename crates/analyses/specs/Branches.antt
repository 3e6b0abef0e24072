-- The analysis of branches, as a value.
use Rattle.std.specs.Prelude.{ℕ, true, cond, ◌&&◌, Some, None, Option, ◌==◌}
use Rattle.machine.specs.declared.node.Operand.TheVariants.{Reg, Num}
use Rattle.machine.specs.declared.node.Node.{Node}
use Rattle.machine.specs.declared.node.Node.TheVariants.{Mov, Binary, In, Out, Ld, St, Br, Skip, Halt, Fail}
use Rattle.analysis.specs.Analyses.{MovesOf, Proposed, absent}
use Rattle.analyses.specs.declared.reach.Reach.{Reach}
use Rattle.analyses.specs.Reach.{one_node}

-- the exit that a branch on a number takes
abbrev pub fixed_exit : Node → Option ℕ
fixed_exit (Mov to from) = None
fixed_exit (Binary op to left right) = None
fixed_exit (In to) = None
fixed_exit (Out from) = None
fixed_exit (Ld to cell) = None
fixed_exit (St cell from) = None
fixed_exit (Br (Reg on)) = None
fixed_exit (Br (Num on)) = Some (cond (on == 0) 1 0)
fixed_exit Skip = None
fixed_exit Halt = None
fixed_exit (Fail fault) = None

-- the exit not taken flows to nowhere
abbrev pub fixed_flow : Reach → Option ℕ → ℕ → Reach
fixed_flow f None exit = f
fixed_flow f (Some way) exit = record { reached = f.reached && (exit == way) }

-- `skip` with the taken way, by analysis 4
abbrev pub fixed_proposed : Reach → Option ℕ → Proposed
fixed_proposed f None = absent
fixed_proposed f (Some way) = one_node f Skip way 16

abbrev pub branch_moves : MovesOf Reach
branch_moves = record {
  start = record { reached = true };
  flow = λ f n exit. fixed_flow f (fixed_exit n) exit;
  proposal = λ f n. fixed_proposed f (fixed_exit n);
}
