-- What one node does to a state.
use Rattle.std.specs.Prelude.{ℕ, Bool, false, cond, List, [], ◌∷◌, ◌++◌, Some, None, Option, ◌==◌, nat_le, slice_index, slice_set}
use Rattle.std.specs.declared.ops.ControlFlow.{ControlFlow}
use Rattle.std.specs.declared.ops.ControlFlow.TheVariants.{Continue, Break}
use Rattle.machine.specs.declared.node.Node.{Node}
use Rattle.machine.specs.declared.node.Node.TheVariants.{Mov, Binary, In, Out, Ld, St, Br, Skip, Halt, Fail}
use Rattle.machine.specs.declared.outcome.Ending.{Ending}
use Rattle.machine.specs.declared.outcome.Ending.TheVariants.{Halted, Failed, Divided, Dry}
use Rattle.machine.specs.Arithmetic.{computed}
use Rattle.machine.specs.State.{State, state, value, with_reg}

-- a node leaves by one of its exits, or ends the run
pub data Effect : Type 0 where
  leaves : ℕ → State → Effect
  ends : Ending → State → Effect

-- the result of a binary operation goes to a register; without one, the run ends
abbrev pub keep : State → ℕ → Option ℕ → Effect
keep s to (Some word) = leaves 0 (with_reg s to word)
keep s to None = ends Divided s

-- the next input goes to a register; without one, the run ends
abbrev pub read_into : State → ℕ → List ℕ → Effect
read_into s to [] = ends Dry s
read_into s to (word ∷ rest) = leaves 0 (state (slice_set s.regs to word) s.cells rest s.written)

abbrev pub act : Node → State → Effect
act (Mov to from) s = leaves 0 (with_reg s to (value s.regs from))
act (Binary op to left right) s = keep s to (computed op (value s.regs left) (value s.regs right))
act (In to) s = read_into s to s.inputs
act (Out from) s = leaves 0 (state s.regs s.cells s.inputs (s.written ++ value s.regs from ∷ []))
act (Ld to cell) s = leaves 0 (with_reg s to (slice_index s.cells cell))
act (St cell from) s = leaves 0 (state s.regs (slice_set s.cells cell (value s.regs from)) s.inputs s.written)
act (Br on) s = leaves (cond (value s.regs on == 0) 1 0) s
act Skip s = leaves 0 s
act Halt s = ends Halted s
act (Fail fault) s = ends (Failed fault) s

-- what the code tells of a node, with the state after it
abbrev pub effect : ControlFlow Ending ℕ → State → Effect
effect (Continue e) s = leaves e s
effect (Break k) s = ends k s

-- whether a node would write a word for which there is no room
abbrev pub blocked : Node → ℕ → ℕ → Bool
blocked (Mov to from) room written = false
blocked (Binary op to left right) room written = false
blocked (In to) room written = false
blocked (Out from) room written = nat_le room written
blocked (Ld to cell) room written = false
blocked (St cell from) room written = false
blocked (Br on) room written = false
blocked Skip room written = false
blocked Halt room written = false
blocked (Fail fault) room written = false
