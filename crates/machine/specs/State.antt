-- The machine's state.
use Rattle.std.specs.Prelude.{◌≡◌, ℕ, ◌<◌, List, length, slice_index, slice_set}
use Rattle.std.specs.List.{All}
use Rattle.machine.specs.declared.node.Operand.{Operand}
use Rattle.machine.specs.declared.node.Operand.TheVariants.{Reg, Num}
use Rattle.machine.specs.Limits.{register_count, cell_count, word_limit}

-- the registers, the cells, the inputs not yet read, and the words written, oldest first
pub record State : Type 0 where
  pub regs : List ℕ
  pub cells : List ℕ
  pub inputs : List ℕ
  pub written : List ℕ

abbrev pub state : List ℕ → List ℕ → List ℕ → List ℕ → State
state regs cells inputs written = record { regs = regs; cells = cells; inputs = inputs; written = written }

abbrev pub value : List ℕ → Operand → ℕ
value regs (Reg r) = slice_index regs r
value regs (Num n) = n

abbrev pub with_reg : State → ℕ → ℕ → State
with_reg s to word = state (slice_set s.regs to word) s.cells s.inputs s.written

abbrev pub Words : List ℕ → Type 0
Words ws = All (λ w. w < word_limit) ws

-- a state that the machine can be in
pub record Valid (s : State) : Type 0 where
  pub eight : length s.regs ≡ register_count
  pub sixty_four : length s.cells ≡ cell_count
  pub regs_fit : Words s.regs
  pub cells_fit : Words s.cells
  pub inputs_fit : Words s.inputs
  pub written_fit : Words s.written
