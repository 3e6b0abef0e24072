-- When no machine can tell two programs apart.
use Rattle.std.specs.Prelude.{◌≡◌, ℕ, ◌+◌, ◌<◌, ◌↔◌, List, length, slice_index}
use Rattle.machine.specs.declared.outcome.Ending.{Ending}
use Rattle.machine.specs.Limits.{cell_count}
use Rattle.machine.specs.Programs.{Prog}
use Rattle.machine.specs.Runs.{Config, running, ended, unlimited}
use Rattle.machine.specs.State.{State, Words}

-- what a run can be given: 64 cells of words, and inputs that are words
abbrev pub Runnable : List ℕ → List ℕ → Type 0
Runnable cells inputs = (length cells ≡ cell_count) × Words cells × Words inputs

abbrev pub state_in : Config → State
state_in (running n s) = s
state_in (ended k s) = s

-- the word at place i is w
abbrev pub WordAt : List ℕ → ℕ → ℕ → Type 0
WordAt ws i w = (i < length ws) × (slice_index ws i ≡ w)

module _ (p : Prog) (cells inputs : List ℕ) where
  -- run without limits, the program writes w as word number i, whether it ends or not
  pub record Writes (i w : ℕ) : Type 0 where
    pub steps : ℕ
    pub word : WordAt (state_in (unlimited p cells inputs steps)).written i w

  -- some number of steps ends it so, with these cells and so many inputs read
  pub record Ends (ending : Ending) (cells' : List ℕ) (read : ℕ) : Type 0 where
    pub steps : ℕ
    pub final : State
    pub over : unlimited p cells inputs steps ≡ ended ending final
    pub holds : final.cells ≡ cells'
    pub left : length final.inputs + read ≡ length inputs

-- whatever the cells and inputs: the same words in the same places, and the same end or none
pub record Equivalent (p q : Prog) : Type 0 where
  pub words : (cells inputs : List ℕ) → Runnable cells inputs → (i w : ℕ) → Writes p cells inputs i w ↔ Writes q cells inputs i w
  pub endings : (cells inputs : List ℕ) → Runnable cells inputs → (ending : Ending) (cells' : List ℕ) (read : ℕ) →
      Ends p cells inputs ending cells' read ↔ Ends q cells inputs ending cells' read
