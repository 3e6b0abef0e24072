-- Laws of runs.
use Rattle.std.specs.Prelude.{◌≡◌, ℕ, ◌<◌, ◌≤◌, true, List, length}
use Rattle.machine.specs.declared.outcome.Stop.{Stop}
use Rattle.machine.specs.declared.outcome.Stop.TheVariants.{Ended, Spent, Full}
use Rattle.machine.specs.Limits.{cell_count}
use Rattle.machine.specs.Programs.{Prog}
use Rattle.machine.specs.Runs.{Config, running, ended, entry_of, Report, unlimited, whole}
use Rattle.machine.specs.State.{State, Words, Valid}
use Rattle.machine.specs.Step.{blocked}

-- the run is not over
abbrev pub GoesOn : Config → Type 0
GoesOn c = (n : ℕ) × (s : State) × (c ≡ running n s)

-- what a stop after `steps` steps in state s says of the run without limits, which is then at c:
-- a named ending is its ending, a spent budget leaves it going on, and a full buffer stops it before an `out`
abbrev pub StopMeans : Prog → ℕ → ℕ → Stop → ℕ → State → Config → Type 0
StopMeans p room budget (Ended k) steps s c = c ≡ ended k s
StopMeans p room budget Spent steps s c = (steps ≡ budget) × ((n : ℕ) × (c ≡ running n s))
StopMeans p room budget Full steps s c =
    (steps < budget) × ((n : ℕ) × (c ≡ running n s) × (blocked (entry_of p n).node room (length s.written) ≡ true))

-- a run under limits is the beginning of the run without limits: until it stops that is not over, and then it is where the stop says
pub record Begins (p : Prog) (cells inputs : List ℕ) (room budget : ℕ) (r : Report) : Type 0 where
  pub within : r.steps ≤ budget
  pub before : (m : ℕ) → m < r.steps → GoesOn (unlimited p cells inputs m)
  pub stops : StopMeans p room budget r.stop r.steps r.final (unlimited p cells inputs r.steps)

abbrev pub LimitedBegins : Prog → Type 0
LimitedBegins p = (cells inputs : List ℕ) (room budget : ℕ) → Begins p cells inputs room budget (whole p cells inputs room budget)

-- a run stands at a node of its program, in a state that the machine can be in
abbrev pub ValidAt : Prog → Config → Type 0
ValidAt p (running n s) = (n < length p.entries) × Valid s
ValidAt p (ended k s) = Valid s

abbrev pub StaysValid : Prog → Type 0
StaysValid p = (cells inputs : List ℕ) → length cells ≡ cell_count → Words cells → Words inputs → (n : ℕ) → ValidAt p (unlimited p cells inputs n)
