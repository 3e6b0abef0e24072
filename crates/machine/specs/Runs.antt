-- Runs of a program: step by step without limits, and under a budget with a buffer for the words written.
use Rattle.std.specs.Prelude.{ℕ, zero, suc, ◌+◌, ◌-◌, cond, List, [], ◌∷◌, ◌++◌, length, drop, replicate, Ok, Err, Result, ◌==◌, nat_le, slice_index}
use Rattle.machine.specs.declared.node.Entry.{Entry}
use Rattle.machine.specs.declared.outcome.Ending.{Ending}
use Rattle.machine.specs.declared.outcome.Stop.{Stop}
use Rattle.machine.specs.declared.outcome.Stop.TheVariants.{Ended, Spent, Full}
use Rattle.machine.specs.declared.outcome.Outcome.{Outcome}
use Rattle.machine.specs.declared.outcome.RunRefusal.{RunRefusal}
use Rattle.machine.specs.declared.outcome.RunRefusal.TheVariants.{WrongCellCount, BudgetTooLarge}
use Rattle.machine.specs.Limits.{register_count, cell_count, budget_limit}
use Rattle.machine.specs.Reasons.{Reason, reason}
use Rattle.machine.specs.State.{State, state}
use Rattle.machine.specs.Step.{Effect, leaves, ends, act, blocked}
use Rattle.machine.specs.Programs.{Prog}
use Rattle.machine.specs.WellFormed.{entry_at}

-- where a run stands: at a node in a state, or at its end
pub data Config : Type 0 where
  running : ℕ → State → Config
  ended : Ending → State → Config

abbrev pub entry_of : Prog → ℕ → Entry
entry_of p n = entry_at p.entries n

abbrev pub follow : Entry → Effect → Config
follow entry (leaves e s) = running (slice_index entry.targets e) s
follow entry (ends k s) = ended k s

abbrev pub step : Prog → Config → Config
step p (running n s) = follow (entry_of p n) (act (entry_of p n).node s)
step p (ended k s) = ended k s

-- the configuration after some steps
abbrev pub after : Prog → ℕ → Config → Config
after p zero c = c
after p (suc n) c = after p n (step p c)

-- a run begins with all registers zero and nothing written
abbrev pub fresh : List ℕ → List ℕ → State
fresh cells inputs = state (replicate register_count 0) cells inputs []

abbrev pub start : Prog → List ℕ → List ℕ → Config
start p cells inputs = running p.first (fresh cells inputs)

-- the run without limits, after some steps
abbrev pub unlimited : Prog → List ℕ → List ℕ → ℕ → Config
unlimited p cells inputs n = after p n (start p cells inputs)

-- how a run under limits came out: why it stopped, after how many steps, and in which state
pub record Report : Type 0 where
  pub stop : Stop
  pub steps : ℕ
  pub final : State

abbrev pub report : Stop → ℕ → State → Report
report stop steps final = record { stop = stop; steps = steps; final = final }

abbrev pub continue : Entry → (ℕ → State → Report) → ℕ → Effect → Report
continue entry rest steps (leaves e s) = rest (slice_index entry.targets e) s
continue entry rest steps (ends k s) = report (Ended k) steps s

-- the run from node n in state s, after `steps` steps, with `left` steps to go and room for `room` words in all
abbrev pub limited : Prog → ℕ → ℕ → ℕ → ℕ → State → Report
limited p room zero steps n s = report Spent steps s
limited p room (suc left) steps n s =
    cond (blocked (entry_of p n).node room (length s.written))
    (report Full steps s)
    (continue (entry_of p n) (limited p room left (steps + 1)) (steps + 1) (act (entry_of p n).node s))

-- the whole run under limits
abbrev pub whole : Prog → List ℕ → List ℕ → ℕ → ℕ → Report
whole p cells inputs room budget = limited p room budget 0 p.first (fresh cells inputs)

-- what the caller is told of a report
abbrev pub outcome : List ℕ → Report → Outcome
outcome inputs r =
    record {
      stop = r.stop;
      steps = r.steps;
      written = length r.final.written;
      read = length inputs - length r.final.inputs;
    }

-- the output buffer after a run: the words written, and past them what was there
abbrev pub buffer : List ℕ → Report → List ℕ
buffer output r = r.final.written ++ drop (length r.final.written) output

abbrev pub reason_of : RunRefusal → Reason
reason_of WrongCellCount = reason 10 (cell_count ∷ [])
reason_of BudgetTooLarge = reason 11 (budget_limit ∷ [])

-- what a caller finds when `run` returns
pub record Answer : Type 0 where
  pub result : Result Outcome Reason
  pub cells : List ℕ
  pub output : List ℕ

abbrev pub answer : Result Outcome Reason → List ℕ → List ℕ → Answer
answer result cells output = record { result = result; cells = cells; output = output }

abbrev pub numbered : Result Outcome RunRefusal → Result Outcome Reason
numbered (Ok o) = Ok o
numbered (Err e) = Err (reason_of e)

abbrev pub completed : List ℕ → List ℕ → Report → Answer
completed inputs output r = answer (Ok (outcome inputs r)) r.final.cells (buffer output r)

-- `run` refuses, and leaves the buffers as they are, or runs the program under its limits
abbrev pub ran : Prog → List ℕ → List ℕ → List ℕ → ℕ → Answer
ran p cells inputs output budget =
    cond (length cells == cell_count)
    (cond (nat_le budget budget_limit)
    (completed inputs output (whole p cells inputs (length output) budget))
    (answer (Err (reason_of BudgetTooLarge)) cells output))
    (answer (Err (reason_of WrongCellCount)) cells output)
