-- Single cases, as theorems about the definitions.
use Rattle.std.specs.Prelude.{◌≡◌, ℕ, ◌≤◌, List, [], ◌∷◌, ◌++◌, Some, None, codes}
use Rattle.machine.specs.declared.node.BinaryOp.TheVariants.{Add, Div, Shl}
use Rattle.machine.specs.declared.node.Node.TheVariants.{Mov, Binary, Br, Skip, Halt, Fail}
use Rattle.machine.specs.declared.node.Operand.TheVariants.{Reg, Num}
use Rattle.machine.specs.declared.outcome.Ending.TheVariants.{Divided}
use Rattle.machine.specs.declared.outcome.Stop.TheVariants.{Ended, Spent}
use Rattle.machine.specs.Arithmetic.{computed}
use Rattle.machine.specs.Programs.{Prog, prog}
use Rattle.machine.specs.Runs.{entry_of, fresh, report, whole}
use Rattle.machine.specs.State.{State}
use Rattle.machine.specs.Step.{act, ends}
use Rattle.text.specs.Texts.{text_fault}
use Rattle.analyses.specs.Standard.{standard_facts, standard_moves}
use Rattle.settling.specs.Settling.{settled}
use Rattle.rounds.specs.Rounds.{verdicts}

-- sums and shifts go around at 32 bits, and 7 divided by 0 has no result
abbrev pub Words : Type 0
Words = (computed Add 4294967295 1 ≡ Some 0) × (computed Shl 1 33 ≡ Some 2) × (computed Div 7 0 ≡ None)

-- a node that divides 7 by 0 ends the run
abbrev pub NodeDivides : Type 0
NodeDivides = (to : ℕ) (s : State) → act (Binary Div to (Num 7) (Num 0)) s ≡ ends Divided s

-- a run that begins at such a node ends there, after 1 step
abbrev pub RunDivides : Type 0
RunDivides =
    (p : Prog) (cells inputs : List ℕ) (room budget to : ℕ) →
    (entry_of p p.first).node ≡ Binary Div to (Num 7) (Num 0) →
    1 ≤ budget →
    whole p cells inputs room budget ≡ report (Ended Divided) 1 (fresh cells inputs)

-- a budget of 0 is spent after 0 steps
abbrev pub SpentAtOnce : Type 0
SpentAtOnce = (p : Prog) (cells inputs : List ℕ) (room : ℕ) → whole p cells inputs room 0 ≡ report Spent 0 (fresh cells inputs)

-- a text without nodes is refused for its trailer, and an empty one for want of a trailer
abbrev pub NoNodes : Type 0
NoNodes = (text_fault (codes "end 0 from 0" ++ 10 ∷ []) ≡ Some (6, 1, 2)) × (text_fault [] ≡ Some (6, 1, 0))

abbrev pub Starred : Type 0
Starred = Words × NodeDivides × RunDivides × SpentAtOnce × NoNodes

-- `mov r0 #4`, a branch on it, and an ending for each exit
abbrev pub four_nodes : Prog
four_nodes =
    prog
    (record { node = Mov 0 (Num 4); targets = 1 ∷ 0 ∷ [] }
    ∷ record { node = Br (Reg 0); targets = 2 ∷ 3 ∷ [] }
    ∷ record { node = Halt; targets = 0 ∷ 0 ∷ [] }
    ∷ record { node = Fail 9; targets = 0 ∷ 0 ∷ [] }
    ∷ [])
    0

-- the branch is seen to be decided, so the last node is never visited
abbrev pub ThreeVisits : Type 0
ThreeVisits = (settled standard_facts standard_moves four_nodes).steps ≡ 3

-- by constants and branches (bits 1 and 4), a skip by way 0 takes the place of the branch
abbrev pub BranchSkipped : Type 0
BranchSkipped =
    verdicts standard_facts standard_moves four_nodes
    ≡ record { made = record { at = 1; node = Br (Reg 0); row = Skip ∷ []; way = 0; numbers = 18 } ∷ []; short = 0 }

abbrev pub RoundStarred : Type 0
RoundStarred = ThreeVisits × BranchSkipped
