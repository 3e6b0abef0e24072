-- Runs that begin with a division by zero.
use Rattle.std.proofs.Common.{◌≡◌, ℕ, zero, suc, ◌≤◌, cond, List, sym, refl, subst, arith}
use Rattle.machine.specs.declared.node.BinaryOp.TheVariants.{Div}
use Rattle.machine.specs.declared.node.Node.{Node}
use Rattle.machine.specs.declared.node.Node.TheVariants.{Binary}
use Rattle.machine.specs.declared.node.Operand.TheVariants.{Num}
use Rattle.machine.specs.declared.outcome.Ending.TheVariants.{Divided}
use Rattle.machine.specs.declared.outcome.Stop.TheVariants.{Ended, Full}
use Rattle.machine.specs.Programs.{Prog}
use Rattle.machine.specs.Runs.{continue, entry_of, fresh, limited, report, whole}
use Rattle.machine.specs.Step.{act, blocked}

pub divides :
    (p : Prog) (cells inputs : List ℕ) (room budget to : ℕ) →
    (entry_of p p.first).node ≡ Binary Div to (Num 7) (Num 0) →
    1 ≤ budget →
    whole p cells inputs room budget ≡ report (Ended Divided) 1 (fresh cells inputs)
divides p cells inputs room zero to e some = absurd (omega (arith, some))
divides p cells inputs room (suc left) to e some =
    let P : Node → Type 0 =
    λ node.
    cond (blocked node room 0)
    (report Full 0 (fresh cells inputs))
    (continue (entry_of p p.first) (limited p room left 1) 1 (act node (fresh cells inputs)))
    ≡ report (Ended Divided) 1 (fresh cells inputs)
    in subst P (sym e) refl
