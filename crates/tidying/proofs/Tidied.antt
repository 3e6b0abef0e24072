-- Tidying keeps the program the same to every machine.
use Rattle.std.proofs.Common.{refl}
use Rattle.machine.specs.Equivalent.{Equivalent}
use Rattle.machine.specs.Programs.{Prog, IsProgram}
use Rattle.machine.proofs.Equivalences.{equivalent_trans}
use Rattle.tidying.specs.Reached.{reached_marks}
use Rattle.tidying.specs.Skips.{skipless}
use Rattle.tidying.specs.Tidy.{tidied, Tidies}
use Rattle.tidying.proofs.Marked.{marks_right}
use Rattle.tidying.proofs.Renumbered.{renumbered_equivalent, renumbered_program}

pub tidied_tidies : (p : Prog) → IsProgram (skipless p) → Tidies p (tidied p)
tidied_tidies p ok = record { marks = reached_marks (skipless p); reached = marks_right (skipless p) ok; kept = refl }

pub tidied_equivalent : (p : Prog) → IsProgram p → IsProgram (skipless p) → Equivalent p (skipless p) → Equivalent p (tidied p)
tidied_equivalent p was ok same =
    let marks = reached_marks (skipless p) in
    equivalent_trans p (skipless p) (tidied p) same (renumbered_equivalent (skipless p) ok marks (marks_right (skipless p) ok))

pub tidied_program : (p : Prog) → IsProgram (skipless p) → IsProgram (tidied p)
tidied_program p ok = renumbered_program (skipless p) ok (reached_marks (skipless p)) (marks_right (skipless p) ok)
