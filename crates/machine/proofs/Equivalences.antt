-- Being equivalent is an equivalence relation of programs.
use mathlib.Core.Logic.Iff
use Rattle.machine.specs.Equivalent.{Equivalent}
use Rattle.machine.specs.Programs.{Prog}

pub equivalent_refl : (p : Prog) → Equivalent p p
equivalent_refl p = record { words = λ cells inputs ok i w. Iff.rfl; endings = λ cells inputs ok k cells' read. Iff.rfl }

pub equivalent_sym : (p q : Prog) → Equivalent p q → Equivalent q p
equivalent_sym p q h =
    record {
      words = λ cells inputs ok i w. Iff.symm (h.words cells inputs ok i w);
      endings = λ cells inputs ok k cells' read. Iff.symm (h.endings cells inputs ok k cells' read);
    }

pub equivalent_trans : (p q r : Prog) → Equivalent p q → Equivalent q r → Equivalent p r
equivalent_trans p q r g h =
    record {
      words = λ cells inputs ok i w. Iff.trans (g.words cells inputs ok i w) (h.words cells inputs ok i w);
      endings = λ cells inputs ok k cells' read. Iff.trans (g.endings cells inputs ok k cells' read) (h.endings cells inputs ok k cells' read);
    }
