-- A worklist as the code holds it.
use Rattle.settling.specs.declared.worklist.Worklist as code
use Rattle.settling.specs.Worklist.{Worklist, worklist_of}

abbrev pub held : {T : Type 0} → code.Worklist T → Worklist T
held w = worklist_of w.items.now w.waiting
