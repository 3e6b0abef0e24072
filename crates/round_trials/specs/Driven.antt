-- What a round with room for every fact tells.
use Rattle.std.specs.Prelude.{ℕ, cond, [], ◌∷◌, length, Ok, Err, Result, nat_le}
use Rattle.machine.specs.Programs.{Prog}
use Rattle.machine.specs.Reasons.{Reason, reason}
use Rattle.analysis.specs.Analyses.{MovesOf}
use Rattle.analysis.specs.Facts.{FactsOf}
use Rattle.rounds.specs.declared.change.Counts.{Counts}
use Rattle.rounds.specs.Rounds.{counts_told}

-- the counts, or refusal 9 where the change list has fewer entries than the program
abbrev pub told_of : {Fact : Type 0} → FactsOf Fact → MovesOf Fact → Prog → ℕ → Result Counts Reason
told_of v m p list = cond (nat_le (length p.entries) list) (Ok (counts_told v m p)) (Err (reason 9 (length p.entries ∷ [])))
