-- What the reader of one word answers.
use Rattle.std.specs.Prelude.{◌≡◌, ℕ, ◌≤◌, List, Some, None, Result, MatchResult}
use Rattle.text.specs.declared.cause.Cause.{Cause}
use Rattle.machine.specs.declared.node.Operand.{Operand}
use Rattle.machine.specs.declared.node.Operand.TheVariants.{Reg, Num}
use Rattle.text.specs.Causes.{cause_number}
use Rattle.text.specs.Rows.{Due, word_fault}

abbrev pub OperandFits : Operand → Type 0
OperandFits (Reg n) = n ≤ 7
OperandFits (Num n) = n ≤ 4294967295

-- r is what the word w spells where `due` is due, or what is wrong with it
abbrev pub WordRead : {V : Type 0} → Due → (V → List ℕ) → (V → Type 0) → List ℕ → Result V Cause → Type 0
WordRead due spelled fits w r = MatchResult r (λ v. (w ≡ spelled v) × (word_fault due w ≡ None) × fits v) (λ e. word_fault due w ≡ Some (cause_number e))
