-- The words of a line, one by one.
use Rattle.std.specs.Prelude.{◌≡◌, ℕ, ◌-◌, ◌≤◌, cond, List, ◌∷◌, length, take, Some, None, decimal, Option, Result, MatchOption, MatchResult, ◌==◌, ◌≢◌, slice_index}
use Rattle.text.specs.declared.cause.Cause.{Cause}
use Rattle.text.specs.declared.kind.Kind.{Kind}
use Rattle.machine.specs.declared.node.BinaryOp.{BinaryOp}
use Rattle.text.specs.Causes.{cause_number}
use Rattle.text.specs.Kinds.{binary_name, kind_name}
use Rattle.text.specs.Rows.{letter_fault}

abbrev pub BinaryRead : List ℕ → Option BinaryOp → Type 0
BinaryRead w r = MatchOption r ((op : BinaryOp) → w ≢ binary_name op) (λ op. w ≡ binary_name op)

abbrev pub KindRead : List ℕ → Option Kind → Type 0
KindRead w r = MatchOption r ((k : Kind) → w ≢ kind_name k) (λ k. w ≡ kind_name k)

abbrev pub before_colon : List ℕ → Option (List ℕ)
before_colon w = cond (slice_index w (length w - 1) == 58) (Some (take (length w - 1) w)) None

-- r is the number that w writes behind the letter c, or what is wrong with w
abbrev pub LetterRead : ℕ → ℕ → List ℕ → Result ℕ Cause → Type 0
LetterRead c limit w r = MatchResult r (λ v. (w ≡ c ∷ decimal v) × (letter_fault c limit w ≡ None) × (v ≤ limit)) (λ e. letter_fault c limit w ≡ Some (cause_number e))
