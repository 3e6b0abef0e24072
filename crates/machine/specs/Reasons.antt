-- Why a call declines: the number of the cause, and the values that come with it.
use Rattle.std.specs.Prelude.{ℕ, List}

pub record Reason : Type 0 where
  pub number : ℕ
  pub values : List ℕ

abbrev pub reason : ℕ → List ℕ → Reason
reason number values = record { number = number; values = values }
