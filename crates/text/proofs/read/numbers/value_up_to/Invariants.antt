use Rattle.std.proofs.Common.{◌≡◌, ◌≤◌, true, drop}
use Rattle.std.specs.Str.{all_ascii_digits}
use Rattle.text.specs.Numbers.{value_after, value_of}
use Rattle.text.proofs.read.numbers.value_up_to.Given as goal

-- what is left, after the number so far, gives the whole number
abbrev pub invariant-loop-b : goal.invariant-loop-b
invariant-loop-b l = (l.value ≤ l.limit) × (value_after l.value (drop l.b-index l.part) ≡ value_of l.part) × (all_ascii_digits (drop l.b-index l.part) ≡ true)
