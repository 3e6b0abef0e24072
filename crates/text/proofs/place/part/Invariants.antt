use Rattle.std.proofs.Common.{◌≡◌, drop}
use Rattle.text.specs.Cuts.{parts, left}
use Rattle.text.proofs.place.part.Given as goal

abbrev pub invariant-loop : goal.invariant-loop
invariant-loop l = left l.parts ≡ drop l.counter (parts l.sep l.text)
