use Rattle.std.proofs.Common.{◌≡◌, length, take, drop}
use Rattle.analyses.specs.Copies.{cleared}
use Rattle.analyses.proofs.copies.forget.Given as goal

-- the entries so far are made, and those behind are as they were
abbrev pub invariant-loop-entry : goal.invariant-loop-entry
invariant-loop-entry l = record {
  made : take l.entry-index l.sources ≡ cleared l.entry-index l.register l.initial.sources;
  behind : drop l.entry-index l.sources ≡ drop l.entry-index l.initial.sources;
  long : length l.sources ≡ 8;
}
