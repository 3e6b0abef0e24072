use Rattle.std.proofs.Common.{◌≡◌, length, take, drop}
use Rattle.analyses.specs.Entries.{any_lost, agreeing}
use Rattle.analyses.proofs.entries.keep_agreeing.Given as goal

-- the first i entries are made, those behind are as they were, and it is known whether one of the first was lost
abbrev pub invariant-loop-i : goal.invariant-loop-i
invariant-loop-i g l = record {
  made : take l.i l.ours ≡ agreeing g.T.PartialEq.eq l.i l.initial.ours l.theirs;
  behind : drop l.i l.ours ≡ drop l.i l.initial.ours;
  known : l.lost ≡ any_lost g.T.PartialEq.eq l.i l.initial.ours l.theirs;
  long : length l.ours ≡ 8;
}
