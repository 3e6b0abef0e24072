-- Targets that lie in range.
use Rattle.std.specs.Prelude.{ℕ, ◌<◌, slice_index}
use Rattle.machine.specs.declared.node.Entry.{Entry}
use Rattle.machine.specs.Exits.{Has}
use Rattle.machine.specs.WellFormed.{exits_of}

-- the targets of the exits that there are lie below n
abbrev pub TargetsBelow : ℕ → Entry → Type 0
TargetsBelow n entry = (exit : ℕ) → Has (exits_of entry.node) exit → slice_index entry.targets exit < n
