-- A program as a value: its entries, and the number of its first node.
use Rattle.std.specs.Prelude.{ℕ, ◌<◌, ◌≤◌, Bool, cond, ◌&&◌, List, [], ◌∷◌, length, take, Some, None, Option, nat_le, nat_lt}
use Rattle.std.specs.List.{list_all}
use Rattle.machine.specs.declared.node.Entry.{Entry}
use Rattle.machine.specs.declared.program.Program.{Program}
use Rattle.machine.specs.Limits.{node_limit}
use Rattle.machine.specs.WellFormed.{sound, AllSound, halt}

pub record Prog : Type 0 where
  pub entries : List Entry
  pub first : ℕ

abbrev pub prog : List Entry → ℕ → Prog
prog entries first = record { entries = entries; first = first }

-- 1 to 200 nodes, each of them sound, and the first node is one of them
pub record IsProgram (p : Prog) : Type 0 where
  pub counted : length p.entries ≤ node_limit
  pub starts : p.first < length p.entries
  pub sound : AllSound (length p.entries) p.entries

-- the program that the code holds
abbrev pub program_of : Program → Prog
program_of p = prog (take p.count p.table.entries) p.first

-- the program that halts at once
abbrev pub halting : Prog
halting = prog (halt ∷ []) 0

-- whether every entry may stand in a program of `count` nodes
abbrev pub every_sound : ℕ → List Entry → Bool
every_sound count entries = list_all (sound count) entries

-- the program that the first `count` entries make, if they make one
abbrev pub checked : List Entry → ℕ → ℕ → Option Prog
checked entries count first =
    cond (nat_le count node_limit && (nat_lt first count && every_sound count (take count entries))) (Some (prog (take count entries) first)) None
