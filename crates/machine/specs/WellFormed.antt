-- Which entries may stand in a program.
use Rattle.std.specs.Prelude.{◌≡◌, ℕ, ◌<◌, Bool, true, ◌&&◌, List, [], ◌∷◌, length, ◌==◌, nat_lt, slice_index, slice_index_or}
use Rattle.machine.specs.declared.node.Operand.{Operand}
use Rattle.machine.specs.declared.node.Operand.TheVariants.{Reg, Num}
use Rattle.machine.specs.declared.node.Node.{Node}
use Rattle.machine.specs.declared.node.Node.TheVariants.{Mov, Binary, In, Out, Ld, St, Br, Skip, Halt, Fail}
use Rattle.machine.specs.declared.node.Exits.{Exits}
use Rattle.machine.specs.declared.node.Exits.TheVariants as exits
use Rattle.machine.specs.declared.node.Entry.{Entry}
use Rattle.machine.specs.Limits.{register_count, cell_count, word_limit}

abbrev pub is_register : ℕ → Bool
is_register r = nat_lt r register_count

abbrev pub is_cell : ℕ → Bool
is_cell c = nat_lt c cell_count

abbrev pub is_operand : Operand → Bool
is_operand (Reg r) = is_register r
is_operand (Num n) = nat_lt n word_limit

-- what a node names is there
abbrev pub is_node : Node → Bool
is_node (Mov to from) = is_register to && is_operand from
is_node (Binary op to left right) = is_register to && (is_operand left && is_operand right)
is_node (In to) = is_register to
is_node (Out from) = is_operand from
is_node (Ld to cell) = is_register to && is_cell cell
is_node (St cell from) = is_cell cell && is_operand from
is_node (Br on) = is_operand on
is_node Skip = true
is_node Halt = true
is_node (Fail fault) = nat_lt fault 256

abbrev pub exits_of : Node → Exits
exits_of (Mov to from) = exits.One
exits_of (Binary op to left right) = exits.One
exits_of (In to) = exits.One
exits_of (Out from) = exits.One
exits_of (Ld to cell) = exits.One
exits_of (St cell from) = exits.One
exits_of (Br on) = exits.Two
exits_of Skip = exits.One
exits_of Halt = exits.None
exits_of (Fail fault) = exits.None

-- the exits that there are lead below `count`, and 0 stands in the place of the others
abbrev pub leads : ℕ → Exits → List ℕ → Bool
leads count exits.None targets = slice_index targets 0 == 0 && slice_index targets 1 == 0
leads count exits.One targets = nat_lt (slice_index targets 0) count && slice_index targets 1 == 0
leads count exits.Two targets = nat_lt (slice_index targets 0) count && nat_lt (slice_index targets 1) count

-- an entry for a program of `count` nodes
abbrev pub sound : ℕ → Entry → Bool
sound count entry = is_node entry.node && (length entry.targets == 2 && leads count (exits_of entry.node) entry.targets)

abbrev pub Sound : ℕ → Entry → Type 0
Sound count entry = sound count entry ≡ true

abbrev pub halt : Entry
halt = record { node = Halt; targets = 0 ∷ 0 ∷ [] }

-- stands where a list has no entry
abbrev pub blank : Entry
blank = record { node = Mov 0 (Reg 0); targets = [] }

abbrev pub entry_at : List Entry → ℕ → Entry
entry_at entries k = slice_index_or entries k blank

-- every entry below `count` may stand in a program of that many nodes
abbrev pub AllSound : ℕ → List Entry → Type 0
AllSound count entries = (k : ℕ) → k < count → Sound count (entry_at entries k)
