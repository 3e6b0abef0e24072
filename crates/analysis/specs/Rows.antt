-- Rows of nodes, how they run, and which may be proposed for a node.
use Rattle.std.specs.Prelude.{ℕ, zero, suc, ◌%◌, ◌^◌, Bool, true, false, ◌&&◌, List, [], ◌∷◌, length, ◌==◌, nat_le, nat_lt}
use Rattle.machine.specs.declared.node.Exits.{Exits}
use Rattle.machine.specs.declared.node.Exits.TheVariants as exits
use Rattle.machine.specs.declared.node.Node.{Node}
use Rattle.machine.specs.State.{State}
use Rattle.machine.specs.Step.{Effect, leaves, ends, act}
use Rattle.machine.specs.WellFormed.{is_node, exits_of}

-- a node that leaves by exit 0 is followed by the next; any other effect is that of the row
abbrev pub onwards : Effect → (State → Effect) → Effect
onwards (leaves zero s) next = next s
onwards (leaves (suc e) s) next = leaves (suc e) s
onwards (ends k s) next = ends k s

-- the nodes run in turn, and a row that ends straight leaves by its way
abbrev pub run_row : List Node → ℕ → State → Effect
run_row [] way s = leaves way s
run_row (n ∷ ns) way s = onwards (act n s) (run_row ns way)

-- what a row for a node with the exits x may end with, and the way that it then has
abbrev pub last_fits : Exits → Exits → ℕ → Bool
last_fits exits.None exits.None way = way == 0
last_fits exits.None exits.One way = false
last_fits exits.None exits.Two way = false
last_fits exits.One exits.None way = false
last_fits exits.One exits.One way = way == 0
last_fits exits.One exits.Two way = false
last_fits exits.Two exits.None way = false
last_fits exits.Two exits.One way = nat_lt way 2
last_fits exits.Two exits.Two way = way == 0

abbrev pub is_straight : Exits → Bool
is_straight exits.None = false
is_straight exits.One = true
is_straight exits.Two = false

-- nodes of the machine, all but the last straight
abbrev pub row_fits : Exits → ℕ → List Node → Bool
row_fits x way [] = false
row_fits x way (n ∷ []) = is_node n && last_fits x (exits_of n) way
row_fits x way (n ∷ m ∷ ns) = is_node n && (is_straight (exits_of n) && row_fits x way (m ∷ ns))

-- numbers 1 to 15, at least one of them
abbrev pub set_fits : ℕ → Bool
set_fits numbers = nat_lt 0 numbers && (nat_lt numbers (2 ^ 16) && numbers % 2 == 0)

abbrev pub row_limit : ℕ
row_limit = 4

-- the form of a proposal for a node, whatever the row does
abbrev pub is_proposal : Node → List Node → ℕ → ℕ → Bool
is_proposal n row way numbers = nat_le (length row) row_limit && (row_fits (exits_of n) way row && set_fits numbers)
