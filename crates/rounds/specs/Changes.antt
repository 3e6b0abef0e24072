-- Changes of a program: a row in the place of a node.
use Rattle.std.specs.Prelude.{ℕ, suc, Bool, false, ◌&&◌, List, [], ◌∷◌, ◌++◌, length, take, nat_le, slice_index, slice_set}
use Rattle.machine.specs.contracts.node.NodePartialEq.TheImpl as node_eq
use Rattle.machine.specs.declared.node.Entry.{Entry}
use Rattle.machine.specs.declared.node.Exits.{Exits}
use Rattle.machine.specs.declared.node.Exits.TheVariants as exits
use Rattle.machine.specs.declared.node.Node.{Node}
use Rattle.machine.specs.Programs.{Prog, prog}
use Rattle.machine.specs.Runs.{entry_of}
use Rattle.machine.specs.WellFormed.{is_node, exits_of}
use Rattle.analysis.specs.Rows.{is_proposal, row_limit}
use Rattle.rounds.specs.declared.change.Change.{Change}

-- node number `at`, which is `node`, is replaced by the row, which leaves by the way; `numbers` has a bit for each analysis with a part in it
pub record Replacement : Type 0 where
  pub at : ℕ
  pub node : Node
  pub row : List Node
  pub way : ℕ
  pub numbers : ℕ

-- what an entry of a change list says
abbrev pub replacement_of : Change → Replacement
replacement_of c = record { at = c.at; node = c.node; row = take c.len c.row; way = c.way; numbers = c.set }

-- whether it has the form of a proposal for its node
abbrev pub in_form : Change → Bool
in_form c = is_node c.node && (nat_le c.len row_limit && is_proposal c.node (take c.len c.row) c.way c.set)

-- the targets of a node with these exits that stands for an old entry and goes on to `next`: exit 1 leads where it led, and 0 stands for an exit that is not there
abbrev pub targets_for : Exits → ℕ → List ℕ → List ℕ
targets_for exits.None next old = 0 ∷ 0 ∷ []
targets_for exits.One next old = next ∷ 0 ∷ []
targets_for exits.Two next old = next ∷ slice_index old 1 ∷ []

abbrev pub leading : Entry → Node → ℕ → Entry
leading old n next = record { node = n; targets = targets_for (exits_of n) next old.targets }

-- where a node of a row goes on: to the next node, which is laid at `next`, or behind the last one to the old target by the way
abbrev pub on_to : Entry → ℕ → List Node → ℕ → ℕ
on_to old way [] next = slice_index old.targets way
on_to old way (n ∷ ns) next = next

-- the nodes laid one behind the other from `next` on
abbrev pub laid : Entry → ℕ → List Node → ℕ → List Entry
laid old way [] next = []
laid old way (n ∷ ns) next = leading old n (on_to old way ns (suc next)) ∷ laid old way ns (suc next)

-- the row's first node takes the place of the old entry, and the rest is appended
abbrev pub row_put : Prog → Entry → ℕ → ℕ → List Node → Prog
row_put p old at way [] = p
row_put p old at way (n ∷ ns) =
    prog (slice_set p.entries at (leading old n (on_to old way ns (length p.entries))) ++ laid old way ns (length p.entries)) p.first

unfoldable pub changed_by : Prog → Replacement → Prog
changed_by p c = row_put p (entry_of p c.at) c.at c.way c.row

-- one change after another
abbrev pub changed_by_all : Prog → List Replacement → Prog
changed_by_all p [] = p
changed_by_all p (c ∷ cs) = changed_by_all (changed_by p c) cs

-- whether two nodes are equal, as the derived `==` tells
unfoldable pub same_node : Node → Node → Bool
same_node n m = (node_eq.ghosts).eq n m

-- whether a row is just the node itself
abbrev pub is_itself : Node → List Node → Bool
is_itself n [] = false
is_itself n (m ∷ []) = same_node m n
is_itself n (m ∷ k ∷ ns) = false
