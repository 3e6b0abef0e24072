-- The text that print writes.
use Rattle.std.specs.Prelude.{ℕ, ◌+◌, List, [], ◌∷◌, ◌++◌, length, codes, decimal, slice_index}
use Rattle.std.specs.List.{join_with_byte}
use Rattle.machine.specs.declared.node.Entry.{Entry}
use Rattle.machine.specs.declared.node.Node.{Node}
use Rattle.machine.specs.declared.node.Node.TheVariants.{Mov, Binary, In, Out, Ld, St, Br, Skip, Halt, Fail}
use Rattle.machine.specs.declared.node.Operand.{Operand}
use Rattle.machine.specs.declared.node.Operand.TheVariants.{Reg, Num}
use Rattle.machine.specs.declared.node.Exits.{Exits}
use Rattle.machine.specs.declared.node.Exits.TheVariants as exits
use Rattle.machine.specs.Programs.{Prog}
use Rattle.machine.specs.WellFormed.{exits_of}
use Rattle.text.specs.Kinds.{kind_name, kind_of}

abbrev pub register_word : ℕ → List ℕ
register_word n = 114 ∷ decimal n

abbrev pub cell_word : ℕ → List ℕ
cell_word n = 99 ∷ decimal n

abbrev pub fault_word : ℕ → List ℕ
fault_word n = 33 ∷ decimal n

abbrev pub operand_word : Operand → List ℕ
operand_word (Reg n) = register_word n
operand_word (Num n) = 35 ∷ decimal n

abbrev pub label_word : ℕ → List ℕ
label_word n = decimal n ++ 58 ∷ []

abbrev pub operand_words : Node → List (List ℕ)
operand_words (Mov to from) = register_word to ∷ operand_word from ∷ []
operand_words (Binary op to left right) = register_word to ∷ operand_word left ∷ operand_word right ∷ []
operand_words (In to) = register_word to ∷ []
operand_words (Out from) = operand_word from ∷ []
operand_words (Ld to cell) = register_word to ∷ cell_word cell ∷ []
operand_words (St cell from) = cell_word cell ∷ operand_word from ∷ []
operand_words (Br on) = operand_word on ∷ []
operand_words Skip = []
operand_words Halt = []
operand_words (Fail fault) = fault_word fault ∷ []

abbrev pub exit_words : Exits → List ℕ → List (List ℕ)
exit_words exits.None targets = []
exit_words exits.One targets = codes "->" ∷ decimal (slice_index targets 0) ∷ []
exit_words exits.Two targets = codes "->" ∷ decimal (slice_index targets 0) ∷ decimal (slice_index targets 1) ∷ []

-- the words of the node of a number
abbrev pub entry_words : ℕ → Entry → List (List ℕ)
entry_words n e = label_word n ∷ kind_name (kind_of e.node) ∷ operand_words e.node ++ exit_words (exits_of e.node) e.targets

-- the words with a space between each two, and a line feed
abbrev pub line : List (List ℕ) → List ℕ
line ws = join_with_byte 32 ws ++ 10 ∷ []

-- the lines of the nodes from number n on
abbrev pub node_lines : ℕ → List Entry → List ℕ
node_lines n [] = []
node_lines n (e ∷ es) = line (entry_words n e) ++ node_lines (n + 1) es

abbrev pub trailer_words : ℕ → ℕ → List (List ℕ)
trailer_words count first = codes "end" ∷ decimal count ∷ codes "from" ∷ decimal first ∷ []

abbrev pub printed : Prog → List ℕ
printed p = node_lines 0 p.entries ++ line (trailer_words (length p.entries) p.first)
