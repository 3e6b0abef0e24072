-- What is due in each place of a line, and the first fault of a line.
use Rattle.std.specs.Prelude.{ℕ, ◌+◌, ◌-◌, cond, List, [], ◌∷◌, ◌++◌, length, take, drop, is_some, Some, None, codes, Option, ◌==◌, slice_index, slice_index_or}
use Rattle.std.specs.Str.{bytes_eq}
use Rattle.machine.specs.declared.node.BinaryOp.TheVariants.{Add, Sub, Mul, Div, Rem, And, Or, Xor, Shl, Shr, Eq, Lt}
use Rattle.text.specs.declared.kind.Kind.{Kind}
use Rattle.text.specs.declared.kind.Kind.TheVariants as kind
use Rattle.machine.specs.Limits.{node_limit, register_count, cell_count, word_limit}
use Rattle.text.specs.Limits.{node_number_limit, fault_limit}
use Rattle.text.specs.Numbers.{number_fault, value_of}
use Rattle.machine.specs.declared.node.Exits.{Exits}
use Rattle.machine.specs.declared.node.Exits.TheVariants as exits
use Rattle.text.specs.Kinds.{kind_name, kind_exits}

-- the kind that a word names
abbrev pub seek : List ℕ → List Kind → Option Kind
seek w [] = None
seek w (k ∷ ks) = cond (bytes_eq w (kind_name k)) (Some k) (seek w ks)

abbrev pub kinds : List Kind
kinds =
    kind.Mov ∷ kind.Binary Add ∷ kind.Binary Sub ∷ kind.Binary Mul ∷ kind.Binary Div ∷ kind.Binary Rem ∷ kind.Binary And
    ∷ kind.Binary Or ∷ kind.Binary Xor ∷ kind.Binary Shl ∷ kind.Binary Shr ∷ kind.Binary Eq ∷ kind.Binary Lt
    ∷ kind.In ∷ kind.Out ∷ kind.Ld ∷ kind.St ∷ kind.Br ∷ kind.Skip ∷ kind.Halt ∷ kind.Fail ∷ []

abbrev pub kind_named : List ℕ → Option Kind
kind_named w = seek w kinds

-- what a place of a line asks for; a label is the number of the next node, and a count is one that says how many nodes there are
pub data Due : Type 0 where
  exactly : List ℕ → Due
  label : ℕ → Due
  name : Due
  register : Due
  cell : Due
  value : Due
  fault : Due
  count : Due
  target : Due

-- the first of two faults
abbrev pub first : Option ℕ → Option ℕ → Option ℕ
first None g = g
first (Some f) g = Some f

-- a letter and then a number
abbrev pub letter_fault : ℕ → ℕ → List ℕ → Option ℕ
letter_fault c limit w = cond (slice_index w 0 == c) (number_fault limit (drop 1 w)) (Some 2)

-- a number and then a colon; the number is the next one, and a node of that number can exist
abbrev pub label_fault : ℕ → List ℕ → Option ℕ
label_fault next w =
    cond (slice_index w (length w - 1) == 58)
    (first (number_fault node_number_limit (take (length w - 1) w)) (cond (value_of (take (length w - 1) w) == next) (cond (next == node_limit) (Some 5) None) (Some 4)))
    (Some 2)

abbrev pub word_fault : Due → List ℕ → Option ℕ
word_fault (exactly v) w = cond (bytes_eq w v) None (Some 2)
word_fault (label next) w = label_fault next w
word_fault name w = cond (is_some (kind_named w)) None (Some 2)
word_fault register w = letter_fault 114 (register_count - 1) w
word_fault cell w = letter_fault 99 (cell_count - 1) w
word_fault value w = cond (slice_index w 0 == 114) (letter_fault 114 (register_count - 1) w) (letter_fault 35 (word_limit - 1) w)
word_fault fault w = letter_fault 33 fault_limit w
word_fault count w = number_fault node_number_limit w
word_fault target w = number_fault node_number_limit w

-- a word's fault with the word's place, or else what is wrong further on
abbrev pub placed : ℕ → Option ℕ → Option (ℕ × ℕ) → Option (ℕ × ℕ)
placed n None more = more
placed n (Some f) more = Some (f, n)

-- the first fault of the words from place n on; a word that is missing or left over is ill-formed
abbrev pub row_fault : (Due → List ℕ → Option ℕ) → List Due → ℕ → List (List ℕ) → Option (ℕ × ℕ)
row_fault check [] n [] = None
row_fault check [] n (w ∷ ws) = Some (2, n)
row_fault check (d ∷ ds) n [] = Some (2, n)
row_fault check (d ∷ ds) n (w ∷ ws) = placed n (check d w) (row_fault check ds (n + 1) ws)

abbrev pub operand_dues : Kind → List Due
operand_dues kind.Mov = register ∷ value ∷ []
operand_dues (kind.Binary op) = register ∷ value ∷ value ∷ []
operand_dues kind.In = register ∷ []
operand_dues kind.Out = value ∷ []
operand_dues kind.Ld = register ∷ cell ∷ []
operand_dues kind.St = cell ∷ value ∷ []
operand_dues kind.Br = value ∷ []
operand_dues kind.Skip = []
operand_dues kind.Halt = []
operand_dues kind.Fail = fault ∷ []

abbrev pub exit_dues : Exits → List Due
exit_dues exits.None = []
exit_dues exits.One = exactly (codes "->") ∷ target ∷ []
exit_dues exits.Two = exactly (codes "->") ∷ target ∷ target ∷ []

-- past the kind; where no kind is named, the kind's own fault comes first
abbrev pub dues_past : Option Kind → List Due
dues_past None = []
dues_past (Some k) = operand_dues k ++ exit_dues (kind_exits k)

-- the places of a node's line, whose second word names the kind
abbrev pub node_dues : ℕ → List (List ℕ) → List Due
node_dues next ws = label next ∷ name ∷ dues_past (kind_named (slice_index_or ws 1 []))

abbrev pub node_fault : ℕ → List (List ℕ) → Option (ℕ × ℕ)
node_fault next ws = row_fault word_fault (node_dues next ws) 1 ws
