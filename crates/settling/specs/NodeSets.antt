-- A set of node numbers as a flag for each number.
use Rattle.std.specs.Prelude.{◌≡◌, ℕ, zero, suc, ◌+◌, ◌/◌, ◌%◌, ◌≤◌, Bool, true, false, List, [], ◌∷◌, ◌++◌, Some, None, Option, ◌==◌, slice_index_or, slice_set}
use Rattle.settling.specs.declared.node_set.NodeSet.{NodeSet}

-- the n lowest bits of a word, the lowest first
abbrev pub bits : ℕ → ℕ → List Bool
bits zero word = []
bits (suc n) word = (word % 2 == 1) ∷ bits n (word / 2)

abbrev pub bits_of : List ℕ → List Bool
bits_of [] = []
bits_of (word ∷ words) = bits 64 word ++ bits_of words

-- whether each number is in the set
abbrev pub flags : NodeSet → List Bool
flags s = bits_of s.words

abbrev pub lowest_from : ℕ → List Bool → Option ℕ
lowest_from i [] = None
lowest_from i (true ∷ rest) = Some i
lowest_from i (false ∷ rest) = lowest_from (i + 1) rest

-- the lowest number whose flag is up
abbrev pub lowest : List Bool → Option ℕ
lowest flags = lowest_from 0 flags

-- without a number, if there is one
abbrev pub without : Option ℕ → List Bool → List Bool
without None flags = flags
without (Some i) flags = slice_set flags i false

-- no number waits but those of nodes
abbrev pub Within : ℕ → NodeSet → Type 0
Within nodes waiting = (k : ℕ) → nodes ≤ k → slice_index_or (flags waiting) k false ≡ false
