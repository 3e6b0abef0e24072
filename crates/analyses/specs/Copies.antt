-- Copies, as a value.
use Rattle.std.specs.Prelude.{◌≡◌, ℕ, zero, suc, Bool, false, cond, List, [], ◌∷◌, ◌++◌, replicate, is_some, Some, None, Option, ◌==◌, slice_index, slice_set}
use Rattle.std.specs.Option.{option_map}
use Rattle.machine.specs.declared.node.Operand.{Operand}
use Rattle.machine.specs.declared.node.Operand.TheVariants.{Reg, Num}
use Rattle.machine.specs.declared.node.Node.{Node}
use Rattle.machine.specs.declared.node.Node.TheVariants.{Mov, Binary, In, Out, Ld, St, Br, Skip, Halt, Fail}
use Rattle.machine.specs.Limits.{register_count}
use Rattle.machine.specs.WellFormed.{is_register}
use Rattle.analysis.specs.Analyses.{MovesOf, Proposed, absent, instead}
use Rattle.analysis.specs.Facts.{FactsOf}
use Rattle.analyses.specs.Entries.{Entries, entry_at, entry_facts}
use Rattle.analyses.specs.Operands.{on_operands, any_operand}

abbrev pub Copied : Type 0
Copied = Entries ℕ

-- the entry of a register is one that holds the same word
abbrev pub SameWord : List ℕ → ℕ → ℕ → Type 0
SameWord regs i a = slice_index regs i ≡ slice_index regs a

abbrev pub copied_facts : FactsOf Copied
copied_facts = entry_facts ◌==◌ SameWord

-- an entry, unless it names register d
abbrev pub without : ℕ → Option ℕ → Option ℕ
without d None = None
without d (Some a) = cond (a == d) None (Some a)

-- the first k entries, without those that name register d
unfoldable pub cleared : ℕ → ℕ → List (Option ℕ) → List (Option ℕ)
cleared zero d xs = []
cleared (suc k) d xs = cleared k d xs ++ (without d (entry_at xs k) ∷ [])

-- register d was written: its old word is gone, and its entry is w
abbrev pub with_source : List (Option ℕ) → ℕ → Option ℕ → List (Option ℕ)
with_source xs d w = slice_set (cleared register_count d xs) d w

abbrev pub copied_move : List (Option ℕ) → ℕ → Operand → List (Option ℕ)
copied_move xs d (Reg a) = cond (a == d) xs (with_source xs d (Some a))
copied_move xs d (Num v) = with_source xs d None

-- the entries after a node
abbrev pub copied_after : List (Option ℕ) → Node → List (Option ℕ)
copied_after xs (Mov to from) = copied_move xs to from
copied_after xs (Binary op to left right) = with_source xs to None
copied_after xs (In to) = with_source xs to None
copied_after xs (Out from) = xs
copied_after xs (Ld to cell) = with_source xs to None
copied_after xs (St cell from) = xs
copied_after xs (Br on) = xs
copied_after xs Skip = xs
copied_after xs Halt = xs
copied_after xs (Fail fault) = xs

abbrev pub copied_flow : Copied → Node → Copied
copied_flow f n = option_map (λ xs. copied_after xs n) f

-- an entry that names no register is as if absent
abbrev pub as_register : Option ℕ → Option ℕ
as_register None = None
as_register (Some a) = cond (is_register a) (Some a) None

abbrev pub source_of : List (Option ℕ) → ℕ → Option ℕ
source_of xs r = as_register (entry_at xs r)

abbrev pub sourced : Operand → Option ℕ → Operand
sourced x None = x
sourced x (Some a) = Reg a

-- a register with an entry is replaced by it
abbrev pub copied_operand : List (Option ℕ) → Operand → Operand
copied_operand xs (Reg r) = sourced (Reg r) (source_of xs r)
copied_operand xs (Num v) = Num v

abbrev pub is_copied : List (Option ℕ) → Operand → Bool
is_copied xs (Reg r) = is_some (source_of xs r)
is_copied xs (Num v) = false

abbrev pub copied_node : List (Option ℕ) → Node → Node
copied_node xs n = on_operands (copied_operand xs) n

-- by analysis 2
abbrev pub copied_proposal : Copied → Node → Proposed
copied_proposal None n = absent
copied_proposal (Some xs) n = cond (any_operand (is_copied xs) n) (instead (copied_node xs n ∷ []) 0 4) absent

abbrev pub copied_moves : MovesOf Copied
copied_moves = record {
  start = Some (replicate register_count None);
  flow = λ f n e. copied_flow f n;
  proposal = copied_proposal;
}
