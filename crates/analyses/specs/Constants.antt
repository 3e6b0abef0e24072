-- Constants, as a value.
use Rattle.std.specs.Prelude.{◌≡◌, ℕ, Bool, false, cond, ◌||◌, List, [], ◌∷◌, replicate, is_some, Some, None, Option, ◌==◌, nat_lt, slice_index, slice_set}
use Rattle.std.specs.Option.{option_map}
use Rattle.machine.specs.declared.node.Operand.{Operand}
use Rattle.machine.specs.declared.node.Operand.TheVariants.{Reg, Num}
use Rattle.machine.specs.declared.node.Node.{Node}
use Rattle.machine.specs.declared.node.Node.TheVariants.{Mov, Binary, In, Out, Ld, St, Br, Skip, Halt, Fail}
use Rattle.machine.specs.Limits.{register_count, word_limit}
use Rattle.analysis.specs.Analyses.{MovesOf, Proposed, absent, instead}
use Rattle.analysis.specs.Facts.{FactsOf}
use Rattle.analyses.specs.Entries.{Entries, entry_at, entry_facts}
use Rattle.analyses.specs.Folding.{number_of, calculated, folded, folds}
use Rattle.analyses.specs.Operands.{on_operands, any_operand}

abbrev pub Known : Type 0
Known = Entries ℕ

-- the entry of a register is the number that it holds
abbrev pub HasNumber : List ℕ → ℕ → ℕ → Type 0
HasNumber regs i v = slice_index regs i ≡ v

abbrev pub known_facts : FactsOf Known
known_facts = entry_facts ◌==◌ HasNumber

-- an operand, or the number that is known of it; one that is no word is as if absent
abbrev pub numbered : Operand → Option ℕ → Operand
numbered x None = x
numbered x (Some v) = cond (nat_lt v word_limit) (Num v) x

-- a known register is replaced by its number
abbrev pub known_operand : List (Option ℕ) → Operand → Operand
known_operand xs (Reg r) = numbered (Reg r) (entry_at xs r)
known_operand xs (Num v) = Num v

-- the entries after a node
abbrev pub known_after : List (Option ℕ) → Node → List (Option ℕ)
known_after xs (Mov to from) = slice_set xs to (number_of (known_operand xs from))
known_after xs (Binary op to left right) = slice_set xs to (calculated op (known_operand xs left) (known_operand xs right))
known_after xs (In to) = slice_set xs to None
known_after xs (Out from) = xs
known_after xs (Ld to cell) = slice_set xs to None
known_after xs (St cell from) = xs
known_after xs (Br on) = xs
known_after xs Skip = xs
known_after xs Halt = xs
known_after xs (Fail fault) = xs

abbrev pub known_flow : Known → Node → Known
known_flow f n = option_map (λ xs. known_after xs n) f

abbrev pub known_node : List (Option ℕ) → Node → Node
known_node xs n = folded (on_operands (known_operand xs) n)

abbrev pub is_known : List (Option ℕ) → Operand → Bool
is_known xs (Reg r) = is_some (number_of (known_operand xs (Reg r)))
is_known xs (Num v) = false

-- whether known_node makes another node
abbrev pub alters : List (Option ℕ) → Node → Bool
alters xs n = folds n || any_operand (is_known xs) n

-- by analysis 1
abbrev pub known_proposal : Known → Node → Proposed
known_proposal None n = absent
known_proposal (Some xs) n = cond (alters xs n) (instead (known_node xs n ∷ []) 0 2) absent

abbrev pub known_moves : MovesOf Known
known_moves = record {
  start = Some (replicate register_count (Some 0));
  flow = λ f n e. known_flow f n;
  proposal = known_proposal;
}
