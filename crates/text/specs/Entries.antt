-- The nodes that a text can spell.
use Rattle.std.specs.Prelude.{◌≡◌, ℕ, ◌≤◌, List, [], ◌∷◌, Some, None, Result, MatchResult, ◌≢◌}
use Rattle.text.specs.declared.refusal.LineRefusal.{LineRefusal}
use Rattle.machine.specs.declared.node.Entry.{Entry}
use Rattle.machine.specs.declared.node.Exits.{Exits}
use Rattle.machine.specs.declared.node.Exits.TheVariants as exits
use Rattle.text.specs.Print.{entry_words}
use Rattle.machine.specs.Limits.{node_limit}
use Rattle.machine.specs.WellFormed.{exits_of}
use Rattle.text.specs.Rows.{node_fault}
use Rattle.machine.specs.declared.node.Node.{Node}
use Rattle.machine.specs.declared.node.Node.TheVariants.{Mov, Binary, In, Out, Ld, St, Br, Skip, Halt, Fail}
use Rattle.text.specs.RowReads.{line_told}
use Rattle.text.specs.WordReads.{OperandFits}

-- registers, cells, numbers and faults are in range
abbrev pub NodeFits : Node → Type 0
NodeFits (Mov to from) = (to ≤ 7) × OperandFits from
NodeFits (Binary op to left right) = (to ≤ 7) × OperandFits left × OperandFits right
NodeFits (In to) = to ≤ 7
NodeFits (Out from) = OperandFits from
NodeFits (Ld to cell) = (to ≤ 7) × (cell ≤ 63)
NodeFits (St cell from) = (cell ≤ 63) × OperandFits from
NodeFits (Br on) = OperandFits on
NodeFits Skip = Unit {0}
NodeFits Halt = Unit {0}
NodeFits (Fail fault) = fault ≤ 255

-- an exit that a node has not is 0
abbrev pub TargetsFit : Exits → List ℕ → Type 0
TargetsFit exits.None ts = ts ≡ 0 ∷ 0 ∷ []
TargetsFit exits.One ts = (a : ℕ) × (a ≤ 255) × (ts ≡ a ∷ 0 ∷ [])
TargetsFit exits.Two ts = (a : ℕ) × (b : ℕ) × (a ≤ 255) × (b ≤ 255) × (ts ≡ a ∷ b ∷ [])

abbrev pub EntryFits : Entry → Type 0
EntryFits e = NodeFits e.node × TargetsFit (exits_of e.node) e.targets

-- r is the node that the words spell at the number `next`, or the first fault
abbrev pub EntryRead : ℕ → List (List ℕ) → Result Entry LineRefusal → Type 0
EntryRead next ws r =
    MatchResult r (λ e. (ws ≡ entry_words next e) × (node_fault next ws ≡ None) × EntryFits e × (next ≢ node_limit)) (λ f. node_fault next ws ≡ Some (line_told f))
