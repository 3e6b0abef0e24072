-- An analysis as a value, and what it must show.
use Rattle.std.specs.Prelude.{◌≡◌, ℕ, true, List, [], take, replicate, Some, None, Option}
use Rattle.machine.specs.declared.node.Node.{Node}
use Rattle.machine.specs.Limits.{register_count}
use Rattle.machine.specs.State.{State, Valid}
use Rattle.machine.specs.Step.{leaves, act}
use Rattle.machine.specs.WellFormed.{is_node}
use Rattle.analysis.specs.declared.proposal.Proposal.{Proposal}
use Rattle.analysis.specs.declared.proposal.Row.{Row}
use Rattle.analysis.specs.Facts.{FactsOf, state}
use Rattle.analysis.specs.Rows.{run_row, is_proposal}

-- what is proposed for a node: nothing, or a row with its way and the set of analyses that had a part in it
pub data Proposed : Type 0 where
  absent : Proposed
  instead : (row : List Node) (way numbers : ℕ) → Proposed

pub record MovesOf (Fact : Type 0) : Type 0 where
  pub start : Fact
  pub flow : Fact → Node → ℕ → Fact
  pub proposal : Fact → Node → Proposed

-- a run starts with all registers 0 and nothing written
abbrev pub Fresh : State → Type 0
Fresh s = (s.regs ≡ replicate register_count 0) × (s.written ≡ [])

abbrev pub StartShows : {Fact : Type 0} → FactsOf Fact → Fact → Type 0
StartShows v r = (s : State) → Valid s → Fresh s → v.allows r (state s)

-- r allows each state in which the node, run from a state that f allows, leaves by the exit
abbrev pub FlowShows : {Fact : Type 0} → FactsOf Fact → Fact → Node → ℕ → Fact → Type 0
FlowShows v f n exit r = (s t : State) → Valid s → v.allows f (state s) → act n s ≡ leaves exit t → v.allows r (state t)

-- a row in form that acts as the node from each state that f allows: same exit or ending, same state after
abbrev pub ProposalShows : {Fact : Type 0} → FactsOf Fact → Fact → Node → Proposed → Type 0
ProposalShows v f n absent = Unit {0}
ProposalShows v f n (instead row way numbers) =
    (is_proposal n row way numbers ≡ true) × ((s : State) → Valid s → v.allows f (state s) → act n s ≡ run_row row way s)

pub record MovesShow {Fact : Type 0} (v : FactsOf Fact) (m : MovesOf Fact) : Type 0 where
  pub start : StartShows v m.start
  pub flow : (f : Fact) (n : Node) (exit : ℕ) → is_node n ≡ true → FlowShows v f n exit (m.flow f n exit)
  pub proposal : (f : Fact) (n : Node) → is_node n ≡ true → ProposalShows v f n (m.proposal f n)

-- the nodes of a row of the code
abbrev pub nodes_of : Row → List Node
nodes_of r = take r.len r.nodes

-- what the code proposes
abbrev pub meant : Option Proposal → Proposed
meant None = absent
meant (Some p) = instead (nodes_of p.row) p.way p.set
