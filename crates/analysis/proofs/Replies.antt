-- What a reply says, and that an exact one keeps the law: what a call shows follows from what it replies.
use Rattle.std.proofs.Common.{◌≡◌, ℕ, Bool, true, false, cond, Option, sym, refl, ap, ◌∙◌, subst}
use Rattle.std.specs.Bool.{then_some}
use Rattle.machine.specs.WellFormed.{is_node}
use Rattle.analysis.specs.Analyses.{MovesOf, MovesShow, Proposed, absent, instead, nodes_of, meant, StartShows, FlowShows, ProposalShows}
use Rattle.analysis.specs.declared.proposal.Proposal.{Proposal}
use Rattle.analysis.specs.Facts.{FactsOf}
use Rattle.machine.specs.declared.node.Node.{Node}

module _ {F : Type 0} {v : FactsOf F} {m : MovesOf F} (sound : MovesShow v m) where
  pub start_shows : {r : F} → r ≡ m.start → StartShows v r
  start_shows e = subst (StartShows v) (sym e) sound.start

  pub flow_shows : (f : F) (n : Node) (e : ℕ) → is_node n ≡ true → {r : F} → r ≡ m.flow f n e → FlowShows v f n e r
  flow_shows f n e h q = subst (FlowShows v f n e) (sym q) (sound.flow f n e h)

  pub proposal_shows : (f : F) (n : Node) → is_node n ≡ true → {r : Proposed} → r ≡ m.proposal f n → ProposalShows v f n r
  proposal_shows f n h q = subst (ProposalShows v f n) (sym q) (sound.proposal f n h)

-- what is proposed if a test passes
pub meant_if : (b : Bool) (p : Proposal) {o : Option Proposal} → o ≡ then_some b p → meant o ≡ cond b (instead (nodes_of p.row) p.way p.set) absent
meant_if b p e = ap meant e ∙ by b
  where
    by : (b : Bool) → meant (then_some b p) ≡ cond b (instead (nodes_of p.row) p.way p.set) absent
    by true = refl
    by false = refl
