-- How a laid row runs: as the row does, from where its first node stands to where the old entry leads.
use Rattle.std.proofs.Common.{◌≡◌, ℕ, zero, suc, ◌<◌, ◌≤◌, List, [], ◌∷◌, length, get_or, sym, refl, ap, subst, inl, inr, arith}
use Rattle.machine.specs.declared.node.Entry.{Entry}
use Rattle.machine.specs.declared.node.Exits.{Exits}
use Rattle.machine.specs.declared.node.Exits.TheVariants as exits
use Rattle.machine.specs.declared.node.Node.{Node}
use Rattle.machine.specs.Programs.{Prog}
use Rattle.machine.specs.Runs.{Config, running, entry_of, follow, step, after}
use Rattle.machine.specs.State.{State}
use Rattle.machine.specs.Step.{Effect, leaves, ends, act}
use Rattle.machine.specs.WellFormed.{exits_of}
use Rattle.machine.specs.Exits.{Has}
use Rattle.machine.proofs.Exits.{leaves_has}
use Rattle.analysis.specs.Rows.{onwards, run_row}
use Rattle.rounds.specs.Changes.{targets_for, leading}

-- q comes from c to d in some steps
abbrev pub Arrives : Prog → Config → Config → Type 0
Arrives q c d = (k : ℕ) × (after q k c ≡ d)

-- q runs these nodes in the place of `old` from i on, each standing at `low` or above; without any, i is where `old` leads by the way
abbrev pub Laid : ℕ → Prog → Entry → ℕ → List Node → ℕ → Type 0
Laid low q old way [] i = i ≡ get_or old.targets way 0
Laid low q old way (n ∷ ns) i =
    (low ≤ i) × (i < length q.entries) × ((j : ℕ) × (entry_of q i ≡ leading old n j) × Laid low q old way ns j)

-- the exits that a node has lead on, and where the old entry led
leads_on : (x : Exits) (j : ℕ) (old : List ℕ) → Has x 0 → get_or (targets_for x j old) 0 0 ≡ j
leads_on exits.None j old has = absurd has
leads_on exits.One j old has = refl
leads_on exits.Two j old has = refl

leads_aside : (x : Exits) (j : ℕ) (old : List ℕ) (e : ℕ) → Has x (suc e) → get_or (targets_for x j old) (suc e) 0 ≡ get_or old (suc e) 0
leads_aside exits.None j old e has = absurd has
leads_aside exits.One j old e has = absurd (omega arith)
leads_aside exits.Two j old zero has = refl
leads_aside exits.Two j old (suc e) (inl has) = absurd (omega arith)
leads_aside exits.Two j old (suc e) (inr has) = absurd (omega arith)

module _ (q : Prog) (old : Entry) (n : Node) (j : ℕ) (s : State) (rest : State → Effect)
    (there : (t : State) → Arrives q (running j t) (follow old (rest t))) where
  at_node : (f : Effect) → act n s ≡ f → Arrives q (follow (leading old n j) f) (follow old (onwards f rest))
  at_node (leaves zero t) acts =
      subst (λ (k : ℕ). Arrives q (running k t) (follow old (rest t))) (sym (leads_on (exits_of n) j old.targets (leaves_has n s t 0 acts))) (there t)
  at_node (leaves (suc e) t) acts =
      (0, ap (λ (k : ℕ). running k t) (leads_aside (exits_of n) j old.targets e (leaves_has n s t (suc e) acts)))
  at_node (ends k t) acts = (0, refl)

from_node : (q : Prog) (old : Entry) (way : ℕ) (n : Node) (ns : List Node) (i j : ℕ) →
    entry_of q i ≡ leading old n j → ((t : State) → Arrives q (running j t) (follow old (run_row ns way t))) →
    (s : State) → Arrives q (step q (running i s)) (follow old (run_row (n ∷ ns) way s))
from_node q old way n ns i j e rest s =
    subst (λ (x : Entry). Arrives q (follow x (act x.node s)) (follow old (run_row (n ∷ ns) way s))) (sym e)
    (at_node q old n j s (run_row ns way) rest (act n s) refl)

pub laid_arrives : (low : ℕ) (q : Prog) (old : Entry) (way : ℕ) (ns : List Node) (i : ℕ) →
    Laid low q old way ns i → (s : State) → Arrives q (running i s) (follow old (run_row ns way s))
laid_arrives low q old way [] i l s = (0, ap (λ (k : ℕ). running k s) l)
laid_arrives low q old way (n ∷ ns) i l s =
    let on = from_node q old way n ns i l.2.0 l.2.1 (laid_arrives low q old way ns l.2.0 l.2.2) s in
    (suc on.0, on.1)

-- a row whose first node stands at i runs as the row, in at least one step
pub row_arrives : (low : ℕ) (q : Prog) (old : Entry) (way : ℕ) (n : Node) (ns : List Node) (i j : ℕ) →
    entry_of q i ≡ leading old n j → Laid low q old way ns j → (s : State) → Arrives q (step q (running i s)) (follow old (run_row (n ∷ ns) way s))
row_arrives low q old way n ns i j e l s = from_node q old way n ns i j e (laid_arrives low q old way ns j l) s
