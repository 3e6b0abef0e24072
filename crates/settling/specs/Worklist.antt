-- A list of work, and work that is done step by step while there is a step to take.
use Rattle.std.specs.Prelude.{◌≡◌, ℕ, zero, suc, Bool, List, length, take, Some, None, Option}
use Rattle.settling.specs.declared.node_set.NodeSet.{NodeSet}
use Rattle.settling.specs.NodeSets.{flags}

-- an item for each node, and whether it waits
pub record Worklist (T : Type 0) : Type 0 where
  pub items : List T
  pub waiting : List Bool

abbrev pub worklist : {T : Type 0} → List T → List Bool → Worklist T
worklist items waiting = record { items = items; waiting = waiting }

-- a worklist as the code holds it: the flags of a set, as far as there are nodes
abbrev pub worklist_of : {T : Type 0} → List T → NodeSet → Worklist T
worklist_of items waiting = worklist items (take (length items) (flags waiting))

-- where the steps end, and how many there were
pub record Ended (W : Type 0) : Type 0 where
  pub last : W
  pub steps : ℕ

abbrev pub one_step_more : {W : Type 0} → Ended W → Ended W
one_step_more r = record { last = r.last; steps = suc r.steps }

-- takes steps while there is one, at most n
unfoldable pub run : {W : Type 0} → (W → Option W) → ℕ → W → Ended W
run next zero w = record { last = w; steps = 0 }
run next (suc n) w = elim (next w) [ None ↦ record { last = w; steps = 0 } | Some u ↦ one_step_more (run next n u) ]

-- from w, taking steps while there is one comes to w' after n of them
pub data Comes {W : Type 0} (next : W → Option W) : W → ℕ → W → Type 0 where
  rests : {w : W} → next w ≡ None → Comes next w 0 w
  goes : {w u w' : W} {n : ℕ} → next w ≡ Some u → Comes next u n w' → Comes next w (suc n) w'

-- r is what taking steps from w comes to, and all that it can come to
pub record OnlyOutcome {W : Type 0} (next : W → Option W) (w : W) (r : Ended W) : Type 0 where
  pub comes : Comes next w r.steps r.last
  pub only : (n : ℕ) (w' : W) → Comes next w n w' → (n ≡ r.steps) × (w' ≡ r.last)
