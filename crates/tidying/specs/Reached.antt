-- The nodes that are reached from the first.
use Rattle.std.specs.Prelude.{◌≡◌, ℕ, ◌<◌, Bool, true, false, cond, ◌↔◌, List, length, replicate, Option, slice_index, slice_index_or, slice_set}
use Rattle.std.specs.Option.{option_map}
use Rattle.machine.specs.declared.node.Exits.{Exits}
use Rattle.machine.specs.declared.node.Exits.TheVariants as exits
use Rattle.machine.specs.Exits.{Has}
use Rattle.machine.specs.Programs.{Prog}
use Rattle.machine.specs.Runs.{entry_of}
use Rattle.machine.specs.WellFormed.{exits_of}
use Rattle.settling.specs.NodeSets.{lowest}
use Rattle.settling.specs.Worklist.{Worklist, worklist, run}

-- some exits lead from the first node to the node
pub data Reached (p : Prog) : ℕ → Type 0 where
  at_first : Reached p p.first
  onward : (n exit : ℕ) → Reached p n → Has (exits_of (entry_of p n).node) exit → Reached p (slice_index (entry_of p n).targets exit)

-- a mark for each node: up just if it is reached
pub record Marks (p : Prog) (marks : List Bool) : Type 0 where
  pub each : length marks ≡ length p.entries
  pub exact : (n : ℕ) → n < length p.entries → (slice_index_or marks n false ≡ true) ↔ Reached p n

-- a node that was not marked is marked, and waits until its exits are followed
abbrev pub spread_to : ℕ → Worklist Bool → Worklist Bool
spread_to n w = cond (slice_index_or w.items n false) w (worklist (slice_set w.items n true) (slice_set w.waiting n true))

abbrev pub spread_over : Exits → List ℕ → Worklist Bool → Worklist Bool
spread_over exits.None targets w = w
spread_over exits.One targets w = spread_to (slice_index targets 0) w
spread_over exits.Two targets w = spread_to (slice_index targets 1) (spread_to (slice_index targets 0) w)

-- the exits of node n are followed
unfoldable pub followed : Prog → ℕ → Worklist Bool → Worklist Bool
followed p n w = spread_over (exits_of (entry_of p n).node) (entry_of p n).targets (worklist w.items (slice_set w.waiting n false))

unfoldable pub spread_next : Prog → Worklist Bool → Option (Worklist Bool)
spread_next p w = option_map (λ n. followed p n w) (lowest w.waiting)

-- the first node is marked and waits
unfoldable pub spread_first : ℕ → ℕ → Worklist Bool
spread_first nodes first = worklist (slice_set (replicate nodes false) first true) (slice_set (replicate nodes false) first true)

-- each node waits at most once, so as many steps as there are nodes suffice
abbrev pub reached_marks : Prog → List Bool
reached_marks p = (run (spread_next p) (length p.entries) (spread_first (length p.entries) p.first)).last.items
