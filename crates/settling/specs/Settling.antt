-- Settling: Kildall's procedure, for any analysis.
use Rattle.std.specs.Prelude.{◌≡◌, ℕ, ◌-◌, ◌*◌, ◌^◌, ◌≤◌, min, true, false, cond, List, [], ◌∷◌, ◌++◌, length, drop, replicate, Ok, Err, Option, Result, nat_le, slice_index, slice_index_or, slice_set}
use Rattle.std.specs.Option.{option_map}
use Rattle.machine.specs.declared.node.Entry.{Entry}
use Rattle.machine.specs.declared.node.Exits.{Exits}
use Rattle.machine.specs.declared.node.Exits.TheVariants as exits
use Rattle.machine.specs.Equivalent.{Runnable}
use Rattle.machine.specs.Programs.{Prog}
use Rattle.machine.specs.Reasons.{Reason, reason}
use Rattle.machine.specs.Runs.{running, entry_of, unlimited}
use Rattle.machine.specs.State.{State}
use Rattle.machine.specs.WellFormed.{exits_of}
use Rattle.analysis.specs.Analyses.{MovesOf}
use Rattle.analysis.specs.Facts.{FactsOf, state}
use Rattle.analysis.specs.Pairs.{is_nowhere}
use Rattle.settling.specs.declared.settle.ShortTable.{ShortTable}
use Rattle.settling.specs.NodeSets.{lowest}
use Rattle.settling.specs.Worklist.{Worklist, worklist, Ended, run, OnlyOutcome}

module _ {Fact : Type 0} (v : FactsOf Fact) where
  abbrev pub fact_at : List Fact → ℕ → Fact
  fact_at facts n = slice_index_or facts n v.nowhere

  -- every state that a run of the program can bring to a node is allowed by the node's fact
  abbrev pub AllowsRuns : Prog → List Fact → Type 0
  AllowsRuns p facts =
      (cells inputs : List ℕ) → Runnable cells inputs → (steps n : ℕ) (s : State) →
      unlimited p cells inputs steps ≡ running n s → v.allows (fact_at facts n) (state s)

  -- g is joined into the fact of node t, which waits if its fact rose
  unfoldable pub joined_at : ℕ → Fact → Worklist Fact → Worklist Fact
  joined_at t g w =
      worklist (slice_set w.items t (v.joined (fact_at w.items t) g))
      (cond (v.rises (fact_at w.items t) g) (slice_set w.waiting t true) w.waiting)

  -- g comes to node t: it is joined into the fact there, unless it is nowhere
  unfoldable pub arrived_at : ℕ → Fact → Worklist Fact → Worklist Fact
  arrived_at t g w = cond (is_nowhere v g) w (joined_at t g w)

module _ {Fact : Type 0} (v : FactsOf Fact) (m : MovesOf Fact) where
  -- f flows over an exit of the entry, to its target
  abbrev pub crossed : Entry → Fact → ℕ → Worklist Fact → Worklist Fact
  crossed entry f exit w = arrived_at v (slice_index entry.targets exit) (m.flow f entry.node exit) w

  -- over each exit that there is, exit 0 first
  abbrev pub over_exits : Exits → Entry → Fact → Worklist Fact → Worklist Fact
  over_exits exits.None entry f w = w
  over_exits exits.One entry f w = crossed entry f 0 w
  over_exits exits.Two entry f w = crossed entry f 1 (crossed entry f 0 w)

  -- all nodes start nowhere; the first gets start and waits
  unfoldable pub begun : ℕ → ℕ → Worklist Fact
  begun nodes first = worklist (slice_set (replicate nodes v.nowhere) first m.start) (slice_set (replicate nodes false) first true)

  -- node n stops waiting and is visited: its fact, as the visit began, flows over its exits
  unfoldable pub visited : Prog → ℕ → Worklist Fact → Worklist Fact
  visited p n w = over_exits (exits_of (entry_of p n).node) (entry_of p n) (fact_at v w.items n) (worklist w.items (slice_set w.waiting n false))

  -- the lowest waiting node is visited, if one waits
  unfoldable pub next : Prog → Worklist Fact → Option (Worklist Fact)
  next p w = option_map (λ n. visited p n w) (lowest w.waiting)

  abbrev pub opening : Prog → Worklist Fact
  opening p = begun (length p.entries) p.first

  -- where settling ends, and after how many visits; as many as nodes times height always suffice (`Settles`)
  abbrev pub settled : Prog → Ended (Worklist Fact)
  settled p = run (next p) (length p.entries * v.height) (opening p)

  abbrev pub settled_facts : Prog → List Fact
  settled_facts p = (settled p).last.items

  -- the visits as they are told: the count stands still at the largest word
  abbrev pub visits_told : Prog → ℕ
  visits_told p = min (settled p).steps (2 ^ 32 - 1)

  -- settling takes at most nodes times height visits, can come to nothing else, and its facts allow what runs bring
  pub record Settles (p : Prog) : Type 0 where
    pub bound : (settled p).steps ≤ length p.entries * v.height
    pub outcome : OnlyOutcome (next p) (opening p) (settled p)
    pub sound : AllowsRuns v p (settled_facts p)

  -- a table after settling: it begins with the settled facts, and the rest is as it was
  abbrev pub table_after : Prog → List Fact → List Fact
  table_after p table = settled_facts p ++ drop (length p.entries) table

  -- what a caller of `settle` finds: a table shorter than the nodes is refused and left as it is
  pub record SettleCall (p : Prog) (before : List Fact) (r : Result ℕ Reason) (after : List Fact) : Type 0 where
    pub told : r ≡ cond (nat_le (length p.entries) (length before)) (Ok (visits_told p)) (Err (reason 8 (length p.entries ∷ [])))
    pub facts : after ≡ cond (nat_le (length p.entries) (length before)) (table_after p before) before

abbrev pub numbered : Result ℕ ShortTable → Result ℕ Reason
numbered (Ok visits) = Ok visits
numbered (Err e) = Err (reason 8 (e.nodes ∷ []))
