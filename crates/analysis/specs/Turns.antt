-- Deep told turn by turn: a row of entries with their depths, looked at from the left.
use Rattle.std.specs.Prelude.{ℕ, ◌+◌, cond, List, [], ◌∷◌, ◌++◌, map, length, nat_le, nat_lt}
use Rattle.analysis.specs.Analyses.{MovesOf, Proposed, absent, instead}
use Rattle.analysis.specs.Deeps.{Course, kept, taken_up, begun, depth_limit}
use Rattle.analysis.specs.Rows.{row_limit}
use Rattle.machine.specs.declared.node.Node.{Node}

-- what lies behind the place, and the entries from it on
pub record Place (Fact : Type 0) : Type 0 where
  pub behind : Course Fact
  pub entries : List (Node × ℕ)

abbrev pub at_depth : ℕ → Node → Node × ℕ
at_depth d n = (n, d)

-- the node alone as row, at depth 0
abbrev pub begins_at : {Fact : Type 0} → Fact → Node → Place Fact
begins_at f n = record { behind = begun f; entries = (n, 0) ∷ [] }

-- nothing is left to look at
abbrev pub ends_at : {Fact : Type 0} → Course Fact → Place Fact
ends_at c = record { behind = c; entries = [] }

module _ {Fact : Type 0} (m : MovesOf Fact) where
  -- the next is looked at
  abbrev pub passed : Node → List (Node × ℕ) → Course Fact → Place Fact
  passed n rest c = record { behind = kept m n c; entries = rest }

  -- the proposed nodes replace the entry at depth one more, if the row stays within 4 nodes
  abbrev pub offered : Proposed → Node → ℕ → List (Node × ℕ) → Course Fact → Place Fact
  offered absent n d rest c = passed n rest c
  offered (instead row way numbers) n d rest c =
      cond (nat_le (length c.done + length row + length rest) row_limit)
      (record { behind = taken_up n way numbers c; entries = map (at_depth (d + 1)) row ++ rest })
      (passed n rest c)

  abbrev pub turn_at : List (Node × ℕ) → Course Fact → Place Fact
  turn_at [] c = record { behind = c; entries = [] }
  turn_at (e ∷ rest) c = cond (nat_lt e.1 depth_limit) (offered (m.proposal c.fact e.0) e.0 e.1 rest c) (passed e.0 rest c)

  abbrev pub turn : Place Fact → Place Fact
  turn p = turn_at p.entries p.behind

  -- some turns lead from one place to another
  pub data Turns : Place Fact → Place Fact → Type 0 where
    there : {p : Place Fact} → Turns p p
    on : {p q : Place Fact} → Turns (turn p) q → Turns p q
