-- Deep of an analysis, as a value: a row is rewritten from the left, by the proposals for its entries.
use Rattle.std.specs.Prelude.{ℕ, zero, suc, ◌+◌, Bool, true, false, cond, List, [], ◌∷◌, ◌++◌, length, ◌==◌, bit_or, nat_le}
use Rattle.machine.specs.declared.node.Exits.{Exits}
use Rattle.machine.specs.declared.node.Exits.TheVariants as exits
use Rattle.machine.specs.declared.node.Node.{Node}
use Rattle.machine.specs.declared.node.Node.TheVariants.{Skip}
use Rattle.machine.specs.WellFormed.{exits_of}
use Rattle.analysis.specs.declared.deep.Walk.{Walk}
use Rattle.analysis.specs.Analyses.{MovesOf, Proposed, absent, instead, nodes_of}
use Rattle.analysis.specs.Facts.{FactsOf}
use Rattle.analysis.specs.Rows.{row_limit}

-- entries are replaced at depths below this
abbrev pub depth_limit : ℕ
depth_limit = 3

-- how far the rewriting has come: the fact at the place looked at, the finished nodes before it, the row's way, the union of the sets, and whether anything was replaced
pub record Course (Fact : Type 0) : Type 0 where
  pub fact : Fact
  pub done : List Node
  pub way : ℕ
  pub numbers : ℕ
  pub replaced : Bool

-- a way proposed for a branch becomes the row's
abbrev pub way_after : Exits → ℕ → ℕ → ℕ
way_after exits.One old new = old
way_after exits.Two old new = new
way_after exits.None old new = old

abbrev pub taken_up : {Fact : Type 0} → Node → ℕ → ℕ → Course Fact → Course Fact
taken_up n way numbers c = record {
  fact = c.fact;
  done = c.done;
  way = way_after (exits_of n) c.way way;
  numbers = bit_or c.numbers numbers;
  replaced = true;
}

-- the last node of a row
abbrev pub last_of : Node → List Node → Node
last_of n [] = n
last_of n (x ∷ rest) = last_of x rest

abbrev pub begun : {Fact : Type 0} → Fact → Course Fact
begun f = record { fact = f; done = []; way = 0; numbers = 0; replaced = false }

module _ {Fact : Type 0} (m : MovesOf Fact) where
  -- the fact flows over a straight entry
  abbrev pub fact_past : Exits → Fact → Node → Fact
  fact_past exits.One f n = m.flow f n 0
  fact_past exits.Two f n = f
  fact_past exits.None f n = f

  -- the entry stays, and the next is looked at
  abbrev pub kept : Node → Course Fact → Course Fact
  kept n c = record {
    fact = fact_past (exits_of n) c.fact n;
    done = c.done ++ (n ∷ []);
    way = c.way;
    numbers = c.numbers;
    replaced = c.replaced;
  }

  -- each entry of a row in turn, with as many entries waiting behind the row
  abbrev pub each : (Node → ℕ → Course Fact → Course Fact) → List Node → ℕ → Course Fact → Course Fact
  each look [] waiting c = c
  each look (n ∷ rest) waiting c = each look rest waiting (look n (length rest + waiting) c)

  -- the proposed nodes replace the entry if the row stays within 4 nodes
  abbrev pub tried : (Node → ℕ → Course Fact → Course Fact) → Proposed → Node → ℕ → Course Fact → Course Fact
  tried look absent n waiting c = kept n c
  tried look (instead row way numbers) n waiting c =
      cond (nat_le (length c.done + length row + waiting) row_limit) (each look row waiting (taken_up n way numbers c)) (kept n c)

  -- an entry that may be replaced so many levels deep
  unfoldable pub looked : ℕ → Node → ℕ → Course Fact → Course Fact
  looked zero n waiting c = kept n c
  looked (suc levels) n waiting c = tried (looked levels) (m.proposal c.fact n) n waiting c

  abbrev pub course : Fact → Node → Course Fact
  course f n = looked depth_limit n 0 (begun f)

  -- the fact at the row's end for the way, or the flow over a last branch; nowhere for an exit not taken
  abbrev pub fact_by : FactsOf Fact → Exits → Course Fact → ℕ → Fact
  fact_by v exits.One c e = cond (e == c.way) c.fact v.nowhere
  fact_by v exits.Two c e = m.flow c.fact (last_of Skip c.done) e
  fact_by v exits.None c e = v.nowhere

  abbrev pub fact_at : FactsOf Fact → Course Fact → ℕ → Fact
  fact_at v c e = fact_by v (exits_of (last_of Skip c.done)) c e

  abbrev pub proposed_by : Course Fact → Proposed
  proposed_by c = cond c.replaced (instead c.done c.way c.numbers) absent

  abbrev pub deep_moves : FactsOf Fact → MovesOf Fact
  deep_moves v = record {
    start = m.start;
    flow = λ f n e. fact_at v (course f n) e;
    proposal = λ f n. proposed_by (course f n);
  }

-- what a walk in the program's hands says
abbrev pub course_of : {Fact : Type 0} → Walk Fact → Course Fact
course_of w = record { fact = w.fact; done = nodes_of w.row; way = w.way; numbers = w.set; replaced = w.replaced }
