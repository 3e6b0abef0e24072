-- The loop of settling.
use Rattle.std.proofs.Common.{◌≡◌, ℕ, ◌+◌, ◌-◌, ◌*◌, ◌^◌, ◌<◌, min, length, Some, None, sym, ap, ◌∙◌, subst, arith}
use Rattle.machine.specs.Programs.{Prog, IsProgram}
use Rattle.machine.specs.Runs.{entry_of}
use Rattle.machine.specs.WellFormed.{exits_of}
use Rattle.analysis.specs.Analyses.{MovesOf, MovesShow}
use Rattle.analysis.specs.Facts.{FactsOf, FactsShow}
use Rattle.settling.specs.NodeSets.{lowest, without}
use Rattle.settling.specs.Settling.{fact_at, over_exits, begun, opening, visited, next, settled_facts}
use Rattle.settling.specs.Worklist.{Worklist, worklist}
use Rattle.settling.proofs.Closing.{Closing, closing_starts}
use Rattle.settling.proofs.Lowest.{lowest_waits}
use Rattle.settling.proofs.Potential.{potential}
use Rattle.settling.proofs.Settled.{opening_potential, visit_step, visit_keeps, none_left}
use Rattle.settling.proofs.Runs as runs

-- what every turn of the loop keeps
pub record Going {Fact : Type 0} (v : FactsOf Fact) (m : MovesOf Fact) (p : Prog) (counted : ℕ) (w : Worklist Fact) : Type 0 where
  pub steps : runs.Going (next v m p) (length p.entries * v.height) (opening v m p) (potential v) counted w
  pub closing : Closing v p w

module _ {Fact : Type 0} (v : FactsOf Fact) (m : MovesOf Fact) (shown : FactsShow v) (sound : MovesShow v m) (p : Prog) (ok : IsProgram p) where
  pub going_starts : (w : Worklist Fact) (nodes first : ℕ) → w ≡ begun v m nodes first → nodes ≡ length p.entries → first ≡ p.first → Going v m p 0 w
  going_starts w nodes first is each starts =
      let opens : w ≡ opening v m p = is ∙ ap (λ n. begun v m n first) each ∙ ap (begun v m (length p.entries)) starts in
      record {
        steps = rw opens (runs.going_starts (next v m p) _ _ (potential v) (opening_potential v m shown sound p ok));
        closing = rw opens (closing_starts v m shown sound p ok);
      }

  module _ (counted : ℕ) (w : Worklist Fact) (was : Going v m p counted w) where
    pub none_waits : None ≡ lowest w.waiting → runs.Done (next v m p) (length p.entries * v.height) (opening v m p) counted w
    none_waits none = runs.going_ends (next v m p) _ _ (potential v) counted w was.steps (none_left v m shown sound p ok w none)

    pub facts_settled : None ≡ lowest w.waiting → (taken : Worklist Fact) → taken ≡ worklist w.items (without None w.waiting) → taken.items ≡ settled_facts v m p
    facts_settled none taken rested = ap (λ u. u.items) rested ∙ ap (λ u. u.items) (none_waits none).last

    -- node n is taken from those that wait
    module _ (n : ℕ) (low : Some n ≡ lowest w.waiting) where
      module _ (taken : Worklist Fact) (rested : taken ≡ worklist w.items (without (Some n) w.waiting)) where
        pub node_there : n < length taken.items
        node_there =
            let waits = lowest_waits w.waiting n (sym low) in
            let flagged = was.closing.flags in
            let long = was.closing.long in
            rw rested (omega (arith, waits.0))

        module _ (w' : Worklist Fact) (is : w' ≡ over_exits v m (exits_of (entry_of p n).node) (entry_of p n) (fact_at v taken.items n) taken) where
          visited_is : w' ≡ visited v m p n w
          unfolding visited
          visited_is = is ∙ ap (λ u. over_exits v m (exits_of (entry_of p n).node) (entry_of p n) (fact_at v u.items n) u) rested

          pub going_less : potential v w' < potential v w
          going_less = subst (λ u. potential v u < potential v w) (sym visited_is) (visit_keeps v m shown sound p ok n w was.closing low).1

          pub going_visits : (counted' : ℕ) → counted' ≡ min (counted + 1) (2 ^ 32 - 1) → Going v m p counted' w'
          going_visits counted' one_more = record {
            steps = runs.going_on (next v m p) _ _ (potential v) counted counted' w w' was.steps
                (visit_step v m shown sound p ok n w low ∙ ap Some (sym visited_is)) going_less one_more;
            closing = subst (Closing v p) (sym visited_is) (visit_keeps v m shown sound p ok n w was.closing low).0;
          }
