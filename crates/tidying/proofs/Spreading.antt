-- What the code's steps come to in marking.
use Rattle.std.proofs.Common.{◌≡◌, ℕ, ◌+◌, ◌-◌, ◌^◌, ◌<◌, min, Bool, true, false, List, length, set, replicate, Some, None, sym, refl, ap, ◌∙◌, subst, arith}
use Rattle.machine.specs.Programs.{Prog, IsProgram}
use Rattle.machine.specs.Runs.{entry_of}
use Rattle.machine.specs.WellFormed.{exits_of}
use Rattle.settling.specs.Worklist.{Worklist, worklist}
use Rattle.settling.specs.NodeSets.{lowest, without}
use Rattle.machine.proofs.Entries.{sound_parts}
use Rattle.machine.proofs.Exits.{leads_has}
use Rattle.tidying.specs.Targets.{TargetsBelow}
use Rattle.settling.proofs.Lowest.{lowest_waits}
use Rattle.settling.proofs.Runs as runs
use Rattle.tidying.specs.Reached.{spread_over, followed, spread_next, spread_first, reached_marks}
use Rattle.tidying.proofs.Marked.{Spreading, left, follow_step, none_left, spreading_starts, first_left, followed_keeps}

-- the first node is marked, where none was
pub first_is : (nodes first : ℕ) (ms : List Bool) → ms ≡ replicate nodes false → length ms ≡ nodes
    → (w w' : Worklist Bool) → w ≡ worklist ms (replicate (length ms) false) → w' ≡ worklist (set w.items first true) (set w.waiting first true)
    → w' ≡ spread_first nodes first
unfolding spread_first
first_is nodes first ms still long w w' new put = cc

-- what every turn of the marking keeps
pub record Going (p : Prog) (w : Worklist Bool) : Type 0 where
  pub counted : ℕ
  pub going : runs.Going (spread_next p) (length p.entries) (spread_first (length p.entries) p.first) left counted w
  pub spreading : Spreading p w

module _ (p : Prog) (ok : IsProgram p) where
  pub going_starts : (w : Worklist Bool) (nodes : ℕ) → w ≡ spread_first nodes p.first → nodes ≡ length p.entries → Going p w
  going_starts w nodes is each =
      let opens : w ≡ spread_first (length p.entries) p.first = is ∙ ap (λ n. spread_first n p.first) each in
      record {
        counted = 0;
        going = rw opens (runs.going_starts (spread_next p) _ _ left (first_left p ok));
        spreading = rw opens (spreading_starts p ok);
      }

  module _ (w : Worklist Bool) (was : Going p w) where
    pub marks_reached : None ≡ lowest w.waiting → (taken : Worklist Bool) → taken ≡ worklist w.items (without None w.waiting) → taken.items ≡ reached_marks p
    marks_reached none taken rested =
        let done = runs.going_ends (spread_next p) _ _ left was.counted w was.going (none_left p w none) in
        ap (λ u. u.items) rested ∙ ap (λ u. u.items) done.last

    -- node n is taken from those that wait
    module _ (n : ℕ) (low : Some n ≡ lowest w.waiting) (taken : Worklist Bool) (rested : taken ≡ worklist w.items (without (Some n) w.waiting)) where
      pub node_there : n < length p.entries
      node_there = let waits = lowest_waits w.waiting n (sym low) in let flagged = was.spreading.flags in omega (arith, waits.0)

      pub targets_there : TargetsBelow (length taken.items) (entry_of p n)
      targets_there exit has =
          let leads = (sound_parts (length p.entries) (entry_of p n) (ok.sound n node_there)).leads in
          let below = leads_has (length p.entries) (exits_of (entry_of p n).node) (entry_of p n).targets exit leads has in
          let long = was.spreading.long in
          rw rested (omega arith)

      module _ (w' : Worklist Bool) (is : w' ≡ spread_over (exits_of (entry_of p n).node) (entry_of p n).targets taken) where
        followed_is : w' ≡ followed p n w
        unfolding followed
        followed_is = is ∙ ap (spread_over (exits_of (entry_of p n).node) (entry_of p n).targets) rested

        keeps : Spreading p (followed p n w) × (left (followed p n w) < left w)
        keeps = followed_keeps p ok n w was.spreading low

        pub going_less : left w' < left w
        going_less = subst (λ u. left u < left w) (sym followed_is) keeps.1

        pub going_follows : Going p w'
        going_follows = record {
          counted = min (was.counted + 1) (2 ^ 32 - 1);
          going = runs.going_on (spread_next p) _ _ left was.counted _ w w' was.going (follow_step p n w low ∙ ap Some (sym followed_is)) going_less refl;
          spreading = subst (Spreading p) (sym followed_is) keeps.0;
        }
