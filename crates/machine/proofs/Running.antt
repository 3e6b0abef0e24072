-- One turn of a run under limits.
use Rattle.std.proofs.Common.{◌≡◌, ℕ, suc, ◌+◌, ◌-◌, ◌<◌, ◌≤◌, true, false, List, length, get_or, take, drop, sym, ◌∙◌, arith}
use Rattle.std.proofs.lemmas.List.{drop-drop, length-take-le}
use Rattle.machine.specs.declared.node.Entry.{Entry}
use Rattle.machine.specs.declared.outcome.Ending.{Ending}
use Rattle.machine.specs.declared.outcome.Stop.TheVariants.{Ended, Full}
use Rattle.machine.specs.declared.progress.Progress.{Progress}
use Rattle.machine.specs.State.{State}
use Rattle.machine.specs.Step.{act, blocked, leaves, ends}
use Rattle.machine.specs.Programs.{Prog}
use Rattle.machine.specs.Progress.{state_of, GoneOn}
use Rattle.machine.specs.WellFormed.{Sound}
use Rattle.machine.proofs.Exits.{exit_leads}
use Rattle.machine.specs.Runs.{Report, report, limited, entry_of}

-- what holds between the turns: the run from here on is all that is left of the whole run, which began at `g₀`
pub record Going (p : Prog) (count budget : ℕ) (all : Report) (g₀ : Progress) (at steps : ℕ) (g : Progress) : Type 0 where
  pub placed : at < count
  pub gone_on : GoneOn g₀ g
  pub same : limited p (length g₀.output.now) (budget - steps) steps at (state_of g) ≡ all

drop_further : (xs ys : List ℕ) (n m : ℕ) → n ≤ m → drop n xs ≡ drop n ys → drop m xs ≡ drop m ys
drop_further xs ys n m h e =
    let split : n + (m - n) ≡ m = omega arith in
    let x = drop-drop (m - n) n xs in
    let y = drop-drop (m - n) n ys in
    cc

pub gone_further : (g₀ g g' : Progress) → GoneOn g₀ g → GoneOn g g' → GoneOn g₀ g'
gone_further g₀ g g' a b =
    record {
      read = omega arith;
      written = omega arith;
      long = b.long ∙ a.long;
      rest = b.rest ∙ drop_further g.output.now g₀.output.now g.written g'.written b.written a.rest;
      cells = b.cells ∙ a.cells;
      output = b.output ∙ a.output;
    }

one_less : (steps budget : ℕ) → steps < budget → budget - steps ≡ suc (budget - (steps + 1))
one_less steps budget h = omega arith

module _ (p : Prog) (room budget steps n : ℕ) (s : State) where
  turn_full : steps < budget → blocked (entry_of p n).node room (length s.written) ≡ true → limited p room (budget - steps) steps n s ≡ report Full steps s
  turn_full h full = rw (one_less steps budget h, full)

  turn_over : (k : Ending) (t : State) → steps < budget → blocked (entry_of p n).node room (length s.written) ≡ false → act (entry_of p n).node s ≡ ends k t → limited p room (budget - steps) steps n s ≡ report (Ended k) (steps + 1) t
  turn_over k t h room-left acts = rw (one_less steps budget h, room-left, acts)

  turn_left : (e : ℕ) (t : State) → steps < budget → blocked (entry_of p n).node room (length s.written) ≡ false → act (entry_of p n).node s ≡ leaves e t → limited p room (budget - steps) steps n s ≡ limited p room (budget - (steps + 1)) (steps + 1) (get_or (entry_of p n).targets e 0) t
  turn_left e t h room-left acts = rw (one_less steps budget h, room-left, acts)

module _ (p : Prog) (count budget : ℕ) (all : Report) (g₀ : Progress) (at steps : ℕ) (g : Progress) (going : Going p count budget all g₀ at steps g) where
  module _ (entry : Entry) (is : entry_of p at ≡ entry) (less : steps < budget) where
    block : blocked (entry_of p at).node (length g₀.output.now) (length (take g.written g.output.now)) ≡ blocked entry.node (length g.output.now) g.written
    block = rw (is, length-take-le g.written g.output.now g.within, going.gone_on.long)

    pub full : blocked entry.node (length g.output.now) g.written ≡ true → report Full steps (state_of g) ≡ all
    full no_room = sym (turn_full p (length g₀.output.now) budget steps at (state_of g) less (block ∙ no_room)) ∙ going.same

    -- after the node: g'
    module _ (has_room : blocked entry.node (length g.output.now) g.written ≡ false) (g' : Progress) (on : GoneOn g g') where
      pub over : (k : Ending) → act entry.node (state_of g) ≡ ends k (state_of g') → report (Ended k) (steps + 1) (state_of g') ≡ all
      over k acts = sym (turn_over p (length g₀.output.now) budget steps at (state_of g) k (state_of g') less (block ∙ has_room) (rw is acts)) ∙ going.same

      pub next : (e : ℕ) → Sound count entry → act entry.node (state_of g) ≡ leaves e (state_of g') → Going p count budget all g₀ (get_or entry.targets e 0) (steps + 1) g'
      next e good acts =
          record {
            placed = exit_leads count entry (state_of g) (state_of g') e good acts;
            gone_on = gone_further g₀ g g' going.gone_on on;
            same = rw (← is) (sym (turn_left p (length g₀.output.now) budget steps at (state_of g) e (state_of g') less (block ∙ has_room) (rw is acts)) ∙ going.same);
          }
