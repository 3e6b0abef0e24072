-- A run under limits is the beginning of the run without them.
use Rattle.std.proofs.Common.{◌≡◌, ℕ, zero, suc, ◌+◌, ◌<◌, ◌≤◌, Bool, true, false, cond, length, get_or, sym, refl, ap, ◌∙◌, subst, add-zero, zero-add, arith}
use Rattle.machine.specs.declared.outcome.Stop.{Stop}
use Rattle.machine.specs.declared.outcome.Stop.TheVariants.{Ended, Spent, Full}
use Rattle.machine.specs.Laws.{GoesOn, StopMeans, LimitedBegins}
use Rattle.machine.specs.Programs.{Prog}
use Rattle.machine.specs.Runs.{Config, running, step, follow, after, entry_of, Report, report, continue, limited, whole, start, fresh}
use Rattle.machine.specs.State.{State}
use Rattle.machine.specs.Step.{Effect, leaves, ends, act, blocked}

-- a run that goes on from c after `steps` steps, with `left` to go, stops m steps later
record Later (p : Prog) (room left steps : ℕ) (c : Config) (r : Report) : Type 0 where
  pub m : ℕ
  pub at : r.steps ≡ steps + m
  pub within : m ≤ left
  pub before : (k : ℕ) → k < m → GoesOn (after p k c)
  pub stops : StopMeans p room left r.stop m r.final (after p m c)

one_more : (p : Prog) (room left m : ℕ) (stop : Stop) (s : State) (c : Config) → StopMeans p room left stop m s c → StopMeans p room (suc left) stop (suc m) s c
one_more p room left m (Ended k) s c h = h
one_more p room left m Spent s c h = (ap suc h.0, h.1)
one_more p room left m Full s c h = (omega (arith, h.0), h.1)

-- nothing is over before the first step, nor later if it is not over after that
on_before : (p : Prog) (n : ℕ) (s : State) (m : ℕ) → ((k : ℕ) → k < m → GoesOn (after p k (step p (running n s)))) → (k : ℕ) → k < suc m → GoesOn (after p k (running n s))
on_before p n s m rest zero h = (n, s, refl)
on_before p n s m rest (suc k) h = rest k (omega arith)

module _ (p : Prog) (room left steps n : ℕ) (s : State) where
  turn : (b : Bool) (f : Effect) → blocked (entry_of p n).node room (length s.written) ≡ b → act (entry_of p n).node s ≡ f → ((k : ℕ) (t : State) → Later p room left (steps + 1) (running k t) (limited p room left (steps + 1) k t)) → Later p room (suc left) steps (running n s) (cond b (report Full steps s) (continue (entry_of p n) (limited p room left (steps + 1)) (steps + 1) f))
  turn true f is-blocked acts rest =
      record { m = 0; at = sym (add-zero steps); within = omega arith; before = λ k h. absurd (omega arith); stops = (omega arith, (n, refl, is-blocked)) }
  turn false (ends k t) is-blocked acts rest =
      record {
        m = 1;
        at = refl;
        within = omega arith;
        before = on_before p n s 0 (λ j h. absurd (omega arith));
        stops = ap (follow (entry_of p n)) acts;
      }
  turn false (leaves e t) is-blocked acts rest =
      let r = limited p room left (steps + 1) (get_or (entry_of p n).targets e 0) t in
      let h = rest (get_or (entry_of p n).targets e 0) t in
      let stepped : step p (running n s) ≡ running (get_or (entry_of p n).targets e 0) t = ap (follow (entry_of p n)) acts in
      record {
        m = suc h.m;
        at = omega (arith, h.at);
        within = omega (arith, h.within);
        before = on_before p n s h.m (subst (λ (c : Config). (k : ℕ) → k < h.m → GoesOn (after p k c)) (sym stepped) h.before);
        stops =
            one_more p room left h.m r.stop r.final (after p h.m (step p (running n s)))
            (subst (λ (c : Config). StopMeans p room left r.stop h.m r.final (after p h.m c)) (sym stepped) h.stops);
      }

later : (p : Prog) (room left steps n : ℕ) (s : State) → Later p room left steps (running n s) (limited p room left steps n s)
later p room zero steps n s =
    record { m = 0; at = sym (add-zero steps); within = omega arith; before = λ k h. absurd (omega arith); stops = (refl, (n, refl)) }
later p room (suc left) steps n s = turn p room left steps n s _ _ refl refl (λ k t. later p room left (steps + 1) k t)

pub limited_begins : (p : Prog) → LimitedBegins p
limited_begins p cells inputs room budget =
    let c = start p cells inputs in
    let r = whole p cells inputs room budget in
    let h = later p room budget 0 p.first (fresh cells inputs) in
    let e : h.m ≡ r.steps = sym (h.at ∙ zero-add h.m) in
    record {
      within = omega (arith, h.within);
      before = λ k l. h.before k (omega arith);
      stops = subst (λ (m : ℕ). StopMeans p room budget r.stop m r.final (after p m c)) e h.stops;
    }
