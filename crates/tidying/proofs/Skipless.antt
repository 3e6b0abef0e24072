-- Targets may be sent on to wherever a run gets from them by doing nothing, so past skips.
use Rattle.std.proofs.Common.{◌≡◌, ℕ, zero, suc, ◌+◌, List, length, Some, None, Option, unwrap_or, sym, refl, ap, ◌∙◌, subst}
use Rattle.machine.specs.declared.node.Entry.{Entry}
use Rattle.machine.specs.declared.node.Node.{Node}
use Rattle.machine.specs.Equivalent.{Runnable, Equivalent}
use Rattle.machine.specs.Laws.{ValidAt}
use Rattle.machine.specs.Programs.{Prog, IsProgram}
use Rattle.machine.specs.Runs.{Config, running, ended, entry_of, follow, step, after, start, fresh, unlimited}
use Rattle.machine.specs.State.{State}
use Rattle.machine.specs.Step.{Effect, leaves, ends, act}
use Rattle.machine.proofs.Exits.{leaves_has}
use Rattle.machine.proofs.Simulation.{Alike, Together, after_add, after_step, same_alike, together_equivalent}
use Rattle.machine.proofs.Validity.{valid_run}
use Rattle.tidying.specs.Skips.{landing, following, SkipsTo, past, retargeted, with_targets, skipless}
use Rattle.tidying.proofs.PastLaws.{skip_is, solid_skips, past_below}
use Rattle.tidying.proofs.Targets.{retargeted_at, targets_entry, targets_program}

-- from n the program gets to m, and changes nothing
abbrev pub Idles : Prog → ℕ → ℕ → Type 0
Idles p n m = (s : State) → (k : ℕ) × (after p k (running n s) ≡ running m s)

module _ (p : Prog) (ok : IsProgram p) (f : ℕ → ℕ) (idle : (n : ℕ) → Idles p n (f n)) where
  -- the old program gets by itself to where the new one stands, and shows nothing on the way
  abbrev Behind : Config → Config → Type 0
  Behind c d = ((k : ℕ) × (after p k c ≡ d)) × Alike c d

  behind_after : (e : Entry) (s : State) (o : Effect) → act e.node s ≡ o → Behind (follow e o) (follow (retargeted f e) o)
  behind_after e s (leaves x t) acts =
      subst (λ j. Behind (follow e (leaves x t)) (running j t)) (sym (retargeted_at f e x (leaves_has e.node s t x acts))) (idle _ t, refl)
  behind_after e s (ends k t) acts = ((0, refl), same_alike (ended k t))

  one_step : (d : Config) → ValidAt p d → Behind (step p d) (step (with_targets f p) d)
  one_step (running n s) valid =
      subst (λ (e : Entry). Behind (step p (running n s)) (follow e (act e.node s))) (sym (targets_entry f p n valid.0))
      (behind_after (entry_of p n) s (act (entry_of p n).node s) refl)
  one_step (ended k s) valid = ((0, refl), same_alike (ended k s))

  module _ (cells inputs : List ℕ) where
    -- and the run of the old program comes by there, so that it is at a node of the program
    abbrev Meet : Config → Config → Type 0
    Meet c d = Behind c d × ((m : ℕ) × (unlimited p cells inputs m ≡ d))

    meet : (c d : Config) (m : ℕ) → unlimited p cells inputs m ≡ c → Behind c d → Meet c d
    meet c d m reach behind =
        let k = behind.0.0 in
        (behind, (m + k, after_add p m k (start p cells inputs) ∙ ap (after p k) reach ∙ behind.0.1))

    meets_on : Runnable cells inputs → (c d : Config) → Meet c d → (a : ℕ) × (b : ℕ) × Meet (after p (suc a) c) (after (with_targets f p) (suc b) d)
    meets_on given c d r =
        let k = r.0.0.0 in
        let m = r.1.0 in
        let valid = subst (ValidAt p) r.1.1 (valid_run p ok cells inputs given.0 given.1 given.2 m) in
        let stepped = meet (step p d) (step (with_targets f p) d) (suc m) (after_step p m (start p cells inputs) ∙ ap (step p) r.1.1) (one_step d valid) in
        (k, 0, subst (λ (x : Config). Meet x (step (with_targets f p) d)) (ap (step p) (sym r.0.0.1) ∙ sym (after_step p k c)) stepped)

    together : Runnable cells inputs → Together p (with_targets f p) cells inputs Meet
    together given =
        record {
          begins = meet (start p cells inputs) (start (with_targets f p) cells inputs) 0 refl (idle p.first (fresh cells inputs), refl);
          alike = λ c d r. r.0.1;
          meets = meets_on given;
        }

  pub sent_on_equivalent : Equivalent p (with_targets f p)
  sent_on_equivalent = together_equivalent p (with_targets f p) Meet together

module _ (p : Prog) where
  skips_idle : (k n j : ℕ) → SkipsTo p k n j → Idles p n j
  skips_idle zero n j way s = (0, ap (λ m. running m s) way.1)
  skips_idle (suc k) n j way s =
      let on = skips_idle k (following p n) j way.1 s in
      (suc on.0, ap (λ (node : Node). after p on.0 (follow (entry_of p n) (act node s))) (skip_is (entry_of p n).node way.0) ∙ on.1)

  past_idle : (n : ℕ) → Idles p n (past p n)
  past_idle n = go (landing p n) refl
    where
      go : (o : Option ℕ) → landing p n ≡ o → Idles p n (unwrap_or o n)
      go None e s = (0, refl)
      go (Some j) e s = let way = solid_skips p (length p.entries) n j e in skips_idle way.0 n j way.1 s

  pub skipless_equivalent : IsProgram p → Equivalent p (skipless p)
  skipless_equivalent ok = sent_on_equivalent p ok (past p) past_idle

  pub skipless_program : IsProgram p → IsProgram (skipless p)
  skipless_program ok = targets_program (past p) p (past_below p ok) ok
