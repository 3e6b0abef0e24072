-- Settling comes to rest, and its facts allow every state that a run brings.
use Rattle.std.proofs.Common.{◌≡◌, ℕ, zero, suc, ◌*◌, ◌<◌, ◌≤◌, false, List, [], length, get_or, replicate, Some, None, Option, sym, refl, ap, ◌∙◌, subst, arith}
use Rattle.std.proofs.lemmas.List.{length-replicate, get_or-replicate}
use Rattle.std.proofs.lemmas.List.Elements.{All-nil, All-replicate}
use Rattle.std.specs.Option.{option_map}
use Rattle.machine.specs.Laws.{ValidAt}
use Rattle.machine.specs.Limits.{word_limit}
use Rattle.machine.specs.Programs.{Prog, IsProgram}
use Rattle.machine.specs.Runs.{Config, running, ended, entry_of, follow, step, after, start, fresh}
use Rattle.machine.specs.Step.{Effect, leaves, ends, act}
use Rattle.machine.proofs.Validity.{fresh_valid, valid_run, step_valid}
use Rattle.analysis.specs.Analyses.{MovesOf, MovesShow}
use Rattle.analysis.specs.Facts.{FactsOf, FactsShow, state}
use Rattle.settling.specs.NodeSets.{lowest}
use Rattle.settling.specs.Settling.{fact_at, begun, opening, visited, next, settled, settled_facts, AllowsRuns, Settles}
use Rattle.settling.specs.Worklist.{Worklist}
use Rattle.settling.proofs.Closing.{Closed, Closing, closing_starts, closing_visits, visited_less}
use Rattle.settling.proofs.Lowest.{lowest_waits, lowest_rests}
use Rattle.settling.proofs.Potential.{potential, room_set, room_replicate, waiters_raise, none_waits}
use Rattle.settling.proofs.Runs.{only_outcome, run_out}

module _ {Fact : Type 0} (v : FactsOf Fact) (m : MovesOf Fact) (shown : FactsShow v) (sound : MovesShow v m) (p : Prog) (ok : IsProgram p) where
  -- some state is one in which a run starts, so start is above nowhere
  start_rank : v.rank m.start ≡ 0 → ⊥
  start_rank low =
      let s = fresh (replicate 64 0) [] in
      let word = λ (w : ℕ). w < word_limit in
      let valid = fresh_valid (replicate 64 0) [] refl (All-replicate word 64 0 (omega arith)) (All-nil word) in
      shown.empty m.start (state s) low (sound.start s valid (refl, refl))

  -- what start has risen pays for the first visit
  pub opening_potential : potential v (opening v m p) ≤ length p.entries * v.height
  unfolding begun
  opening_potential =
      let nodes = length p.entries in
      let fs = replicate nodes v.nowhere in
      let within = ok.starts in
      let n : length fs ≡ nodes = length-replicate nodes v.nowhere in
      let high : v.rank m.start ≡ 0 → ⊥ = start_rank in
      let low : v.rank m.start ≤ v.height = shown.low m.start in
      let bottom : v.rank (get_or fs p.first v.nowhere) ≡ 0 = ap v.rank (get_or-replicate nodes p.first v.nowhere v.nowhere within) ∙ shown.bottom in
      let changed = room_set v fs p.first m.start v.nowhere (omega arith) in
      let all = room_replicate v nodes v.nowhere shown.bottom in
      let one = waiters_raise (replicate nodes false) p.first in
      let none = none_waits nodes in
      omega arith

  -- the visit of the lowest waiting node
  pub visit_step : (n : ℕ) (w : Worklist Fact) → Some n ≡ lowest w.waiting → next v m p w ≡ Some (visited v m p n w)
  unfolding next
  visit_step n w low = ap (option_map (λ k. visited v m p k w)) (sym low)

  pub none_left : (w : Worklist Fact) → None ≡ lowest w.waiting → next v m p w ≡ None
  unfolding next
  none_left w none = ap (option_map (λ k. visited v m p k w)) (sym none)

  pub visit_keeps : (n : ℕ) (w : Worklist Fact) → Closing v p w → Some n ≡ lowest w.waiting
      → Closing v p (visited v m p n w) × (potential v (visited v m p n w) < potential v w)
  visit_keeps n w was low =
      let waits = lowest_waits w.waiting n (sym low) in
      let there : n < length p.entries = let e = was.flags in let b = waits.0 in omega arith in
      (closing_visits v m shown sound p ok n there w was, visited_less v m shown sound p ok n there w was.long was.flags waits.1)

  next_keeps : (w u : Worklist Fact) → Closing v p w → next v m p w ≡ Some u → Closing v p u × (potential v u < potential v w)
  unfolding next
  next_keeps w u was steps = go (lowest w.waiting) refl steps
    where
      go : (o : Option ℕ) → lowest w.waiting ≡ o → option_map (λ k. visited v m p k w) o ≡ Some u → Closing v p u × (potential v u < potential v w)
      go None e f = let z : ◌≡◌ {A = ℕ} 0 1 = cc in absurd (omega arith)
      go (Some n) e f =
          let same : visited v m p n w ≡ u = cc in
          subst (λ x. Closing v p x × (potential v x < potential v w)) same (visit_keeps n w was (sym e))

  next_none : (w : Worklist Fact) → next v m p w ≡ None → lowest w.waiting ≡ None
  unfolding next
  next_none w steps = go (lowest w.waiting) steps
    where
      go : (o : Option ℕ) → option_map (λ k. visited v m p k w) o ≡ None → o ≡ None
      go None f = refl
      go (Some n) f = let z : ◌≡◌ {A = ℕ} 0 1 = cc in absurd (omega arith)

  -- along a run
  module _ (facts : List Fact) (closed : (i : ℕ) → i < length p.entries → Closed v p facts i) where
    AllowedAt : Config → Type 0
    AllowedAt (running n s) = v.allows (fact_at v facts n) (state s)
    AllowedAt (ended k s) = Unit {0}

    step_allowed : (c : Config) → ValidAt p c → AllowedAt c → AllowedAt (step p c)
    unfolding AllowedAt
    step_allowed (running n s) valid allowed = go (act (entry_of p n).node s) refl
      where
        go : (e : Effect) → act (entry_of p n).node s ≡ e → AllowedAt (follow (entry_of p n) e)
        go (leaves exit t) acts = closed n valid.0 exit s t valid.1 allowed acts
        go (ends k t) acts = tt
    step_allowed (ended k s) valid allowed = tt

    after_allowed : (n : ℕ) (c : Config) → ValidAt p c → AllowedAt c → AllowedAt (after p n c)
    after_allowed zero c valid allowed = allowed
    after_allowed (suc n) c valid allowed = after_allowed n (step p c) (step_valid p ok c valid) (step_allowed c valid allowed)

  closing_allows : (w : Worklist Fact) → Closing v p w → ((i : ℕ) → get_or w.waiting i false ≡ false) → AllowsRuns v p w.items
  unfolding AllowedAt
  closing_allows w was rests cells inputs given steps n s comes =
      let valid = valid_run p ok cells inputs given.0 given.1 given.2 0 in
      let begins = was.begins (fresh cells inputs) valid.1 (refl, refl) in
      let there = after_allowed w.items (λ i below. was.closed i below (rests i)) steps (start p cells inputs) valid begins in
      subst (AllowedAt w.items (λ i below. was.closed i below (rests i))) comes there

  -- where settling ends, none waits and each node that does not wait is closed
  settled_out : (next v m p (settled v m p).last ≡ None) × Closing v p (settled v m p).last × ((settled v m p).steps ≤ length p.entries * v.height)
  settled_out =
      run_out (next v m p) (potential v) (Closing v p) next_keeps (length p.entries * v.height) (opening v m p) (closing_starts v m shown sound p ok) opening_potential

  pub settled_length : length (settled_facts v m p) ≡ length p.entries
  settled_length = settled_out.1.long

  pub settles : Settles v m p
  settles = record {
    bound = settled_out.2;
    outcome = only_outcome (next v m p) (length p.entries * v.height) (opening v m p) settled_out.0;
    sound = closing_allows (settled v m p).last settled_out.1 (lowest_rests (settled v m p).last.waiting (next_none (settled v m p).last settled_out.0));
  }
