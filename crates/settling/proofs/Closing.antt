-- Why the settled facts allow what runs bring: each node that does not wait is closed.
use Rattle.std.proofs.Common.{◌≡◌, ℕ, zero, suc, ◌<◌, true, false, List, length, get_or, set, replicate, sym, refl, ◌∙◌, subst, inl, inr, arith}
use borrow.Author.Tests.{both_ways}
use Rattle.std.proofs.lemmas.List.{length-set, length-replicate, get_or-set_same, get_or-set_other, get_or-replicate}
use Rattle.std.proofs.lemmas.Bool.{cases_eq}
use Rattle.machine.specs.declared.node.Exits.{Exits}
use Rattle.machine.specs.declared.node.Exits.TheVariants as exits
use Rattle.machine.specs.Programs.{Prog, IsProgram}
use Rattle.machine.specs.Runs.{entry_of}
use Rattle.machine.specs.State.{State, Valid}
use Rattle.machine.specs.Step.{act, leaves}
use Rattle.machine.specs.WellFormed.{exits_of}
use Rattle.machine.proofs.Entries.{sound_parts}
use Rattle.machine.specs.Exits.{Has}
use Rattle.machine.proofs.Exits.{leads_has, leaves_has}
use Rattle.analysis.specs.Analyses.{MovesOf, MovesShow, Fresh}
use Rattle.analysis.specs.Facts.{FactsOf, FactsShow, Point, state}
use Rattle.settling.specs.Settling.{fact_at, arrived_at, over_exits, begun, opening, visited}
use Rattle.settling.specs.Worklist.{Worklist, worklist}
use Rattle.settling.proofs.Onward.{Onward, onward_none, onward_both, arrived_onward, arrived_allows}
use Rattle.settling.proofs.Potential.{potential, waiters_rest}

-- every state that is allowed at node i and leaves it is allowed at the target
abbrev pub Closed : {Fact : Type 0} → FactsOf Fact → Prog → List Fact → ℕ → Type 0
Closed v p facts i =
    (exit : ℕ) (s t : State) → Valid s → v.allows (fact_at v facts i) (state s) → act (entry_of p i).node s ≡ leaves exit t
    → v.allows (fact_at v facts (get_or (entry_of p i).targets exit 0)) (state t)

pub record Closing {Fact : Type 0} (v : FactsOf Fact) (p : Prog) (w : Worklist Fact) : Type 0 where
  pub long : length w.items ≡ length p.entries
  pub flags : length w.waiting ≡ length p.entries
  pub begins : (s : State) → Valid s → Fresh s → v.allows (fact_at v w.items p.first) (state s)
  pub closed : (i : ℕ) → i < length p.entries → get_or w.waiting i false ≡ false → Closed v p w.items i

module _ {Fact : Type 0} (v : FactsOf Fact) (m : MovesOf Fact) (shown : FactsShow v) (sound : MovesShow v m) (p : Prog) (ok : IsProgram p) where
  pub closing_starts : Closing v p (opening v m p)
  unfolding begun
  closing_starts =
      let nodes = length p.entries in
      let first = p.first in
      let fs = replicate nodes v.nowhere in
      let ws = replicate nodes false in
      let n : length fs ≡ nodes = length-replicate nodes v.nowhere in
      let k : length ws ≡ nodes = length-replicate nodes false in
      let within = ok.starts in
      record {
        long = length-set fs first m.start ∙ n;
        flags = length-set ws first true ∙ k;
        begins = λ s valid fresh. rw (get_or-set_same fs first m.start v.nowhere (omega arith)) (sound.start s valid fresh);
        closed = λ i there rests exit s t valid allowed acts. elim (cases_eq i first) [
          | inl e ↦ absurd (both_ways (get_or (set ws first true) i false) rests (rw e (get_or-set_same ws first true false (omega arith))))
          | inr ne ↦ let e : get_or (set fs first m.start) i v.nowhere ≡ v.nowhere =
              get_or-set_other fs first i m.start v.nowhere ne ∙ get_or-replicate nodes i v.nowhere v.nowhere there in
              absurd (shown.empty v.nowhere (state s) shown.bottom (rw e at allowed))
        ];
      }

  module _ (i : ℕ) (there : i < length p.entries) (w : Worklist Fact) (long : length w.items ≡ length p.entries) (flags : length w.waiting ≡ length p.entries) where
    rested : Worklist Fact
    rested = worklist w.items (set w.waiting i false)

    over : ℕ → Worklist Fact → Worklist Fact
    over exit u = arrived_at v (get_or (entry_of p i).targets exit 0) (m.flow (fact_at v w.items i) (entry_of p i).node exit) u

    -- both lists have a place for each node
    record Sized (u : Worklist Fact) : Type 0 where
      pub each : length u.items ≡ length p.entries
      pub marks : length u.waiting ≡ length p.entries

    sized_on : {u u' : Worklist Fact} → Sized u → Onward v u u' → Sized u'
    sized_on was on = record { each = on.long ∙ was.each; marks = on.flags ∙ was.marks }

    sized_rested : Sized rested
    unfolding rested
    sized_rested = record { each = long; marks = length-set w.waiting i false ∙ flags }

    led : (exit : ℕ) → Has (exits_of (entry_of p i).node) exit → get_or (entry_of p i).targets exit 0 < length p.entries
    led exit has =
        leads_has (length p.entries) (exits_of (entry_of p i).node) (entry_of p i).targets exit (sound_parts (length p.entries) (entry_of p i) (ok.sound i there)).leads has

    over_onward : (exit : ℕ) → get_or (entry_of p i).targets exit 0 < length p.entries → (u : Worklist Fact) → Sized u → Onward v u (over exit u)
    unfolding over
    over_onward exit below u sized =
        arrived_onward v shown (get_or (entry_of p i).targets exit 0) (m.flow (fact_at v w.items i) (entry_of p i).node exit) u
        (let e = sized.each in omega arith) (sized.each ∙ sym sized.marks)

    over_allows : (exit : ℕ) → get_or (entry_of p i).targets exit 0 < length p.entries → (u : Worklist Fact) → Sized u → (x : Point)
        → v.allows (m.flow (fact_at v w.items i) (entry_of p i).node exit) x → v.allows (fact_at v (over exit u).items (get_or (entry_of p i).targets exit 0)) x
    unfolding over
    over_allows exit below u sized x allowed =
        arrived_allows v shown (get_or (entry_of p i).targets exit 0) (m.flow (fact_at v w.items i) (entry_of p i).node exit) u
        (let e = sized.each in omega arith) (sized.each ∙ sym sized.marks) x allowed

    exits_onward : (h : Exits) → ((exit : ℕ) → Has h exit → get_or (entry_of p i).targets exit 0 < length p.entries)
        → Onward v rested (over_exits v m h (entry_of p i) (fact_at v w.items i) rested)
    unfolding over
    exits_onward exits.None below = onward_none v rested
    exits_onward exits.One below = over_onward 0 (below 0 refl) rested sized_rested
    exits_onward exits.Two below =
        let one = over_onward 0 (below 0 (inl refl)) rested sized_rested in
        onward_both v one (over_onward 1 (below 1 (inr refl)) (over 0 rested) (sized_on sized_rested one))

    -- what flows over an exit is allowed at its target
    exits_allow : (h : Exits) → ((exit : ℕ) → Has h exit → get_or (entry_of p i).targets exit 0 < length p.entries) → (exit : ℕ) → Has h exit → (x : Point)
        → v.allows (m.flow (fact_at v w.items i) (entry_of p i).node exit) x
        → v.allows (fact_at v (over_exits v m h (entry_of p i) (fact_at v w.items i) rested).items (get_or (entry_of p i).targets exit 0)) x
    unfolding over
    exits_allow exits.None below exit has x allowed = absurd has
    exits_allow exits.One below zero has x allowed = over_allows 0 (below 0 refl) rested sized_rested x allowed
    exits_allow exits.One below (suc exit) has x allowed = absurd (omega arith)
    exits_allow exits.Two below zero has x allowed =
        let one = over_onward 0 (below 0 (inl refl)) rested sized_rested in
        let two = over_onward 1 (below 1 (inr refl)) (over 0 rested) (sized_on sized_rested one) in
        two.grows (get_or (entry_of p i).targets 0 0) x (over_allows 0 (below 0 (inl refl)) rested sized_rested x allowed)
    exits_allow exits.Two below (suc zero) has x allowed =
        let one = over_onward 0 (below 0 (inl refl)) rested sized_rested in
        over_allows 1 (below 1 (inr refl)) (over 0 rested) (sized_on sized_rested one) x allowed
    exits_allow exits.Two below (suc (suc exit)) has x allowed = absurd (elim has [ inl e ↦ omega arith | inr e ↦ omega arith ])

    visited_onward : Onward v rested (visited v m p i w)
    unfolding visited rested
    visited_onward = exits_onward (exits_of (entry_of p i).node) led

    -- a visit leaves less to do
    pub visited_less : get_or w.waiting i false ≡ true → potential v (visited v m p i w) < potential v w
    unfolding rested
    visited_less waits = let a = visited_onward.less in let b = waiters_rest w.waiting i waits in omega arith

  pub closing_visits : (i : ℕ) → i < length p.entries → (w : Worklist Fact) → Closing v p w → Closing v p (visited v m p i w)
  unfolding rested visited
  closing_visits i there w was =
      let on = visited_onward i there w was.long was.flags in
      let node = (entry_of p i).node in
      let proper = (sound_parts (length p.entries) (entry_of p i) (ok.sound i there)).node in
      record {
        long = on.long ∙ was.long;
        flags = on.flags ∙ length-set w.waiting i false ∙ was.flags;
        begins = λ s valid fresh. on.grows p.first (state s) (was.begins s valid fresh);
        closed = λ k within rests exit s t valid allowed acts.
            let same = on.still k rests in
            let before : v.allows (fact_at v w.items k) (state s) = subst (λ f. v.allows f (state s)) same.1 allowed in
            elim (cases_eq k i) [
              | inl e ↦ subst (λ j. v.allows (fact_at v w.items j) (state s) → act (entry_of p j).node s ≡ leaves exit t
                  → v.allows (fact_at v (visited v m p i w).items (get_or (entry_of p j).targets exit 0)) (state t))
                  (sym e)
                  (λ h acts. exits_allow i there w was.long was.flags (exits_of node) (led i there w was.long was.flags) exit (leaves_has node s t exit acts) (state t)
                  (sound.flow (fact_at v w.items i) node exit proper s t valid h acts))
                  before acts
              | inr ne ↦ on.grows (get_or (entry_of p k).targets exit 0) (state t)
                  (was.closed k within (sym (get_or-set_other w.waiting i k false false ne) ∙ same.0) exit s t valid before acts)
            ];
      }
