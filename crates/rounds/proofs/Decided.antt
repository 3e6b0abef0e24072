-- What a round makes: the changes ascend, each is what the pile proposes for its node, and the program stays the same to every machine.
use Rattle.std.proofs.Common.{◌≡◌, ℕ, zero, suc, ◌+◌, ◌<◌, ◌≤◌, Bool, true, false, cond, leb, List, [], ◌∷◌, length, Some, None, Option, sym, refl, subst, arith}
use Rattle.std.proofs.lemmas.Bool.{leb-true}
use Rattle.machine.specs.Every.{Every, every_weaker}
use Rattle.machine.specs.declared.node.Node.{Node}
use Rattle.machine.specs.Equivalent.{Equivalent}
use Rattle.machine.specs.Limits.{node_limit}
use Rattle.machine.specs.Programs.{Prog, IsProgram}
use Rattle.machine.specs.Runs.{entry_of}
use Rattle.machine.specs.State.{State}
use Rattle.machine.proofs.Entries.{sound_parts}
use Rattle.analysis.specs.Analyses.{MovesOf, MovesShow, ProposalShows, Proposed, absent, instead}
use Rattle.analysis.specs.Facts.{FactsOf, state}
use Rattle.analysis.specs.Pairs.{is_nowhere}
use Rattle.analysis.specs.Rows.{is_proposal}
use Rattle.settling.specs.Settling.{fact_at, settled_facts, AllowsRuns}
use Rattle.rounds.specs.Changes.{Replacement, is_itself, changed_by_all}
use Rattle.rounds.specs.Rounds.{Rising, size_after, judged, with_made, with_short, change_for, offered, decided, rounded}
use Rattle.rounds.proofs.Changed.{ActsAs, changed_equivalent}

-- each change leaves no more nodes than a program can have
abbrev pub Fitting : ℕ → List Replacement → Type 0
Fitting size [] = Unit {0}
Fitting size (c ∷ cs) = (size_after c size ≤ node_limit) × Fitting (size_after c size) cs

module _ {Fact : Type 0} (v : FactsOf Fact) (m : MovesOf Fact) (p : Prog) (facts : List Fact) where
  -- what the pile proposes for the node in its place
  pub record FromPile (c : Replacement) : Type 0 where
    pub node : c.node ≡ (entry_of p c.at).node
    pub said : m.proposal (fact_at v facts c.at) (entry_of p c.at).node ≡ instead c.row c.way c.numbers

  pub record Made (from low size : ℕ) (cs : List Replacement) : Type 0 where
    pub rising : Rising from low cs
    pub from_pile : Every FromPile cs
    pub fitting : Fitting size cs

  pub offered_from_pile : (n : ℕ) (c : Replacement) → offered v m p facts n ≡ Some c → (c.at ≡ n) × FromPile c
  offered_from_pile n c told = by_fact (is_nowhere v (fact_at v facts n)) (m.proposal (fact_at v facts n) (entry_of p n).node) refl told
    where
      proposed : List Node → ℕ → ℕ → Replacement
      proposed row way numbers = record { at = n; node = (entry_of p n).node; row = row; way = way; numbers = numbers }

      by_itself : (b : Bool) (r : Replacement) → cond b None (Some r) ≡ Some c → r ≡ c
      by_itself true r e = let z : ◌≡◌ {A = ℕ} 0 1 = cc in absurd (omega arith)
      by_itself false r e = cc

      by_fact : (b : Bool) (o : Proposed) → m.proposal (fact_at v facts n) (entry_of p n).node ≡ o → cond b None (change_for n (entry_of p n).node o) ≡ Some c →
          (c.at ≡ n) × FromPile c
      by_fact true o said e = let z : ◌≡◌ {A = ℕ} 0 1 = cc in absurd (omega arith)
      by_fact false absent said e = let z : ◌≡◌ {A = ℕ} 0 1 = cc in absurd (omega arith)
      by_fact false (instead row way numbers) said e =
          subst (λ (r : Replacement). (r.at ≡ n) × FromPile r) (by_itself (is_itself (entry_of p n).node row) (proposed row way numbers) e)
          (refl, record { node = refl; said = said })

  pub decided_made : (k n size low : ℕ) → n + k ≤ low → Made n low size (decided v m p facts k n size).made
  unfolding decided
  decided_made zero n size low room = record { rising = tt; from_pile = tt; fitting = tt }
  decided_made (suc k) n size low room = by_offer (offered v m p facts n) refl (λ size'. decided_made k (suc n) size' low (omega arith))
    where
      earlier : (cs : List Replacement) → Made (suc n) low size cs → Made n low size cs
      earlier [] made = record { rising = tt; from_pile = tt; fitting = tt }
      earlier (c ∷ cs) made =
          record {
            rising = ((let up = made.rising.0 in omega arith), made.rising.1, made.rising.2);
            from_pile = made.from_pile;
            fitting = made.fitting;
          }

      by_offer : (o : Option Replacement) → offered v m p facts n ≡ o → ((size' : ℕ) → Made (suc n) low size' (decided v m p facts k (suc n) size').made) →
          Made n low size (judged o size (decided v m p facts k (suc n))).made
      by_offer None told rest = earlier (decided v m p facts k (suc n) size).made (rest size)
      by_offer (Some c) told rest = by_size (leb (size_after c size) node_limit) refl
        where
          after : Made (suc n) low (size_after c size) (decided v m p facts k (suc n) (size_after c size)).made
          after = rest (size_after c size)

          by_size : (b : Bool) → leb (size_after c size) node_limit ≡ b →
              Made n low size (cond b (with_made c (decided v m p facts k (suc n) (size_after c size))) (with_short (decided v m p facts k (suc n) size))).made
          by_size true fits =
              let told_of = offered_from_pile n c told in
              let place = told_of.0 in
              record {
                rising = (
                  omega arith,
                  omega arith,
                  subst (λ (i : ℕ). Rising (suc i) low (decided v m p facts k (suc n) (size_after c size)).made) (sym place) after.rising,
                );
                from_pile = (told_of.1, after.from_pile);
                fitting = (leb-true (size_after c size) node_limit fits, after.fitting);
              }
          by_size false fits = earlier (decided v m p facts k (suc n) size).made (rest size)

  -- the states that the facts allow
  abbrev pub Allowed : ℕ → State → Type 0
  Allowed n s = v.allows (fact_at v facts n) (state s)

  -- in form, and acting as the node that it replaces
  pub record Shown (c : Replacement) : Type 0 where
    pub place : c.at < length p.entries
    pub form : is_proposal (entry_of p c.at).node c.row c.way c.numbers ≡ true
    pub acts : ActsAs p Allowed c

  module _ (shows : MovesShow v m) (ok : IsProgram p) where
    pub from_pile_shown : (c : Replacement) → c.at < length p.entries → FromPile c → Shown c
    from_pile_shown c below told_of =
        let node = (entry_of p c.at).node in
        let fact = fact_at v facts c.at in
        let proper = (sound_parts (length p.entries) (entry_of p c.at) (ok.sound c.at below)).node in
        let shown = subst (ProposalShows v fact node) told_of.said (shows.proposal fact node proper) in
        record { place = below; form = shown.0; acts = shown.1 }

    all_shown : (cs : List Replacement) (from : ℕ) → Rising from (length p.entries) cs → Every FromPile cs → Every Shown cs
    all_shown [] from up all = tt
    all_shown (c ∷ cs) from up all = (from_pile_shown c up.1 all.0, all_shown cs (suc c.at) up.2 all.1)

    pub made_shown : (k n size : ℕ) → n + k ≤ length p.entries → Every Shown (decided v m p facts k n size).made
    made_shown k n size room =
        let made = decided_made k n size (length p.entries) room in
        all_shown (decided v m p facts k n size).made n made.rising made.from_pile

    pub decided_equivalent : (k size : ℕ) → k ≤ length p.entries → AllowsRuns v p facts →
        Equivalent p (changed_by_all p (decided v m p facts k 0 size).made)
    decided_equivalent k size room allows =
        changed_equivalent p ok Allowed allows (decided v m p facts k 0 size).made (decided_made k 0 size (length p.entries) (omega arith)).rising
        (every_weaker Shown (ActsAs p Allowed) (λ c shown. shown.acts) (decided v m p facts k 0 size).made (made_shown k 0 size (omega arith)))

-- a round leaves the program the same to every machine
pub round_equivalent : {Fact : Type 0} (v : FactsOf Fact) (m : MovesOf Fact) → MovesShow v m → (p : Prog) → IsProgram p →
    AllowsRuns v p (settled_facts v m p) → Equivalent p (rounded v m p)
round_equivalent v m shows p ok allows =
    decided_equivalent v m p (settled_facts v m p) shows ok (length p.entries) (length p.entries) (omega arith) allows
