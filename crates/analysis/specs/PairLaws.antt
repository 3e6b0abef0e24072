-- Pair shows all that is asked if its parts do.
use Rattle.std.specs.Prelude.{◌≡◌, ℕ, ◌+◌, ◌<◌, ◌≤◌, Bool, true, false, cond, ◌||◌, ◌⊎◌, ◌≢◌}
use Rattle.std.proofs.Math.Path.{refl}
use Rattle.std.proofs.Common.{ap, ⊎_elim, arith}
use Rattle.std.proofs.lemmas.Bool.Decides.{nat_tests}
use Rattle.machine.specs.WellFormed.{is_node}
use Rattle.analysis.specs.Analyses.{MovesOf, MovesShow, Proposed, absent, instead, ProposalShows}
use Rattle.analysis.specs.Facts.{FactsOf, FactsShow, Point, state}
use Rattle.analysis.specs.Pairs.{pair_nowhere, pair_facts, pair_moves, first_present}
use Rattle.machine.specs.declared.node.Node.{Node}
use Rattle.analysis.specs.declared.pair.PairFact.{PairFact}

-- a join never lowers the rank
grows : {F : Type 0} {v : FactsOf F} (p : FactsShow v) (f g : F) → v.rank f ≤ v.rank (v.joined f g)
grows {F} {v} p f g = go (v.rises f g) refl
  where
    go : (b : Bool) → v.rises f g ≡ b → v.rank f ≤ v.rank (v.joined f g)
    go true e = omega (arith, p.higher f g e)
    go false e = omega (arith, ap v.rank (p.same f g e))

module _ {F G : Type 0} {v : FactsOf F} {w : FactsOf G} (p : FactsShow v) (q : FactsShow w) where
  none_part : (f : PairFact F G) → pair_nowhere v w f ≡ true → (v.rank f.first ≡ 0) ⊎ (w.rank f.second ≡ 0)
  none_part f e = grind (arith, nat_tests)

  some_part : (f : PairFact F G) → pair_nowhere v w f ≡ false → (0 < v.rank f.first) × (0 < w.rank f.second)
  some_part f e = grind (arith, nat_tests)

  -- nothing is allowed where a part is nowhere
  none_empty : (f : PairFact F G) (x : Point) → pair_nowhere v w f ≡ true → (pair_facts v w).allows f x → ⊥
  none_empty f x e a = ⊎_elim (λ r. p.empty f.first x r a.0) (λ r. q.empty f.second x r a.1) (none_part f e)

  both : (f g : PairFact F G) → PairFact F G
  both f g = record { first = v.joined f.first g.first; second = w.joined f.second g.second }

  -- the joined parts: as f if neither rose, else of a higher rank
  parts_same : (f g : PairFact F G) (b c : Bool) → v.rises f.first g.first ≡ b → w.rises f.second g.second ≡ c → (b || c) ≡ false → both f g ≡ f
  unfolding both
  parts_same f g false false k h e = λ i. record { first = p.same f.first g.first k i; second = q.same f.second g.second h i }
  parts_same f g false true k h e = absurd (let z : ◌≡◌ {A = ℕ} 0 1 = cc in omega arith)
  parts_same f g true c k h e = absurd (let z : ◌≡◌ {A = ℕ} 0 1 = cc in omega arith)

  parts_higher : (f g : PairFact F G) (b c : Bool) → v.rises f.first g.first ≡ b → w.rises f.second g.second ≡ c → (b || c) ≡ true
      → v.rank f.first + w.rank f.second < v.rank (v.joined f.first g.first) + w.rank (w.joined f.second g.second)
  parts_higher f g true c k h e = omega (arith, p.higher f.first g.first k, grows q f.second g.second)
  parts_higher f g false true k h e = omega (arith, grows p f.first g.first, q.higher f.second g.second h)
  parts_higher f g false false k h e = absurd (let z : ◌≡◌ {A = ℕ} 0 1 = cc in omega arith)

  pub pair_shown : FactsShow (pair_facts v w)
  unfolding both
  pair_shown = record {
    low = λ f. grind (arith, p.low f.first, q.low f.second);
    bottom = grind (arith, nat_tests, p.bottom);
    empty = λ f x e a. no_point f x e a (pair_nowhere v w f) refl;
    left = λ f g x a. left_in f g x a (pair_nowhere v w g) (pair_nowhere v w f) refl refl;
    right = λ f g x a. right_in f g x a (pair_nowhere v w g) (pair_nowhere v w f) refl refl;
    same = λ f g e. same_in f g (pair_nowhere v w g) (pair_nowhere v w f) e;
    higher = λ f g e. higher_in f g (pair_nowhere v w g) (pair_nowhere v w f) refl refl e;
  }
    where
      no_point : (f : PairFact F G) (x : Point) → (pair_facts v w).rank f ≡ 0 → (pair_facts v w).allows f x → (b : Bool) → pair_nowhere v w f ≢ b
      no_point f x e a true h = none_empty f x h a
      no_point f x e a false h = grind (arith, some_part f h)

      left_in : (f g : PairFact F G) (x : Point) → (pair_facts v w).allows f x → (b c : Bool) → pair_nowhere v w g ≡ b → pair_nowhere v w f ≡ c
          → (pair_facts v w).allows (cond b f (cond c g (both f g))) x
      left_in f g x a true c k h = a
      left_in f g x a false true k h = absurd (none_empty f x h a)
      left_in f g x a false false k h = (p.left f.first g.first x a.0, q.left f.second g.second x a.1)

      right_in : (f g : PairFact F G) (x : Point) → (pair_facts v w).allows g x → (b c : Bool) → pair_nowhere v w g ≡ b → pair_nowhere v w f ≡ c
          → (pair_facts v w).allows (cond b f (cond c g (both f g))) x
      right_in f g x a true c k h = absurd (none_empty g x k a)
      right_in f g x a false true k h = a
      right_in f g x a false false k h = (p.right f.first g.first x a.0, q.right f.second g.second x a.1)

      same_in : (f g : PairFact F G) (b c : Bool) → cond b false (cond c true (v.rises f.first g.first || w.rises f.second g.second)) ≡ false
          → cond b f (cond c g (both f g)) ≡ f
      same_in f g true c e = refl
      same_in f g false true e = absurd (let z : ◌≡◌ {A = ℕ} 0 1 = cc in omega arith)
      same_in f g false false e = parts_same f g _ _ refl refl e

      higher_in : (f g : PairFact F G) (b c : Bool) → pair_nowhere v w g ≡ b → pair_nowhere v w f ≡ c
          → cond b false (cond c true (v.rises f.first g.first || w.rises f.second g.second)) ≡ true
          → cond c 0 (v.rank f.first + w.rank f.second) < (pair_facts v w).rank (cond b f (cond c g (both f g)))
      higher_in f g true c k h e = absurd (let z : ◌≡◌ {A = ℕ} 0 1 = cc in omega arith)
      higher_in f g false true k h e = grind (arith, some_part g k)
      higher_in f g false false k h e =
          let more = parts_higher f g _ _ refl refl e in
          let left = grows p f.first g.first in
          let right = grows q f.second g.second in
          let some = some_part f h in
          grind (arith, nat_tests)

  module _ {m : MovesOf F} {k : MovesOf G} (a : MovesShow v m) (b : MovesShow w k) where
    pub pair_sound : MovesShow (pair_facts v w) (pair_moves v w m k)
    pair_sound = record {
      start = λ s ok h. (a.start s ok h, b.start s ok h);
      flow = λ f n e h s t ok l x. kept _ (state t) (a.flow f.first n e h s t ok l.0 x, b.flow f.second n e h s t ok l.1 x) _ refl;
      proposal = λ f n h. chosen f n h _ _ (a.proposal f.first n h) (b.proposal f.second n h);
    }
      where
        kept : (f : PairFact F G) (x : Point) → (pair_facts v w).allows f x → (c : Bool) → pair_nowhere v w f ≡ c → (pair_facts v w).allows (cond c (pair_facts v w).nowhere f) x
        kept f x l true e = absurd (none_empty f x e l)
        kept f x l false e = l

        chosen : (f : PairFact F G) (n : Node) → is_node n ≡ true → (x y : Proposed) → ProposalShows v f.first n x → ProposalShows w f.second n y
            → ProposalShows (pair_facts v w) f n (first_present x y)
        chosen f n h absent absent i j = tt
        chosen f n h absent (instead row way numbers) i j = (j.0, λ s ok l. j.1 s ok l.1)
        chosen f n h (instead row way numbers) y i j = (i.0, λ s ok l. i.1 s ok l.0)
