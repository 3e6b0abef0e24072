-- What every part of a visit keeps.
use Rattle.std.proofs.Common.{◌≡◌, ℕ, ◌<◌, ◌≤◌, Bool, true, false, cond, length, get_or, set, sym, refl, ap, ◌∙◌, inl, inr, arith, eqb-true}
use borrow.Author.Tests.{both_ways}
use Rattle.std.proofs.lemmas.List.{length-set, set-get_or, get_or-set_same, get_or-set_other}
use Rattle.std.proofs.lemmas.Bool.{cases_eq}
use Rattle.analysis.specs.Facts.{FactsOf, FactsShow, Point}
use Rattle.analysis.specs.Pairs.{is_nowhere}
use Rattle.settling.specs.Settling.{fact_at, joined_at, arrived_at}
use Rattle.settling.specs.Worklist.{Worklist, worklist}
use Rattle.settling.proofs.Potential.{potential, room_set, waiters_raise}

-- from w to w' facts only grow, a node that does not wait has the fact that it had, and no more is left to do
pub record Onward {Fact : Type 0} (v : FactsOf Fact) (w w' : Worklist Fact) : Type 0 where
  pub long : length w'.items ≡ length w.items
  pub flags : length w'.waiting ≡ length w.waiting
  pub less : potential v w' ≤ potential v w
  pub grows : (k : ℕ) (x : Point) → v.allows (fact_at v w.items k) x → v.allows (fact_at v w'.items k) x
  pub still : (k : ℕ) → get_or w'.waiting k false ≡ false → (get_or w.waiting k false ≡ false) × (fact_at v w'.items k ≡ fact_at v w.items k)

module _ {Fact : Type 0} (v : FactsOf Fact) where
  pub onward_none : (w : Worklist Fact) → Onward v w w
  onward_none w = record { long = refl; flags = refl; less = omega arith; grows = λ k x h. h; still = λ k h. (h, refl) }

  pub onward_both : {w w' w'' : Worklist Fact} → Onward v w w' → Onward v w' w'' → Onward v w w''
  onward_both a b = record {
    long = b.long ∙ a.long;
    flags = b.flags ∙ a.flags;
    less = omega arith;
    grows = λ k x h. b.grows k x (a.grows k x h);
    still = λ k h. let q = b.still k h in let r = a.still k q.0 in (r.0, q.1 ∙ r.1);
  }

  module _ (shown : FactsShow v) (t : ℕ) (g : Fact) (w : Worklist Fact) (within : t < length w.items) (paired : length w.items ≡ length w.waiting) where
    rose_onward : v.rises (fact_at v w.items t) g ≡ true → Onward v w (worklist (set w.items t (v.joined (fact_at v w.items t) g)) (set w.waiting t true))
    rose_onward rose =
        let old = fact_at v w.items t in
        let new = v.joined old g in
        let ws = set w.waiting t true in
        let higher : v.rank old < v.rank new = shown.higher old g rose in
        let low : v.rank new ≤ v.height = shown.low new in
        let less-room = room_set v w.items t new v.nowhere within in
        let one_more = waiters_raise w.waiting t in
        record {
          long = length-set w.items t new;
          flags = length-set w.waiting t true;
          less = omega arith;
          grows = λ k x h. elim (cases_eq k t) [
            | inl e ↦ rw (e, get_or-set_same w.items t new v.nowhere within) (shown.left old g x (rw e at h))
            | inr ne ↦ rw (get_or-set_other w.items t k new v.nowhere ne) h
          ];
          still = λ k h. elim (cases_eq k t) [
            | inl e ↦ absurd (both_ways (get_or ws k false) h (rw e (get_or-set_same w.waiting t true false (omega arith))))
            | inr ne ↦ (sym (get_or-set_other w.waiting t k true false ne) ∙ h, get_or-set_other w.items t k new v.nowhere ne)
          ];
        }

    stood_onward : v.rises (fact_at v w.items t) g ≡ false → Onward v w (worklist (set w.items t (v.joined (fact_at v w.items t) g)) w.waiting)
    stood_onward stood =
        let same : set w.items t (v.joined (fact_at v w.items t) g) ≡ w.items =
        ap (set w.items t) (shown.same (fact_at v w.items t) g stood) ∙ set-get_or w.items t v.nowhere in
        rw same (onward_none w)

    joined_onward : Onward v w (joined_at v t g w)
    unfolding joined_at
    joined_onward = go (v.rises (fact_at v w.items t) g) refl
      where
        go : (b : Bool) → v.rises (fact_at v w.items t) g ≡ b
            → Onward v w (worklist (set w.items t (v.joined (fact_at v w.items t) g)) (cond b (set w.waiting t true) w.waiting))
        go true rose = rose_onward rose
        go false stood = stood_onward stood

    pub arrived_onward : Onward v w (arrived_at v t g w)
    unfolding arrived_at
    arrived_onward = go (is_nowhere v g)
      where
        go : (b : Bool) → Onward v w (cond b w (joined_at v t g w))
        go true = onward_none w
        go false = joined_onward

    -- what the fact allows is then allowed at the node
    pub arrived_allows : (x : Point) → v.allows g x → v.allows (fact_at v (arrived_at v t g w).items t) x
    unfolding arrived_at joined_at
    arrived_allows x allowed = go (is_nowhere v g) refl
      where
        go : (b : Bool) → is_nowhere v g ≡ b → v.allows (fact_at v (cond b w (joined_at v t g w)).items t) x
        go true told = absurd (shown.empty g x (eqb-true (v.rank g) 0 told) allowed)
        go false told =
            rw (get_or-set_same w.items t (v.joined (fact_at v w.items t) g) v.nowhere within) (shown.right (fact_at v w.items t) g x allowed)
