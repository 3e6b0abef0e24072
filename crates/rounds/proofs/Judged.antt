-- The verdicts told without the search.
use Rattle.std.proofs.Common.{◌≡◌, ℕ, zero, suc, ◌+◌, Bool, true, false, cond, leb, List, length, is_some, Some, None, Option, refl, ap, ◌∙◌, arith}
use Rattle.machine.specs.Every.{Every}
use Rattle.machine.specs.Limits.{node_limit}
use Rattle.machine.specs.Programs.{Prog}
use Rattle.analysis.specs.Analyses.{MovesOf}
use Rattle.analysis.specs.Facts.{FactsOf}
use Rattle.rounds.specs.Changes.{Replacement}
use Rattle.rounds.specs.Rounds.{Verdicts, with_made, with_short, size_after, judged, offered, offers, decided, verdicts_by, Judges}
use Rattle.rounds.proofs.Decided.{offered_from_pile, decided_made}

module _ {Fact : Type 0} (v : FactsOf Fact) (m : MovesOf Fact) (p : Prog) (facts : List Fact) where
  -- of the nodes looked at, where so many changes were offered
  record Fair (count : ℕ) (r : Verdicts) : Type 0 where
    pub made_offered : Every (λ c. offered v m p facts c.at ≡ Some c) r.made
    pub judged_all : length r.made + r.short ≡ count

  fair : (k n size : ℕ) → Fair (offers v m p facts k n) (decided v m p facts k n size)
  unfolding decided
  fair zero n size = record { made_offered = tt; judged_all = refl }
  fair (suc k) n size = by_offer (offered v m p facts n) refl (λ s. fair k (suc n) s)
    where
      by_offer : (o : Option Replacement) → offered v m p facts n ≡ o → ((s : ℕ) → Fair (offers v m p facts k (suc n)) (decided v m p facts k (suc n) s)) →
          Fair (cond (is_some o) 1 0 + offers v m p facts k (suc n)) (judged o size (decided v m p facts k (suc n)))
      by_offer None told rest = record { made_offered = (rest size).made_offered; judged_all = let h = (rest size).judged_all in omega arith }
      by_offer (Some c) told rest = by_size (leb (size_after c size) node_limit)
        where
          here : offered v m p facts c.at ≡ Some c
          here = ap (offered v m p facts) (offered_from_pile v m p facts n c told).0 ∙ told

          by_size : (b : Bool) →
              Fair (1 + offers v m p facts k (suc n)) (cond b (with_made c (decided v m p facts k (suc n) (size_after c size))) (with_short (decided v m p facts k (suc n) size)))
          by_size true =
              record { made_offered = (here, (rest (size_after c size)).made_offered); judged_all = let h = (rest (size_after c size)).judged_all in omega arith }
          by_size false = record { made_offered = (rest size).made_offered; judged_all = let h = (rest size).judged_all in omega arith }

  pub judges : Judges v m p facts (verdicts_by v m p facts)
  judges =
      let n = length p.entries in
      let all = fair n 0 n in
      record { made_offered = all.made_offered; ascending = (decided_made v m p facts n 0 n n (omega arith)).rising; all_judged = all.judged_all }
