-- What the code's steps come to in a visit.
use Rattle.std.proofs.Common.{◌≡◌, ℕ, ◌<◌, ◌≤◌, Bool, true, false, cond, List, length, get_or, take, set, replicate, refl, arith}
use lib.Seq.{take-set-lt}
use Rattle.std.proofs.lemmas.List.{length-set, get_or_default, take_all}
use Rattle.analysis.specs.Analyses.{MovesOf}
use Rattle.analysis.specs.Facts.{FactsOf}
use Rattle.analysis.specs.Pairs.{is_nowhere}
use Rattle.settling.specs.declared.node_set.NodeSet.{NodeSet}
use Rattle.settling.specs.NodeSets.{flags}
use Rattle.settling.specs.Settling.{fact_at, joined_at, arrived_at, begun}
use Rattle.settling.specs.Worklist.{Worklist, worklist, worklist_of}

module _ {Fact : Type 0} (v : FactsOf Fact) (t : ℕ) (g : Fact) (fs : List Fact) (ws : NodeSet) where
  pub arrived_nowhere : is_nowhere v g ≡ true → worklist_of fs ws ≡ arrived_at v t g (worklist_of fs ws)
  unfolding arrived_at
  arrived_nowhere told = rw told

  module _ (d h : Fact) (there : t < length fs) (told : is_nowhere v g ≡ false) (joins : h ≡ v.joined (get_or fs t d) g) where
    joined_front : (ws' : List Bool) → worklist (set fs t h) (cond (v.rises (get_or fs t d) g) (set ws' t true) ws') ≡ arrived_at v t g (worklist fs ws')
    unfolding arrived_at joined_at
    joined_front ws' = let old = get_or_default fs t d v.nowhere there in cc

    pub arrived_rose : (ws' : NodeSet) → flags ws' ≡ set (flags ws) t true → true ≡ v.rises (get_or fs t d) g → worklist_of (set fs t h) ws' ≡ arrived_at v t g (worklist_of fs ws)
    arrived_rose ws' raised rose =
        let long = length-set fs t h in
        let front : take (length fs) (set (flags ws) t true) ≡ set (take (length fs) (flags ws)) t true = take-set-lt _ _ _ _ there in
        let rest = joined_front (take (length fs) (flags ws)) in
        cc

    pub arrived_stood : false ≡ v.rises (get_or fs t d) g → worklist_of (set fs t h) ws ≡ arrived_at v t g (worklist_of fs ws)
    arrived_stood stood =
        let long = length-set fs t h in
        let rest = joined_front (take (length fs) (flags ws)) in
        cc

-- there stay as many facts
pub arrived_long : {Fact : Type 0} (v : FactsOf Fact) (t : ℕ) (g : Fact) (w : Worklist Fact) → length (arrived_at v t g w).items ≡ length w.items
unfolding arrived_at joined_at
arrived_long v t g w = go (is_nowhere v g)
  where
    go : (b : Bool) → length (cond b w (joined_at v t g w)).items ≡ length w.items
    go true = refl
    go false = length-set w.items t (v.joined (fact_at v w.items t) g)

-- the work once all facts are nowhere, with start put in
pub begun_is : {Fact : Type 0} (v : FactsOf Fact) (m : MovesOf Fact) (nodes first i : ℕ) (fs : List Fact) {f : Fact}
    → take i fs ≡ replicate i v.nowhere → nodes ≤ i → (i ≤ nodes) × (length fs ≡ nodes) → f ≡ m.start
    → (w w' : Worklist Fact) → w ≡ worklist fs (replicate (length fs) false) → w' ≡ worklist (set w.items first f) (set w.waiting first true)
    → w' ≡ begun v m nodes first
unfolding begun
begun_is v m nodes first i fs {f} filled far near starts w w' new put =
    let all : take i fs ≡ fs = take_all i fs (omega arith) in
    let e : i ≡ nodes = omega arith in
    cc
