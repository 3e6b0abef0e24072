-- Pair of two analyses, as values.
use Rattle.std.specs.Prelude.{◌+◌, Bool, true, false, cond, ◌||◌, ◌==◌}
use Rattle.analysis.specs.declared.pair.PairFact.{PairFact}
use Rattle.analysis.specs.Analyses.{MovesOf, Proposed, absent, instead}
use Rattle.analysis.specs.Facts.{FactsOf}

-- told of a fact exactly if its rank is 0
abbrev pub is_nowhere : {Fact : Type 0} → FactsOf Fact → Fact → Bool
is_nowhere v f = v.rank f == 0

-- the first proposal, or if it is absent the second
abbrev pub first_present : Proposed → Proposed → Proposed
first_present absent q = q
first_present (instead row way numbers) q = instead row way numbers

module _ {F G : Type 0} (v : FactsOf F) (w : FactsOf G) where
  abbrev pub pair_nowhere : PairFact F G → Bool
  pair_nowhere f = is_nowhere v f.first || is_nowhere w f.second

  abbrev pub pair_facts : FactsOf (PairFact F G)
  pair_facts = record {
    height = v.height + w.height;
    rank = λ f. cond (pair_nowhere f) 0 (v.rank f.first + w.rank f.second);
    allows = λ f p. v.allows f.first p × w.allows f.second p;
    nowhere = record { first = v.nowhere; second = w.nowhere };
    joined = λ f g. cond (pair_nowhere g) f (cond (pair_nowhere f) g
        (record { first = v.joined f.first g.first; second = w.joined f.second g.second }));
    rises = λ f g. cond (pair_nowhere g) false (cond (pair_nowhere f) true
        (v.rises f.first g.first || w.rises f.second g.second));
  }

  -- if one part becomes nowhere, both do
  abbrev pub both_nowhere : PairFact F G → PairFact F G
  both_nowhere f = cond (pair_nowhere f) pair_facts.nowhere f

  abbrev pub pair_moves : MovesOf F → MovesOf G → MovesOf (PairFact F G)
  pair_moves m k = record {
    start = record { first = m.start; second = k.start };
    flow = λ f n e. both_nowhere (record { first = m.flow f.first n e; second = k.flow f.second n e });
    proposal = λ f n. first_present (m.proposal f.first n) (k.proposal f.second n);
  }
