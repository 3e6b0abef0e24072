-- A round: a program is settled, and what the pile then proposes is made of it.
use Rattle.std.specs.Prelude.{◌≡◌, ℕ, zero, suc, ◌+◌, ◌-◌, ◌<◌, ◌≤◌, true, cond, List, [], ◌∷◌, map, length, take, drop, is_some, Some, None, Ok, Err, Option, Result, nat_le}
use Rattle.machine.specs.Every.{Every}
use Rattle.machine.specs.declared.node.Node.{Node}
use Rattle.machine.specs.Limits.{node_limit}
use Rattle.machine.specs.Programs.{Prog}
use Rattle.machine.specs.Reasons.{Reason, reason}
use Rattle.machine.specs.Runs.{entry_of}
use Rattle.analysis.specs.Analyses.{MovesOf, Proposed, absent, instead}
use Rattle.analysis.specs.Facts.{FactsOf}
use Rattle.analysis.specs.Pairs.{is_nowhere}
use Rattle.settling.specs.Settling.{fact_at, settled_facts, visits_told, table_after}
use Rattle.rounds.specs.declared.change.Change.{Change}
use Rattle.rounds.specs.declared.change.Counts.{Counts}
use Rattle.rounds.specs.declared.change.RoundRefusal.{RoundRefusal}
use Rattle.rounds.specs.declared.change.RoundRefusal.TheVariants.{ShortTable, ShortList}
use Rattle.rounds.specs.Changes.{Replacement, replacement_of, in_form, is_itself, changed_by_all}

-- the changes that are made, in their order, and how many there is no room for
pub record Verdicts : Type 0 where
  pub made : List Replacement
  pub short : ℕ

abbrev pub no_verdicts : Verdicts
no_verdicts = record { made = []; short = 0 }

abbrev pub with_made : Replacement → Verdicts → Verdicts
with_made c rest = record { made = c ∷ rest.made; short = rest.short }

abbrev pub with_short : Verdicts → Verdicts
with_short rest = record { made = rest.made; short = suc rest.short }

-- the numbers of the nodes ascend from `from` on, and lie below `low`
abbrev pub Rising : ℕ → ℕ → List Replacement → Type 0
Rising from low [] = Unit {0}
Rising from low (c ∷ cs) = (from ≤ c.at) × (c.at < low) × Rising (suc c.at) low cs

-- the nodes of a program of `size` nodes after a change: the row's first node takes a place that is there
abbrev pub size_after : Replacement → ℕ → ℕ
size_after c size = size + (length c.row - 1)

-- what becomes of a change in a program of `size` nodes, with the verdicts that follow for the size after it
abbrev pub judged : Option Replacement → ℕ → (ℕ → Verdicts) → Verdicts
judged None size rest = rest size
judged (Some c) size rest =
    cond (nat_le (size_after c size) node_limit) (with_made c (rest (size_after c size))) (with_short (rest size))

-- a proposal for node number n as a change; none if it is absent, or the node itself
abbrev pub change_for : ℕ → Node → Proposed → Option Replacement
change_for n node absent = None
change_for n node (instead row way numbers) =
    cond (is_itself node row) None (Some (record { at = n; node = node; row = row; way = way; numbers = numbers }))

module _ {Fact : Type 0} (v : FactsOf Fact) (m : MovesOf Fact) where
  -- the change at a node where a fact holds; none where it is nowhere
  abbrev pub change_at : Fact → ℕ → Node → Option Replacement
  change_at f n node = cond (is_nowhere v f) None (change_for n node (m.proposal f node))

  module _ (p : Prog) where
    abbrev pub offered : List Fact → ℕ → Option Replacement
    offered facts n = change_at (fact_at v facts n) n (entry_of p n).node

    -- the verdicts at the next k nodes from n on, where the program has come to `size` nodes
    unfoldable pub decided : List Fact → ℕ → ℕ → ℕ → Verdicts
    decided facts zero n size = no_verdicts
    decided facts (suc k) n size = judged (offered facts n) size (decided facts k (suc n))

    -- how many of the next k nodes from n on have a change offered
    abbrev pub offers : List Fact → ℕ → ℕ → ℕ
    offers facts zero n = 0
    offers facts (suc k) n = cond (is_some (offered facts n)) 1 0 + offers facts k (suc n)

    -- the verdicts told without the search: each change made is the one offered at its node, they stand in the order of the nodes, and all that are offered are made or short
    pub record Judges (facts : List Fact) (r : Verdicts) : Type 0 where
      pub made_offered : Every (λ c. offered facts c.at ≡ Some c) r.made
      pub ascending : Rising 0 (length p.entries) r.made
      pub all_judged : length r.made + r.short ≡ offers facts (length p.entries) 0

    abbrev pub verdicts_by : List Fact → Verdicts
    verdicts_by facts = decided facts (length p.entries) 0 (length p.entries)

    abbrev pub verdicts : Verdicts
    verdicts = verdicts_by (settled_facts v m p)

    -- the program after a round
    abbrev pub rounded : Prog
    rounded = changed_by_all p verdicts.made

    abbrev pub counts_told : Counts
    counts_told = record { made = length verdicts.made; short = verdicts.short; visits = visits_told v m p }

abbrev pub reason_of : RoundRefusal → Reason
reason_of (ShortTable nodes) = reason 8 (nodes ∷ [])
reason_of (ShortList nodes) = reason 9 (nodes ∷ [])

abbrev pub numbered : {V : Type 0} → Result V RoundRefusal → Result V Reason
numbered (Ok told) = Ok told
numbered (Err e) = Err (reason_of e)

-- a change list begins with these changes, each in the form of a proposal for its node, and the rest is as it was
pub record Lists (made : List Replacement) (before after : List Change) : Type 0 where
  pub entries : map replacement_of (take (length made) after) ≡ made
  pub forms : Every (λ c. in_form c ≡ true) (take (length made) after)
  pub rest : drop (length made) after ≡ drop (length made) before

-- the verdicts are carried out and told
pub record Makes (verdicts : Verdicts) (p : Prog) (list : List Change) (made short : ℕ) (p' : Prog) (list' : List Change) : Type 0 where
  pub made_told : made ≡ length verdicts.made
  pub short_told : short ≡ verdicts.short
  pub program : p' ≡ changed_by_all p verdicts.made
  pub lists : Lists verdicts.made list list'

module _ {Fact : Type 0} (v : FactsOf Fact) (m : MovesOf Fact) (p : Prog) where
  -- what a round declines for, in this order: the table or the change list is shorter than the nodes
  abbrev pub declined : ℕ → ℕ → Option Reason
  declined table list =
      cond (nat_le (length p.entries) table)
      (cond (nat_le (length p.entries) list) None (Some (reason 9 (length p.entries ∷ []))))
      (Some (reason 8 (length p.entries ∷ [])))

  -- a round that is declined leaves everything as it was
  abbrev pub Round : Option Reason → List Fact → List Change → Result Counts Reason → Prog → List Fact → List Change → Type 0
  Round (Some why) table list r p' table' list' = (r ≡ Err why) × (p' ≡ p) × (table' ≡ table) × (list' ≡ list)
  Round None table list r p' table' list' =
      (r ≡ Ok (counts_told v m p)) × (p' ≡ rounded v m p) × (table' ≡ table_after v m p table) × Lists (verdicts v m p).made list list'

  -- what a caller of `round` finds
  abbrev pub RoundCall : List Fact → List Change → Result Counts Reason → Prog → List Fact → List Change → Type 0
  RoundCall table list r p' table' list' = Round (declined (length table) (length list)) table list r p' table' list'
