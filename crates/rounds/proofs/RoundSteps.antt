-- What the code's steps come to in a round.
use Rattle.std.proofs.Common.{◌≡◌, ℕ, ◌+◌, ◌-◌, ◌<◌, ◌≤◌, true, ◌&&◌, leb, List, length, get_or, Some, Option, sym, ap, ◌∙◌, subst, arith}
use Rattle.std.proofs.lemmas.List.{get_or_read, length-take-le}
use Rattle.std.proofs.lemmas.Bool.{and_parts, leb-true}
use Rattle.machine.specs.declared.node.Entry.{Entry}
use Rattle.machine.specs.declared.node.Node.{Node}
use Rattle.machine.specs.Programs.{Prog}
use Rattle.machine.specs.Runs.{entry_of}
use Rattle.machine.specs.WellFormed.{is_node, blank}
use Rattle.analysis.specs.Analyses.{MovesOf}
use Rattle.analysis.specs.Facts.{FactsOf}
use Rattle.analysis.specs.Rows.{is_proposal, row_limit}
use Rattle.settling.specs.Settling.{fact_at}
use Rattle.rounds.specs.declared.change.Change.{Change}
use Rattle.rounds.specs.Changes.{Replacement, replacement_of, in_form}
use Rattle.rounds.specs.Rounds.{size_after, change_at, offered}
use Rattle.rounds.proofs.Decided.{offered_from_pile}
use Rattle.rounds.proofs.Making.{form_parts}

-- what the code asks for at node i, where the program is q by now
pub offered_is : {Fact : Type 0} (v : FactsOf Fact) (m : MovesOf Fact) (p q : Prog) (facts : List Fact) (i : ℕ) (f : Fact) (es : List Entry) (o : Option Replacement)
    → i < length facts → f ≡ get_or facts i f → es ≡ q.entries → entry_of q i ≡ entry_of p i → o ≡ change_at v m f i (get_or es i blank).node → offered v m p facts i ≡ o
offered_is v m p q facts i f es o inside read is old asked =
    let fact : fact_at v facts i ≡ f = sym (get_or_read facts i f inside read v.nowhere) in
    let node : (entry_of p i).node ≡ (get_or es i blank).node = ap (λ e. e.node) (sym old ∙ ap (λ l. get_or l i blank) (sym is)) in
    ap (λ x. change_at v m x i (entry_of p i).node) fact ∙ ap (change_at v m f i) node ∙ sym asked

-- what is known of a change that was asked for
pub record Asked (q : Prog) (i : ℕ) (c : Change) : Type 0 where
  pub here : c.at ≡ i
  pub len : c.len ≤ row_limit
  pub form : is_proposal (entry_of q c.at).node (replacement_of c).row c.way c.set ≡ true

pub asked_parts : {Fact : Type 0} (v : FactsOf Fact) (m : MovesOf Fact) (p q : Prog) (facts : List Fact) (i : ℕ) (c : Change) → entry_of q i ≡ entry_of p i
    → offered v m p facts i ≡ Some (replacement_of c) → in_form c ≡ true → Asked q i c
asked_parts v m p q facts i c old asked form =
    let from = offered_from_pile v m p facts i (replacement_of c) asked in
    let here : c.at ≡ i = from.0 in
    let node : c.node ≡ (entry_of q c.at).node = from.1.node ∙ ap (λ e. e.node) (ap (entry_of p) here ∙ sym old ∙ ap (entry_of q) (sym here)) in
    let rest = (and_parts (is_node c.node) (leb c.len row_limit && is_proposal c.node (replacement_of c).row c.way c.set) form).1 in
    let parts = and_parts (leb c.len row_limit) (is_proposal c.node (replacement_of c).row c.way c.set) rest in
    record {
      here = here;
      len = leb-true c.len row_limit parts.0;
      form = subst (λ (n : Node). is_proposal n (replacement_of c).row c.way c.set ≡ true) node parts.1;
    }

-- the size after such a change, as the code computes it
pub asked_size : (q : Prog) (i : ℕ) (c : Change) → Asked q i c → length c.row ≡ 4 → (n : ℕ) → size_after (replacement_of c) n ≡ n + c.len - 1
asked_size q i c asked four n =
    let long : length (replacement_of c).row ≡ c.len = length-take-le c.len c.row (let l = asked.len in omega arith) in
    let some = (form_parts (entry_of q c.at).node (replacement_of c).row c.way c.set asked.form).0 in
    omega arith
