use Rattle.std.proofs.Common.{◌≡◌, ◌<◌, ◌≤◌, Bool, Decides, List, [], ◌∷◌, length, get_or, ap, refl, ◌∙◌, arith}
use Rattle.std.proofs.lemmas.Bool.Decides.{Decides-like}
use Rattle.machine.specs.declared.node.Node.{Node}
use Rattle.machine.specs.declared.node.Node.TheVariants.{Mov}
use Rattle.machine.specs.declared.node.Operand.TheVariants.{Reg}
use Rattle.rounds.specs.Changes.{same_node, is_itself}
use Rattle.rounds.proofs.NodeEquality.{nodes}
use Rattle.rounds.proofs.itself.is_itself.Goals as goal

alone : (node past : Node) (row : List Node) → 1 ≤ length row → length row < 2 → same_node (get_or row 0 past) node ≡ is_itself node row
alone node past [] h k = absurd (omega arith)
alone node past (n ∷ []) h k = refl
alone node past (n ∷ m ∷ row) h k = absurd (omega arith)

only : (node past : Node) (row : List Node) (r : Bool) → 1 ≤ length row → length row < 2 → Decides r (get_or row 0 past ≡ node) → Decides r (row ≡ node ∷ [])
only node past [] r h k d = absurd (omega arith)
only node past (n ∷ []) r h k d = Decides-like r (λ e. ap (λ m. m ∷ []) e) (λ e. ap (λ ns. get_or ns 0 past) e) d
only node past (n ∷ m ∷ row) r h k d = absurd (omega arith)

pub returns-in-len1 : goal.returns-in-len1
unfolding same_node
returns-in-len1 c =
    let past = Mov 0 (Reg 0) in
    record {
      exact = c.eq.ensures ∙ alone c.args.node past c.args.row.now c.in-len1.len_at_least c.in-len1.len_below;
      tells = only c.args.node past c.args.row.now c.eq.result c.in-len1.len_at_least c.in-len1.len_below
          (nodes (get_or c.args.row.now 0 past) c.args.node c.eq.result c.eq.ensures);
    }
