use Rattle.std.proofs.Common.{◌≡◌, ◌≤◌, List, ◌∷◌, [], ◌++◌, cond, leb, length, take, drop, Some, None, sym, ap, ◌∙◌}
use Rattle.std.proofs.lemmas.Bool.{le-leb}
use Rattle.std.proofs.Math.Seq.{take-append_seam}
use Rattle.machine.specs.declared.node.Node.{Node}
use Rattle.machine.specs.declared.node.Node.TheVariants.{Skip}
use Rattle.analysis.proofs.proposal.Row.from_slice.Goals as goal

-- nodes put over the first of the places
placed : (nodes front rest : List Node) → front ≡ nodes → length nodes ≤ 4 → Some (take (length nodes) (front ++ rest)) ≡ cond (leb (length nodes) 4) (Some nodes) None
placed nodes front rest e few =
    ap (λ xs. Some (take (length nodes) (xs ++ rest))) e
    ∙ ap Some (take-append_seam nodes rest)
    ∙ sym (ap (λ b. cond b (Some nodes) None) (le-leb (length nodes) 4 few))

pub returns : goal.returns
returns c =
    placed c.args.nodes.now c.copy_from_slice.new.self (drop (length c.args.nodes.now) (Skip ∷ Skip ∷ Skip ∷ Skip ∷ []))
    c.copy_from_slice.ensures.after c.if-nodes-gt-ROW_LIMIT.false
