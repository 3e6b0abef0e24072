use Rattle.std.proofs.Common.{◌-◌, length, sym, ap, ◌∙◌}
use Rattle.std.specs.List.{slice_get}
use Rattle.std.specs.Option.{unwrap_or}
use Rattle.analysis.specs.Analyses.{nodes_of}
use Rattle.machine.specs.declared.node.Node.TheVariants.{Skip}
use Rattle.analysis.proofs.Looks.{last_of_row}
use Rattle.analysis.proofs.deep.last.Goals as goal

pub returns : goal.returns
returns g c =
    c.unwrap_or.ensures
    ∙ ap (λ o. unwrap_or o Skip) (c.copied.ensures ∙ c.last.ensures.value ∙ ap (λ r. slice_get r (length r - 1)) c.as_slice.ensures)
    ∙ sym (last_of_row (nodes_of c.args.walk.now.row) Skip)
