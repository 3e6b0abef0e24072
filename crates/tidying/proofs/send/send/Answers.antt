use Rattle.std.proofs.Common.{get_or, set, ap, ◌∙◌, arith}
use Rattle.std.proofs.lemmas.List.Edits.{map_over_more}
use Rattle.std.proofs.lemmas.List.{get_or_default}
use Rattle.machine.specs.WellFormed.{blank}
use Rattle.tidying.specs.Skips.{retargeted}
use Rattle.tidying.proofs.send.send.Goals as goal

pub loop-entry-preserved : goal.loop-entry-preserved
loop-entry-preserved c =
    let f = retargeted (λ n. get_or c.args.to.now n 0) in
    ap (set c.loop-entry.entries c.loop-entry.entry-index) c.retarget.ensures
    ∙ map_over_more f c.args.entries.now c.loop-entry.entries c.loop-entry.entry-index (get_or c.loop-entry.entries c.loop-entry.entry-index blank) c.loop-entry-test.true c.loop-entry.invariant
    (get_or_default c.loop-entry.entries c.loop-entry.entry-index blank (get_or c.loop-entry.entries c.loop-entry.entry-index blank) (omega (arith, c.loop-entry.auto.entries)))
