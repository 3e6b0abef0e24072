use Rattle.std.proofs.Common.{length, sym, ap, ◌∙◌, take}
use Rattle.settling.specs.NodeSets.{flags}
use Rattle.settling.specs.Worklist.{worklist}
use Rattle.settling.proofs.Lowest.{lowest_front, without_front}
use Rattle.settling.proofs.worklist.Worklist.take_lowest.Goals as goal

pub returns-clause-value : goal.returns-clause-value
returns-clause-value g c =
    let old = c.args.self.now in
    c.take_lowest.ensures.value ∙ sym (lowest_front (length old.items.now) (flags old.waiting) old.within)

pub returns-clause-after : goal.returns-clause-after
returns-clause-after g c =
    let old = c.args.self.now in
    ap (λ fs. worklist old.items.now (take (length old.items.now) fs)) c.take_lowest.ensures.after
    ∙ ap (worklist old.items.now) (without_front (length old.items.now) (flags old.waiting) old.within c.take_lowest.result c.take_lowest.ensures.value)
