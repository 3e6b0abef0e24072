use Rattle.std.proofs.Common.{◌≡◌, length, ap, ◌∙◌, rules}
use Rattle.settling.proofs.Visiting.{arrived_long}
use Rattle.settling.proofs.work.visit.Goals as goal

pub cross-requires-in-Two-2-clause-there : goal.cross-requires-in-Two-2-clause-there
cross-requires-in-Two-2-clause-there g c =
    let long : length c.cross-in-Two.new.work.items.now ≡ length c.args.work.now.items.now = ap (λ w. length w.items) c.cross-in-Two.ensures.exact ∙ arrived_long _ _ _ _ in
    rw long (search rules)
