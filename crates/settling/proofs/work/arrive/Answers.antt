use Rattle.std.proofs.Common.{sym}
use Rattle.settling.proofs.Visiting.{arrived_nowhere, arrived_rose, arrived_stood}
use Rattle.settling.proofs.work.arrive.Goals as goal

pub returns-then-is_nowhere-clause-exact : goal.returns-then-is_nowhere-clause-exact
returns-then-is_nowhere-clause-exact g c = arrived_nowhere _ _ _ _ _ (sym c.if-is_nowhere.ensures)

pub returns-then-join-clause-exact : goal.returns-then-join-clause-exact
returns-then-join-clause-exact g c =
    arrived_rose _ _ _ _ _ _ _ c.requires.there (sym c.if-is_nowhere.ensures) c.join.ensures.after _ c.insert.ensures c.if-join.ensures.rose

pub returns-else-join-clause-exact : goal.returns-else-join-clause-exact
returns-else-join-clause-exact g c =
    arrived_stood _ _ _ _ _ _ _ c.requires.there (sym c.if-is_nowhere.ensures) c.join.ensures.after c.if-join.ensures.rose
