use Rattle.std.proofs.Common.{refl, rules}
use Rattle.machine.specs.Programs.{program_of}
use Rattle.machine.proofs.Held.{held_program}
use Rattle.settling.proofs.Going.{going_starts, none_waits, node_there, going_less, going_visits, facts_settled}
use Rattle.settling.proofs.Runs.{ended}
use Rattle.settling.proofs.settle.settle_nodes.Goals as goal

pub loop-node-init : goal.loop-node-init
loop-node-init g c = (
  going_starts _ _ (g.met.P.Facts.shown c.args.pile.now) (g.met.P.Analysis.sound c.args.pile.now) (program_of c.args.program.now) (held_program c.args.program.now)
      _ _ _ c.begin-work.ensures.exact c.requires c.first.ensures,
  refl,
)

pub visit-requires-clause-there : goal.visit-requires-clause-there
visit-requires-clause-there g c =
    node_there _ _ (g.met.P.Facts.shown c.args.pile.now) (g.met.P.Analysis.sound c.args.pile.now) (program_of c.args.program.now) (held_program c.args.program.now)
    _ _ c.loop-node.invariant.0 _ c.in-Some.ensures.value _ c.in-Some.ensures.after

pub loop-node-smaller : goal.loop-node-smaller
loop-node-smaller g c =
    going_less _ _ (g.met.P.Facts.shown c.args.pile.now) (g.met.P.Analysis.sound c.args.pile.now) (program_of c.args.program.now) (held_program c.args.program.now)
    _ _ c.loop-node.invariant.0 _ c.in-Some.ensures.value _ c.in-Some.ensures.after _ c.visit.ensures.exact

pub loop-node-preserved : goal.loop-node-preserved
loop-node-preserved g c = (
  going_visits _ _ (g.met.P.Facts.shown c.args.pile.now) (g.met.P.Analysis.sound c.args.pile.now) (program_of c.args.program.now) (held_program c.args.program.now)
      _ _ c.loop-node.invariant.0 _ c.in-Some.ensures.value _ c.in-Some.ensures.after _ c.visit.ensures.exact
      _ c.saturating_add-visits.ensures,
  (cc),
)

pub returns-clause-visits : goal.returns-clause-visits
returns-clause-visits g c =
    (none_waits _ _ (g.met.P.Facts.shown c.args.pile.now) (g.met.P.Analysis.sound c.args.pile.now) (program_of c.args.program.now) (held_program c.args.program.now)
    _ _ c.loop-node.invariant.0 c.in_default.ensures.value).told

pub returns-clause-exact : goal.returns-clause-exact
returns-clause-exact g c =
    ended
    (facts_settled _ _ (g.met.P.Facts.shown c.args.pile.now) (g.met.P.Analysis.sound c.args.pile.now) (program_of c.args.program.now) (held_program c.args.program.now)
    _ _ c.loop-node.invariant.0 c.in_default.ensures.value _ c.in_default.ensures.after)
    (search rules)
