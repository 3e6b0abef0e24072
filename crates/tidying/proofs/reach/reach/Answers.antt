use Rattle.std.proofs.Common.{false, length, refl, ap, ◌∙◌, rules}
use Rattle.std.proofs.lemmas.List.{length-replicate}
use Rattle.machine.specs.Programs.{prog}
use Rattle.settling.proofs.Runs.{ended}
use Rattle.tidying.proofs.Spreading.{going_starts, marks_reached, node_there, targets_there, going_less, going_follows}
use Rattle.tidying.proofs.reach.reach.Goals as goal

pub loop-node-init : goal.loop-node-init
loop-node-init c = (
  going_starts (prog c.args.entries.now c.args.first) c.requires.whole _ _ c.begin-spread.ensures.exact
      (ap length c.requires.still ∙ length-replicate (length c.args.entries.now) false),
  refl,
)

pub bounds-entries-node : goal.bounds-entries-node
bounds-entries-node c =
    node_there (prog c.args.entries.now c.args.first) c.requires.whole _ c.loop-node.invariant.0 c.in-Some.node c.in-Some.ensures.value _ c.in-Some.ensures.after

pub follow-requires : goal.follow-requires
follow-requires c =
    targets_there (prog c.args.entries.now c.args.first) c.requires.whole _ c.loop-node.invariant.0 c.in-Some.node c.in-Some.ensures.value _ c.in-Some.ensures.after

pub loop-node-smaller : goal.loop-node-smaller
loop-node-smaller c =
    going_less (prog c.args.entries.now c.args.first) c.requires.whole _ c.loop-node.invariant.0 c.in-Some.node c.in-Some.ensures.value _ c.in-Some.ensures.after
    _ c.follow.ensures.exact

pub loop-node-preserved : goal.loop-node-preserved
loop-node-preserved c = (
  going_follows (prog c.args.entries.now c.args.first) c.requires.whole _ c.loop-node.invariant.0 c.in-Some.node c.in-Some.ensures.value _ c.in-Some.ensures.after
      _ c.follow.ensures.exact,
  (cc),
)

pub returns : goal.returns
returns c =
    ended
    (marks_reached (prog c.args.entries.now c.args.first) c.requires.whole _ c.loop-node.invariant.0 c.in_default.ensures.value _ c.in_default.ensures.after)
    (search rules)
