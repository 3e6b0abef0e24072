use Rattle.std.proofs.Common.{sym}
use Rattle.machine.proofs.Held.{held_entry}
use Rattle.machine.proofs.Running.{gone_further, full, over, next}
use Rattle.machine.proofs.program.Program.run_to_stop.Goals as goal

pub returns-then-is_blocked-clause-stops : goal.returns-then-is_blocked-clause-stops
returns-then-is_blocked-clause-stops c =
    let at = c.loop-steps.invariant.placed in
    full _ _ _ _ _ _ _ _ c.loop-steps.invariant _
    (held_entry c.args.self.now c.loop-steps.at at)
    c.loop-steps-test.true
    (sym c.if-is_blocked.ensures)

pub loop-steps-preserved : goal.loop-steps-preserved
loop-steps-preserved c =
    let at = c.loop-steps.invariant.placed in
    next _ _ _ _ _ _ _ _ c.loop-steps.invariant _
    (held_entry c.args.self.now c.loop-steps.at at)
    c.loop-steps-test.true
    (sym c.if-is_blocked.ensures)
    _ c.in-Continue.ensures.goes_on c.in-Continue.exit (c.args.self.now.sound c.loop-steps.at at) c.in-Continue.ensures.acts

pub returns-in-Break : goal.returns-in-Break
returns-in-Break c =
    let at = c.loop-steps.invariant.placed in
    record {
      stops =
          over _ _ _ _ _ _ _ _ c.loop-steps.invariant _
          (held_entry c.args.self.now c.loop-steps.at at)
          c.loop-steps-test.true
          (sym c.if-is_blocked.ensures)
          _ c.in-Break.ensures.goes_on c.in-Break.ending c.in-Break.ensures.acts;
      goes_on = gone_further _ _ _ c.loop-steps.invariant.gone_on c.in-Break.ensures.goes_on;
    }
