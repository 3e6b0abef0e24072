-- The machine's state as the code holds it.
use Rattle.std.specs.Prelude.{◌≡◌, ◌≤◌, length, take, drop}
use Rattle.machine.specs.declared.progress.Progress.{Progress}
use Rattle.machine.specs.State.{State, state}

abbrev pub state_of : Progress → State
state_of p = state p.registers p.cells.now p.inputs.now (take p.written p.output.now)

-- a run goes on in the buffers that it began with: it only reads and writes further, and leaves the output past the words written as it was
pub record GoneOn (old new : Progress) : Type 0 where
  pub read : length new.inputs.now ≤ length old.inputs.now
  pub written : old.written ≤ new.written
  pub long : length new.output.now ≡ length old.output.now
  pub rest : drop new.written new.output.now ≡ drop new.written old.output.now
  pub cells : new.cells.ghost_name ≡ old.cells.ghost_name
  pub output : new.output.ghost_name ≡ old.output.ghost_name
