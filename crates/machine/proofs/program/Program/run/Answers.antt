use Rattle.std.proofs.Common.{rules}
use Rattle.machine.proofs.Agreement.{limited_begins}
use Rattle.machine.proofs.Held.{held_valid}
use Rattle.machine.proofs.program.Program.run.Goals as goal

pub returns-then-cells-ne-CELL_COUNT : goal.returns-then-cells-ne-CELL_COUNT
returns-then-cells-ne-CELL_COUNT c = record { exact = search rules; begins = limited_begins _; valid = held_valid c.args.self.now }

pub returns-then-budget-gt-BUDGET_LIMIT : goal.returns-then-budget-gt-BUDGET_LIMIT
returns-then-budget-gt-BUDGET_LIMIT c = record { exact = search rules; begins = limited_begins _; valid = held_valid c.args.self.now }

pub returns : goal.returns
returns c = record { exact = search rules; begins = limited_begins _; valid = held_valid c.args.self.now }
