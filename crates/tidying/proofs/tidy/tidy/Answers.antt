use Rattle.std.proofs.Common.{◌≡◌, ◌≤◌, length, arith, subst, sym}
use Rattle.machine.specs.Equivalent.{Equivalent}
use Rattle.machine.specs.Programs.{program_of}
use Rattle.machine.proofs.Held.{held_program}
use Rattle.tidying.specs.Tidy.{tidied, Tidies}
use Rattle.tidying.proofs.PastLaws.{sends_past}
use Rattle.tidying.proofs.TidyCall.{tidied_some, tidied_is, tidy_equivalent, tidy_tidies}
use Rattle.tidying.proofs.tidy.tidy.Goals as goal
use Rattle.tidying.proofs.tidy.tidy.Goals.{After-unwrap}

is_tidied : (c : After-unwrap) → program_of c.unwrap.result ≡ tidied (program_of c.args.program.now)
is_tidied c =
    let e = c.tidy_entries-kept.ensures in
    let below : c.tidy_entries-kept.result.0 ≤ length c.tidy_entries-kept.new.entries = let few = e.count in let same = c.tidy_entries-kept.auto.entries in omega arith in
    tidied_is (program_of c.args.program.now) (held_program c.args.program.now) _ _ _ _ below e.entries e.first
    _ c.from_table.ensures c.unwrap.result c.unwrap.ensures

pub unwrap-requires : goal.unwrap-requires
unwrap-requires c =
    let e = c.tidy_entries-kept.ensures in
    let below : c.tidy_entries-kept.result.0 ≤ length c.tidy_entries-kept.new.entries = let few = e.count in let same = c.tidy_entries-kept.auto.entries in omega arith in
    tidied_some (program_of c.args.program.now) (held_program c.args.program.now) _ _ _ _ below e.entries e.first _ c.from_table.ensures

pub returns-clause-tidies : goal.returns-clause-tidies
returns-clause-tidies c = subst (Tidies (program_of c.args.program.now)) (sym (is_tidied (goal.at.returns-clause-tidies c).After-unwrap)) (tidy_tidies (program_of c.args.program.now) (held_program c.args.program.now))

pub returns-clause-past : goal.returns-clause-past
returns-clause-past c = sends_past (program_of c.args.program.now) (held_program c.args.program.now)

pub returns-clause-equivalent : goal.returns-clause-equivalent
returns-clause-equivalent c = subst (Equivalent (program_of c.args.program.now)) (sym (is_tidied (goal.at.returns-clause-equivalent c).After-unwrap)) (tidy_equivalent (program_of c.args.program.now) (held_program c.args.program.now))
