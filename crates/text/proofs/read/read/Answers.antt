use Rattle.std.proofs.Common.{◌≡◌, length, take, Some, ap, ◌∙◌, arith}
use Rattle.std.specs.Option.{option_map}
use Rattle.machine.specs.Limits.{node_limit}
use Rattle.machine.specs.Programs.{prog, program_of}
use Rattle.machine.proofs.Held.{held_program, made_some, made_is}
use Rattle.text.specs.Print.{printed}
use Rattle.text.proofs.ReadLaws.{target_fails, first_fails, is_checked, passes, prints, spells_just}
use Rattle.text.proofs.read.read.Goals as goal
use Rattle.text.proofs.read.read.Goals.{After-from_table}

pub returns-in-Some : goal.returns-in-Some
returns-in-Some c =
    let room : length c.read_lines.new.entries ≡ node_limit = omega (arith, c.read_lines.auto.entries) in
    rw c.at-in-Some.ensures
    (target_fails c.args.text.now c.read_lines.new.entries c.in_ok-count.count c.in_ok-count.first c.if-text-gt-TEXT_LIMIT.false room c.in_ok-count.ensures
    c.bad_targets.result c.bad_targets.ensures c.in-Some.line c.in-Some.word c.in-Some.is)

pub returns-then-first-count : goal.returns-then-first-count
returns-then-first-count c =
    let room : length c.read_lines.new.entries ≡ node_limit = omega (arith, c.read_lines.auto.entries) in
    rw c.at-then-first-count.ensures
    (first_fails c.args.text.now c.read_lines.new.entries c.in_ok-count.count c.in_ok-count.first c.if-text-gt-TEXT_LIMIT.false room c.in_ok-count.ensures
    c.bad_targets.result c.bad_targets.ensures c.in_default.is c.if-first-count.true)

-- what the table makes
checked_program : (c : After-from_table) → option_map program_of c.from_table.result ≡ Some (prog (take c.in_ok-count.count c.read_lines.new.entries) c.in_ok-count.first)
checked_program c =
    let room : length c.read_lines.new.entries ≡ node_limit = omega (arith, c.read_lines.auto.entries) in
    c.from_table.ensures ∙ is_checked c.args.text.now c.read_lines.new.entries c.in_ok-count.count c.in_ok-count.first c.if-text-gt-TEXT_LIMIT.false room c.in_ok-count.ensures
    c.bad_targets.result c.bad_targets.ensures c.in_default.is c.if-first-count.false

pub unwrap-requires : goal.unwrap-requires
unwrap-requires c = made_some _ _ (checked_program c)

pub returns : goal.returns
returns c =
    let room : length c.read_lines.new.entries ≡ node_limit = omega (arith, c.read_lines.auto.entries) in
    let same = made_is _ _ (checked_program (goal.at.returns c).After-from_table) c.unwrap.result c.unwrap.ensures in
    spells_just c.args.text.now (program_of c.unwrap.result) (held_program c.unwrap.result)
    (passes c.args.text.now c.read_lines.new.entries c.in_ok-count.count c.in_ok-count.first c.if-text-gt-TEXT_LIMIT.false room c.in_ok-count.ensures
    c.bad_targets.result c.bad_targets.ensures c.in_default.is c.if-first-count.false)
    (ap printed same ∙ prints c.args.text.now c.read_lines.new.entries c.in_ok-count.count c.in_ok-count.first c.if-text-gt-TEXT_LIMIT.false room c.in_ok-count.ensures
    c.bad_targets.result c.bad_targets.ensures c.in_default.is c.if-first-count.false)
