use Rattle.std.proofs.Common.{◌≡◌, map, length, get_or, ap, ◌∙◌, arith}
use Rattle.machine.specs.Programs.{program_of}
use Rattle.machine.proofs.Held.{held_program}
use Rattle.tidying.specs.Skips.{past, retargeted}
use Rattle.tidying.proofs.Fronts.{front_long}
use Rattle.tidying.proofs.TidySteps.{targets_of, retargeted_same}
use Rattle.tidying.proofs.tidy.send_past.Goals as goal
use Rattle.tidying.proofs.tidy.send_past.Goals.{After-find_past}

sent_long : (c : After-find_past) → length c.find_past.new.sent ≡ length (program_of c.args.program.now).entries
sent_long c =
    let few = (held_program c.args.program.now).counted in
    let same = ap length c.requires in
    c.find_past.auto.sent ∙ front_long (length c.args.entries.now) 200 0 (omega arith) ∙ same

pub send-requires : goal.send-requires
send-requires c =
    targets_of (program_of c.args.program.now) (held_program c.args.program.now) c.args.entries.now (length c.find_past.new.sent) c.requires
    (sent_long (goal.at.send-requires c).After-find_past)

pub returns-clause-entries : goal.returns-clause-entries
returns-clause-entries c =
    let p = program_of c.args.program.now in
    c.send.ensures
    ∙ retargeted_same (λ k. get_or c.find_past.new.sent k 0) (past p) (length p.entries) c.find_past.ensures c.args.entries.now
    (targets_of p (held_program c.args.program.now) c.args.entries.now (length p.entries) c.requires (let same : length p.entries ≡ length p.entries = omega arith in same))
    ∙ ap (map (retargeted (past p))) c.requires

pub returns-clause-first : goal.returns-clause-first
returns-clause-first c =
    let p = program_of c.args.program.now in
    rw c.first.ensures (c.find_past.ensures p.first (held_program c.args.program.now).starts)
