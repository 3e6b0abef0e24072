use Rattle.std.proofs.Common.{◌≡◌, sym, ap, ◌∙◌, subst}
use Rattle.machine.specs.Programs.{prog, program_of, IsProgram}
use Rattle.machine.proofs.Held.{held_program}
use Rattle.tidying.specs.Skips.{skipless}
use Rattle.tidying.proofs.Skipless.{skipless_program}
use Rattle.tidying.proofs.tidy.tidy_entries.Goals as goal
use Rattle.tidying.proofs.tidy.tidy_entries.Goals.{After-send_past-first}

-- the entries with their first node are the program whose targets are sent past skips
sent_is : (c : After-send_past-first) → prog c.send_past-first.new.entries c.send_past-first.result ≡ skipless (program_of c.args.program.now)
sent_is c = ap (λ es. prog es c.send_past-first.result) c.send_past-first.ensures.entries ∙ ap (prog (skipless (program_of c.args.program.now)).entries) c.send_past-first.ensures.first

pub drop_unreached-requires : goal.drop_unreached-requires
drop_unreached-requires c =
    subst IsProgram (sym (sent_is (goal.at.drop_unreached-requires c).After-send_past-first))
    (skipless_program (program_of c.args.program.now) (held_program c.args.program.now))
