use Rattle.std.proofs.Common.{length, replicate, ap, ◌∙◌, arith}
use Rattle.machine.proofs.Held.{held_program}
use Rattle.tidying.specs.declared.ways.Way.TheVariants.{Unknown}
use Rattle.tidying.proofs.Fronts.{front_still}
use Rattle.tidying.proofs.past.find_past.Goals as goal

pub send_all-requires-clause-still : goal.send_all-requires-clause-still
send_all-requires-clause-still c =
    front_still (length c.args.sent.now) 200 Unknown (let few = (held_program c.args.program.now).counted in omega arith)
    ∙ ap (λ n. replicate n Unknown) c.requires
