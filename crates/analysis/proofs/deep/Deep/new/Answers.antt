use Rattle.analysis.specs.DeepLaws.{deep_sound}
use Rattle.analysis.proofs.Turned.{course_turns}
use Rattle.analysis.proofs.deep.Deep.new.Goals as goal

pub returns-clause-moves : goal.returns-clause-moves
returns-clause-moves g c = deep_sound (g.met.A.Analysis.sound c.args.inner)

pub returns-clause-turns : goal.returns-clause-turns
returns-clause-turns g c = course_turns (g.A.Analysis.moves c.args.inner)
