use Rattle.text.proofs.TextLaws.{done}
use Rattle.text.proofs.read.parts.Parts.is_done.Goals as goal

pub returns : goal.returns
returns c = done c.args.self.now.sep c.args.self.now.rest c.is_none.result c.is_none.ensures
