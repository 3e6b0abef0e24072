use Rattle.text.proofs.WordLaws.{name_read}
use Rattle.text.proofs.read.due.named.Goals as goal

pub returns : goal.returns
returns c = rw c.ok_or.ensures.value (name_read c.args.part.now c.kind.result c.kind.ensures)
