use Rattle.std.proofs.Common.{◌≡◌, Ok, rules}
use Rattle.text.proofs.TextLaws.{loop_more}
use Rattle.text.proofs.read.lines.nodes.Goals as goal

pub loop-line-preserved : goal.loop-line-preserved
loop-line-preserved c =
    let g = rw c.in_ok-line.ensures.ok_part at c.next.ensures in
    let e : c.entry.result ≡ Ok c.in_ok-entry.entry = search rules in
    loop_more _ _ _ _ _ c.in_ok-line.line.now c.entry.result c.loop-line.invariant g c.if-is_done.ensures c.if-is_trailer.ensures c.entry.ensures
    c.in_ok-entry.entry e
