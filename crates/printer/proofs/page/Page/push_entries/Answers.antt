use Rattle.std.proofs.Common.{take, length, ap, arith, length-append}
use Rattle.text.specs.Print.{node_lines}
use Rattle.printer.proofs.Joined.{lines_fit, lines_more}
use Rattle.printer.proofs.page.Page.push_entries.Goals as goal

pub push_entry-requires : goal.push_entry-requires
push_entry-requires c =
    let es = c.args.entries.now in
    let i = c.loop-number.number in
    omega (arith, lines_fit es i c.loop-number-test.true, ap length c.loop-number.invariant, length-append c.args.self.now (node_lines 0 (take i es)))

pub loop-number-preserved : goal.loop-number-preserved
loop-number-preserved c = rw (c.push_entry.ensures, c.loop-number.invariant) (lines_more c.args.self.now c.args.entries.now c.loop-number.number c.loop-number-test.true)
