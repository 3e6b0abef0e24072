use Rattle.std.proofs.Common.{◌≡◌, Ok, sym, ⊎_elim, rules}
use Rattle.text.specs.Cuts.{parts}
use Rattle.text.proofs.LineEnds.{no_nodes, other_count, lines_good}
use Rattle.text.proofs.read.lines.read_lines.Goals as goal

pub returns-then-count-eq0 : goal.returns-then-count-eq0
returns-then-count-eq0 c =
    let e : c.trailer.result ≡ Ok (c.in_ok-told.told, c.in_ok-told.first) = search rules in
    rw c.at-then-count-eq0.ensures
    (⊎_elim
    (λ zero. no_nodes (parts 10 c.args.text.now) c.new-lines.result c.nodes.new.lines c.nodes.new.entries c.in_ok-count.count c.in_ok-count.line.now c.trailer.result
    c.new-lines.ensures.left c.in_ok-count.ensures c.trailer.ensures c.in_ok-told.told c.in_ok-told.first e (sym c.if-not-is_at_end.ensures) zero)
    (λ other. other_count (parts 10 c.args.text.now) c.new-lines.result c.nodes.new.lines c.nodes.new.entries c.in_ok-count.count c.in_ok-count.line.now c.trailer.result
    c.new-lines.ensures.left c.in_ok-count.ensures c.trailer.ensures c.in_ok-told.told c.in_ok-told.first e (sym c.if-not-is_at_end.ensures) other.1)
    c.then-count-eq0.either)

pub returns : goal.returns
returns c =
    let e : c.trailer.result ≡ Ok (c.in_ok-told.told, c.in_ok-told.first) = search rules in
    lines_good (parts 10 c.args.text.now) c.new-lines.result c.nodes.new.lines c.nodes.new.entries c.in_ok-count.count c.in_ok-count.line.now c.trailer.result
    c.new-lines.ensures.left c.in_ok-count.ensures c.trailer.ensures
    c.in_ok-told.told c.in_ok-told.first e (sym c.if-not-is_at_end.ensures) c.if-count-eq0.false c.if-told-count.false
