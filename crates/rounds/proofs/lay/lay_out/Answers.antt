use Rattle.std.proofs.Common.{◌≡◌, suc, ◌+◌, ◌-◌, ◌<◌, ◌≤◌, length, take, drop, sym, ◌∙◌, add-zero, arith, rules}
use Rattle.std.proofs.lemmas.List.{length-set, length-take-le}
use Rattle.machine.specs.declared.node.Node.TheVariants.{Mov}
use Rattle.machine.specs.declared.node.Operand.TheVariants.{Reg}
use Rattle.rounds.specs.Changes.{on_to}
use Rattle.rounds.proofs.Laying.{goes_on, leaves_row, laid_more, laid_all}
use Rattle.rounds.proofs.lay.lay_out.Goals as goal
use Rattle.rounds.proofs.lay.lay_out.Goals.{then-i-row, else-i-row}

pub loop-i-preserved : goal.loop-i-preserved
loop-i-preserved c =
    let change = c.args.change.now in
    let row = take change.len change.row in
    let i = c.loop-i.i in
    let base = c.args.count - 1 in
    let d = Mov 0 (Reg 0) in
    let whole : length change.row ≡ 4 = search rules in
    let long : length row ≡ change.len = length-take-le change.len change.row (omega arith) in
    let inside : i < length row = c.loop-i-test.true in
    let first = c.requires.room.0 in
    let goes : c.if-i-row.next ≡ on_to c.args.old change.way (drop (i + 1) row) (suc (base + i)) =
    elim c.if-i-row.branch [
      | then-i-row w ↦ w.next-is ∙ (let e : c.args.count + i ≡ suc (base + i) = omega arith in e)
          ∙ sym (goes_on c.args.old change.way row base i d (omega (arith, w.if-i-row.true)))
      | else-i-row w ↦ w.next-is ∙ sym (leaves_row c.args.old change.way row base i d (omega (arith, w.if-i-row.false)))
    ] in (
      simp length-set c.loop-i.invariant.0,
      laid_more c.args.old change.way row base i d c.loop-i.entries c.if-i-row.next c.lead.result inside (omega (arith, c.loop-i.invariant.0)) goes
          c.lead.ensures c.loop-i.invariant.1,
    )

pub loop-i-init : goal.loop-i-init
loop-i-init c = (search rules, rw add-zero)

pub returns : goal.returns
returns c =
    let change = c.args.change.now in
    let row = take change.len change.row in
    let whole : length change.row ≡ 4 = search rules in
    let long : length row ≡ change.len = length-take-le change.len change.row (omega arith) in
    let over : change.len ≤ c.loop-i.i = let past : length row ≤ c.loop-i.i = c.loop-i-test.false in omega arith in
    laid_all c.args.old change.way row (c.args.count - 1) change.len c.loop-i.i c.loop-i.entries
    long over (let end : c.loop-i.i ≤ length row = c.loop-i.auto.i-end in omega arith) c.loop-i.invariant.1
