use Rattle.std.proofs.Common.{◌≡◌, true, false, ◌≢◌, get_or, set, ◌∙◌, arith, below_more}
use Rattle.std.proofs.lemmas.List.{get_or-set_same, get_or-set_other}
use Rattle.tidying.specs.Tidy.{rank}
use Rattle.tidying.proofs.Numbering.{rank_le, rank_more}
use Rattle.tidying.proofs.renumber.number.Goals as goal
use Rattle.tidying.proofs.renumber.number.Goals.{then-marked, else-marked}

pub overflow_add-next : goal.overflow_add-next
overflow_add-next c = omega (arith, c.loop-i.invariant.0, rank_le c.args.marks.now c.loop-i.i, c.requires.few)

pub loop-i-init : goal.loop-i-init
loop-i-init c = (omega (arith, rank_le c.args.marks.now 0), λ n h. absurd (omega arith))

pub loop-i-preserved : goal.loop-i-preserved
loop-i-preserved c =
    let next = c.loop-i.invariant.0 in (
      elim c.if-marked.branch [
        | then-marked w ↦ omega (arith, w.next-is, rank_more c.args.marks.now c.loop-i.i true w.if-marked.true)
        | else-marked w ↦ omega (arith, w.next-is, rank_more c.args.marks.now c.loop-i.i false w.if-marked.false)
      ],
      below_more (λ n. get_or (set c.loop-i.numbers c.loop-i.i c.loop-i.next) n 0 ≡ rank c.args.marks.now n) c.loop-i.i
          (λ n h. let other : n ≢ c.loop-i.i = omega arith in get_or-set_other c.loop-i.numbers c.loop-i.i n c.loop-i.next 0 other ∙ c.loop-i.invariant.1 n h)
          (get_or-set_same c.loop-i.numbers c.loop-i.i c.loop-i.next 0 (omega (arith, c.requires.each, c.loop-i.auto.numbers)) ∙ next),
    )
