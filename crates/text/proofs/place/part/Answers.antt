use Rattle.std.proofs.Common.{◌≡◌, sym, ◌∙◌, arith}
use Rattle.text.specs.Cuts.{parts}
use Rattle.text.proofs.PlaceLaws.{head, none_left, next_part}
use Rattle.text.proofs.place.part.Goals as goal

pub returns-in_err-next : goal.returns-in_err-next
returns-in_err-next c =
    let h = none_left (parts c.args.sep c.args.text.now) c.loop.counter (sym c.loop.invariant ∙ c.in_err-next.ensures.0) in
    rw c.from_residual.ensures (omega (arith, c.loop-test.true))

pub loop-preserved : goal.loop-preserved
loop-preserved c = (head (parts c.args.sep c.args.text.now) c.loop.counter _ _ (sym c.loop.invariant ∙ c.in_ok-next.ensures.taken)).rest

pub returns : goal.returns
returns c =
    let e : c.loop.counter ≡ c.args.n = omega arith in
    next_part (parts c.args.sep c.args.text.now) c.loop.counter c.args.n c.loop.parts c.next-2.new.self c.next-2.result e c.loop.invariant c.next-2.ensures
