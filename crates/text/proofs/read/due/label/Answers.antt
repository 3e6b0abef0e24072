use Rattle.std.proofs.Common.{sym, ap, ◌∙◌}
use Rattle.std.specs.Option.{option_map}
use Rattle.text.proofs.WordLaws.{label_other, label_full, label_good}
use Rattle.text.proofs.read.due.label.Goals as goal

pub returns-then-number-next : goal.returns-then-number-next
returns-then-number-next c =
    label_other c.args.part.now c.in_ok-digits.digits.now c.in_ok-number.number c.args.next
    (record { before = sym c.before_colon.ensures ∙ ap (option_map (λ x. x.now)) c.in_ok-digits.ensures.ok_part; number = c.in_ok-number.ensures })
    c.if-number-next.true

pub returns-then-next-eq-NODE_LIMIT : goal.returns-then-next-eq-NODE_LIMIT
returns-then-next-eq-NODE_LIMIT c =
    label_full c.args.part.now c.in_ok-digits.digits.now c.in_ok-number.number c.args.next
    (record { before = sym c.before_colon.ensures ∙ ap (option_map (λ x. x.now)) c.in_ok-digits.ensures.ok_part; number = c.in_ok-number.ensures })
    c.if-number-next.false c.if-next-eq-NODE_LIMIT.true

pub returns : goal.returns
returns c =
    let l =
    label_good c.args.part.now c.in_ok-digits.digits.now c.in_ok-number.number c.args.next
    (record { before = sym c.before_colon.ensures ∙ ap (option_map (λ x. x.now)) c.in_ok-digits.ensures.ok_part; number = c.in_ok-number.ensures })
    c.if-number-next.false c.if-next-eq-NODE_LIMIT.false in
    (l.0, l.1, c.if-next-eq-NODE_LIMIT.false)
