use Rattle.run.proofs.Written.{budget_read}
use Rattle.run.proofs.spelling.parse_budget.Goals as goal

pub returns : goal.returns
returns c =
    let h = c.in_ok-number.ensures.cases in
    budget_read c.args.text.now c.in_ok-number.number.now h.0 c.parse_word.result h.1.1 h.2 c.parse_word.ensures
