use Rattle.std.proofs.Common.{◌∷◌, ◌++◌, Some, None, ap, ◌∙◌, arith, lit<}
use Rattle.std.proofs.lemmas.Str.Pattern.{strip_prefix_char, split_parts}
use Rattle.run.proofs.Written.{cut_only}
use Rattle.run.proofs.spelling.parse_cell.Goals as goal

pub returns-in_err-rest : goal.returns-in_err-rest
returns-in_err-rest c =
    rw c.from_residual.ensures
    (λ s w. strip_prefix_char 99 c.args.text.now None c.in_err-rest.ensures.cases (lit< tt) (w.0 ++ (61 ∷ w.1)) w.2)

pub returns-in_err-number : goal.returns-in_err-number
returns-in_err-number c =
    let starts = strip_prefix_char 99 c.args.text.now (Some c.in_ok-rest.rest) c.in_ok-rest.ensures.cases (lit< tt) in
    rw c.from_residual-in_err-number.ensures
    (λ s w. cut_only c.args.text.now c.in_ok-rest.rest.now None starts c.in_err-number.ensures.cases s w)

pub returns-in_err-cell : goal.returns-in_err-cell
returns-in_err-cell c =
    let starts = strip_prefix_char 99 c.args.text.now (Some c.in_ok-rest.rest) c.in_ok-rest.ensures.cases (lit< tt) in
    rw c.from_residual-in_err-cell.ensures
    (λ s w. c.in_err-cell.ensures s.cell (cut_only c.args.text.now c.in_ok-rest.rest.now (Some (c.in_ok-number.number, c.in_ok-number.word)) starts c.in_ok-number.ensures.cases s w).0)

pub returns-in_err-word : goal.returns-in_err-word
returns-in_err-word c =
    let starts = strip_prefix_char 99 c.args.text.now (Some c.in_ok-rest.rest) c.in_ok-rest.ensures.cases (lit< tt) in
    rw c.from_residual-in_err-word.ensures
    (λ s w. c.in_err-word.ensures s.word (cut_only c.args.text.now c.in_ok-rest.rest.now (Some (c.in_ok-number.number, c.in_ok-number.word)) starts c.in_ok-number.ensures.cases s w).2)

pub returns-then-cell-ge-CELL_COUNT : goal.returns-then-cell-ge-CELL_COUNT
returns-then-cell-ge-CELL_COUNT c =
    let starts = strip_prefix_char 99 c.args.text.now (Some c.in_ok-rest.rest) c.in_ok-rest.ensures.cases (lit< tt) in
    λ s w. let p = cut_only c.args.text.now c.in_ok-rest.rest.now (Some (c.in_ok-number.number, c.in_ok-number.word)) starts c.in_ok-number.ensures.cases s w in
    omega (arith, p.1, p.0.3, c.in_ok-cell.ensures.3, c.if-cell-ge-CELL_COUNT.true)

pub returns : goal.returns
returns c =
    let starts = strip_prefix_char 99 c.args.text.now (Some c.in_ok-rest.rest) c.in_ok-rest.ensures.cases (lit< tt) in
    let cut = split_parts 61 c.in_ok-rest.rest.now (Some (c.in_ok-number.number, c.in_ok-number.word)) c.in_ok-number.ensures.cases (lit< tt) in (
      c.in_ok-number.number.now,
      c.in_ok-number.word.now,
      starts ∙ ap (λ z. 99 ∷ z) cut.0,
      c.in_ok-cell.ensures,
      omega (arith, c.if-cell-ge-CELL_COUNT.false),
      c.in_ok-word.ensures,
    )
