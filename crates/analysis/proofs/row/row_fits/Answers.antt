use Rattle.std.proofs.Common.{◌≡◌, ℕ, true, false, sym, refl, ap, ◌∙◌, arith}
use Rattle.machine.specs.WellFormed.{is_node, exits_of}
use Rattle.analysis.specs.Rows.{last_fits}
use Rattle.analysis.proofs.FitLaws.{fits_told}
use Rattle.analysis.proofs.row.row_fits.Goals as goal
use Rattle.analysis.proofs.row.row_fits.Goals.{then-all_straight, else-all_straight}

pub returns-then-is_sound : goal.returns-then-is_sound
returns-then-is_sound c =
    let last = c.in-Some.last.now in
    elim c.if-all_straight.branch [
      | then-all_straight w ↦
          fits_told c.args.exits c.args.way c.args.row.now c.in-Some.before.now last c.in-Some.ensures.cases.0
          true true c.last_fits.result w.if-all_straight.ensures (sym c.if-is_sound.true ∙ w.value-is ∙ w.is_sound.ensures)
          (c.last_fits.ensures ∙ ap (λ x. last_fits c.args.exits x c.args.way) c.exits.ensures)
      | else-all_straight w ↦ absurd (let never : ◌≡◌ {A = ℕ} 0 1 = cc in omega arith)
    ]

pub returns-else-is_sound : goal.returns-else-is_sound
returns-else-is_sound c =
    let last = c.in-Some.last.now in
    elim c.if-all_straight.branch [
      | then-all_straight w ↦
          c.if-is_sound.false
          ∙ fits_told c.args.exits c.args.way c.args.row.now c.in-Some.before.now last c.in-Some.ensures.cases.0
          true false (last_fits c.args.exits (exits_of last) c.args.way) w.if-all_straight.ensures (sym c.if-is_sound.false ∙ w.value-is ∙ w.is_sound.ensures) refl
      | else-all_straight w ↦
          c.if-is_sound.false
          ∙ fits_told c.args.exits c.args.way c.args.row.now c.in-Some.before.now last c.in-Some.ensures.cases.0
          false (is_node last) (last_fits c.args.exits (exits_of last) c.args.way) w.if-all_straight.ensures refl refl
    ]
