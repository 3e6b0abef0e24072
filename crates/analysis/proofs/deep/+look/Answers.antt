use Rattle.std.proofs.Common.{◌≡◌, ◌+◌, ◌-◌, length, [], refl, sym, ap, ◌∙◌, subst, arith}
use Rattle.std.proofs.lemmas.List.{nil_from_length}
use Rattle.analysis.specs.Analyses.{nodes_of}
use Rattle.analysis.specs.Deeps.{course_of, kept, each, looked}
use Rattle.machine.specs.Every.{Every}
use Rattle.analysis.specs.Forms.{Proper, row_for}
use Rattle.analysis.proofs.Looks.{looked_replaced, looked_last, looked_long, looked_absent}
use Rattle.analysis.proofs.deep.+look.Goals as goal
use Rattle.analysis.proofs.deep.+look.Goals.{then-depth-lt-DEPTH_LIMIT+in-Some+else-as_slice-row-le-ROW_LIMIT, then-depth-lt-DEPTH_LIMIT+in_default, else-depth-lt-DEPTH_LIMIT}

pub loop-entry-init : goal.loop-entry-init
loop-entry-init g t c =
    let p = c.in-Some.proposal in
    let finished = ap (λ r. length (nodes_of r)) c.take_up.ensures.row ∙ sym (ap length c.as_slice.ensures) in
    let proper = (row_for c.args.node (nodes_of p.row) p.way p.set c.in-Some.ensures.shows.0).proper in
    (omega (arith, finished), subst (Every Proper) (sym c.as_slice-row.ensures) proper, refl)

pub returns-then-as_slice-row-le-ROW_LIMIT-clause-course : goal.returns-then-as_slice-row-le-ROW_LIMIT-clause-course
returns-then-as_slice-row-le-ROW_LIMIT-clause-course g t c =
    let m = g.A.Analysis.moves c.args.a.now in
    let p = c.in-Some.proposal in
    let waiting = c.args.waiting in
    let look = looked m (3 - (c.args.depth + 1)) in
    let none : c.loop-entry.row.now ≡ [] = nil_from_length c.loop-entry.row.now c.in_default-split_first.ensures.cases in
    sym (ap (λ r. each m look r waiting (course_of c.loop-entry.walk)) none)
    ∙ c.loop-entry.invariant.2
    ∙ ap (λ r. each m look r waiting (course_of c.take_up.new.walk)) c.as_slice-row.ensures
    ∙ ap (each m look (nodes_of p.row) waiting) c.take_up.ensures.course
    ∙ sym (looked_replaced m (3 - c.args.depth) (3 - (c.args.depth + 1)) c.args.node waiting (course_of c.args.walk.now) (omega arith) (nodes_of p.row) p.way p.set c.in-Some.ensures.exact
    (omega (arith, ap length c.as_slice.ensures, ap length c.as_slice-row.ensures)))

pub returns-clause-course : goal.returns-clause-course
returns-clause-course g t c =
    let m = g.A.Analysis.moves c.args.a.now in
    let walk = course_of c.args.walk.now in
    let levels = 3 - c.args.depth in
    let deeper = 3 - (c.args.depth + 1) in
    let stays : looked m levels c.args.node c.args.waiting walk ≡ kept m c.args.node walk =
    elim c.if-depth-lt-DEPTH_LIMIT.branch [
      | then-depth-lt-DEPTH_LIMIT+in-Some+else-as_slice-row-le-ROW_LIMIT w ↦
          let p = w.in-Some.proposal in
          looked_long m levels deeper c.args.node c.args.waiting walk (omega (arith, w.if-depth-lt-DEPTH_LIMIT.true)) (nodes_of p.row) p.way p.set w.in-Some.ensures.exact
          (omega (arith, w.if-as_slice-row-le-ROW_LIMIT.false, ap length w.as_slice.ensures, ap length w.as_slice-row.ensures))
      | then-depth-lt-DEPTH_LIMIT+in_default w ↦
          looked_absent m levels deeper c.args.node c.args.waiting walk (omega (arith, w.if-depth-lt-DEPTH_LIMIT.true)) w.in_default.ensures.exact
      | else-depth-lt-DEPTH_LIMIT w ↦ looked_last m levels c.args.node c.args.waiting walk (omega (arith, w.if-depth-lt-DEPTH_LIMIT.false))
    ] in
    c.keep.ensures ∙ sym stays
