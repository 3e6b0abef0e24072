use Rattle.std.proofs.Common.{◌≡◌, false, List, sym, ap, ◌∙◌, subst}
use Rattle.analysis.specs.Deeps.{Course, looked, course, course_of}
use Rattle.machine.specs.declared.node.Node.{Node}
use Rattle.analysis.specs.Turns.{Turns, begins_at, ends_at}
use Rattle.analysis.proofs.Turned.{course_turns}
use Rattle.analysis.proofs.deep.follow.Goals as goal

pub returns : goal.returns
returns g c =
    let m = g.A.Analysis.moves c.args.a.now in
    let f = c.args.fact.now in
    let from : List Node → Course g.row.A-Fact.Denot = λ done. looked m 3 c.args.node 0 (record { fact = f; done = done; way = 0; numbers = 0; replaced = false }) in
    let whole : course_of c.look.new.walk ≡ course m f c.args.node = c.look.ensures.course ∙ ap from c.empty.ensures in
    record {
      course = whole;
      turns = subst (λ (w : Course g.row.A-Fact.Denot). Turns m (begins_at f c.args.node) (ends_at w)) (sym whole) (course_turns m f c.args.node);
    }
