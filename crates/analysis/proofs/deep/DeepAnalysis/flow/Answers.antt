use Rattle.std.proofs.Common.{sym, ap, ◌∙◌, subst}
use Rattle.analysis.specs.Forms.{Proper}
use Rattle.analysis.specs.Deeps.{Course, fact_at, last_of}
use Rattle.machine.specs.declared.node.Node.TheVariants.{Skip}
use Rattle.analysis.specs.DeepLaws.{deep_sound, done_last_proper}
use Rattle.analysis.proofs.Replies.{flow_shows}
use Rattle.analysis.proofs.deep.DeepAnalysis.flow.Goals as goal

pub at_exit-requires : goal.at_exit-requires
at_exit-requires g c =
    subst (λ (w : Course g.row.A-Fact.Denot). Proper (last_of Skip w.done)) (sym c.follow-walk.ensures.course)
    (done_last_proper (g.met.A.Analysis.sound c.args.self.now.inner) c.args.fact.now c.args.node c.requires)

pub returns : goal.returns
returns g c =
    let inner = c.args.self.now.inner in
    let m = g.A.Analysis.moves inner in
    let v = g.A.Facts.facts inner in
    let exact = c.at_exit.ensures ∙ ap (λ (w : Course g.row.A-Fact.Denot). fact_at m v w c.args.exit) c.follow-walk.ensures.course in
    record {
      exact = exact;
      shows = flow_shows (deep_sound (g.met.A.Analysis.sound inner)) c.args.fact.now c.args.node c.args.exit c.requires exact;
    }
