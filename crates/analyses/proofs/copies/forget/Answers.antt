use Rattle.std.proofs.Common.{arith, refl, ◌∙◌, length-set}
use Rattle.analyses.specs.Copies.{cleared}
use Rattle.analyses.proofs.Rewriting.{cleared_more, behind_next, rewritten}
use Rattle.analyses.proofs.copies.forget.Goals as goal

pub loop-entry-init : goal.loop-entry-init
unfolding cleared
loop-entry-init c = record { made = refl; behind = refl; long = c.told-sources }

pub loop-entry-preserved : goal.loop-entry-preserved
loop-entry-preserved c =
    let i = c.loop-entry.entry-index in
    let xs = c.args.sources.now in
    let zs = c.loop-entry.sources in
    let entry = c.unless_named.result in
    let h = c.loop-entry.invariant in
    record {
      made = cleared_more c.args.register xs zs i _ entry h.behind (omega (arith, h.long)) h.made c.unless_named.ensures;
      behind = behind_next xs zs i h.behind entry;
      long = length-set zs i entry ∙ h.long;
    }

pub returns : goal.returns
returns c =
    let h = c.loop-entry.invariant in
    rewritten (λ k. cleared k c.args.register c.args.sources.now) c.loop-entry.sources c.loop-entry.entry-index (omega (arith, h.long)) (omega arith) h.made
