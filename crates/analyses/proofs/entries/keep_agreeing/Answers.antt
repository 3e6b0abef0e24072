use Rattle.std.proofs.Common.{◌≡◌, ◌<◌, length, arith, refl, ap, ◌∙◌, length-set}
use Rattle.analyses.specs.Entries.{any_lost, agreeing}
use Rattle.analyses.proofs.Rewriting.{made_next, behind_next, known_next, rewritten, agreeing_merged}
use Rattle.analyses.proofs.entries.keep_agreeing.Goals as goal

pub loop-i-init : goal.loop-i-init
unfolding agreeing any_lost
loop-i-init g c = record { made = refl; behind = refl; known = refl; long = c.told-ours }

pub loop-i-preserved : goal.loop-i-preserved
loop-i-preserved g c =
    let eq = g.T.PartialEq.eq in
    let i = c.loop-i.i in
    let xs = c.args.ours.now in
    let ys = c.args.theirs.now in
    let zs = c.loop-i.ours in
    let h = c.loop-i.invariant in
    let within : i < length zs = omega (arith, h.long) in
    let inside : i < length ys = omega (arith, c.type_inv.theirs) in
    record {
      made = made_next eq xs ys zs i h.behind within inside c.index-ours-i.result c.index-theirs-i.result c.agree-both.result h.made c.agree-both.ensures;
      behind = behind_next xs zs i h.behind c.agree-both.result;
      known = known_next eq xs ys zs i h.behind within inside c.index-ours-i.result c.index-theirs-i.result c.agree-both.result c.loop-i.lost c.is_some.result c.is_none.result
          h.known c.agree-both.ensures c.is_some.ensures c.is_none.ensures;
      long = length-set zs i c.agree-both.result ∙ h.long;
    }

pub returns-clause-kept : goal.returns-clause-kept
returns-clause-kept g c =
    let h = c.loop-i.invariant in
    rewritten (λ k. agreeing g.T.PartialEq.eq k c.args.ours.now c.args.theirs.now) c.loop-i.ours c.loop-i.i (omega (arith, h.long)) (omega (arith, c.loop-i.auto.i-end)) h.made
    ∙ agreeing_merged g.T.PartialEq.eq c.args.ours.now c.args.theirs.now c.told-ours

pub returns-clause-lost : goal.returns-clause-lost
returns-clause-lost g c =
    let end : c.loop-i.i ≡ 8 = omega (arith, c.loop-i.auto.i-end) in
    c.loop-i.invariant.known ∙ ap (λ k. any_lost g.T.PartialEq.eq k c.args.ours.now c.args.theirs.now) end
