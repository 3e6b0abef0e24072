use Rattle.std.proofs.Common.{◌≡◌, ◌+◌, ◌-◌, ◌<◌, length, Some, None, arith, rules}
use Rattle.machine.specs.Programs.{program_of}
use Rattle.rounds.specs.Changes.{replacement_of}
use Rattle.rounds.specs.Rounds.{size_after, offered}
use Rattle.rounds.proofs.RoundSteps.{Asked, asked_parts, asked_size, offered_is}
use Rattle.rounds.proofs.Rounding.{rounding_starts, rounding_none, rounding_short, rounding_made, rounding_ends}
use Rattle.rounds.proofs.round.change_nodes.Given as given
use Rattle.rounds.proofs.round.change_nodes.Goals as goal
use Rattle.rounds.proofs.round.change_nodes.Goals.{In-Some}

pub loop-at-init : goal.loop-at-init
loop-at-init g c =
    rounding_starts (g.P.Facts.facts c.args.pile.now) (g.P.Analysis.moves c.args.pile.now) (program_of c.args.program.now) c.args.facts.now c.args.changes.now

pub loop-at-preserved-in_default : goal.loop-at-preserved-in_default
loop-at-preserved-in_default g c =
    let v = g.P.Facts.facts c.args.pile.now in
    let m = g.P.Analysis.moves c.args.pile.now in
    let p = program_of c.args.program.now in
    let q = program_of c.loop-at.program in
    let below : c.loop-at.at < length p.entries = omega (arith, c.loop-at-test.true, c.count-at-end.ensures) in
    let none : offered v m p c.args.facts.now c.loop-at.at ≡ None =
    offered_is v m p q c.args.facts.now c.loop-at.at c.index-facts-at.result c.entries.result.now None (omega (arith, c.requires.each)) c.index-facts-at.is
    c.entries.ensures.value (c.loop-at.invariant.old c.loop-at.at (omega arith) below) c.in_default.ensures.exact in
    rounding_none v m p c.args.facts.now c.args.changes.now c.loop-at.at q c.loop-at.changes c.loop-at.made c.loop-at.short c.loop-at.invariant below none

-- what holds once a change was asked for
record Turn (g : given.Over) (c : In-Some g) : Type 0 where
  pub below : c.loop-at.at < length (program_of c.args.program.now).entries
  pub offers : offered (g.P.Facts.facts c.args.pile.now) (g.P.Analysis.moves c.args.pile.now) (program_of c.args.program.now) c.args.facts.now c.loop-at.at
      ≡ Some (replacement_of c.in-Some.change)
  pub asked : Asked (program_of c.loop-at.program) c.loop-at.at c.in-Some.change
  pub size : size_after (replacement_of c.in-Some.change) (length (program_of c.loop-at.program).entries) ≡ length (program_of c.loop-at.program).entries + c.in-Some.change.len - 1

turn : (g : given.Over) (c : In-Some g) → Turn g c
turn g c =
    let v = g.P.Facts.facts c.args.pile.now in
    let m = g.P.Analysis.moves c.args.pile.now in
    let p = program_of c.args.program.now in
    let q = program_of c.loop-at.program in
    let change = c.in-Some.change in
    let below : c.loop-at.at < length p.entries = omega (arith, c.loop-at-test.true, c.count-at-end.ensures) in
    let old = c.loop-at.invariant.old c.loop-at.at (omega arith) below in
    let offers : offered v m p c.args.facts.now c.loop-at.at ≡ Some (replacement_of change) =
    offered_is v m p q c.args.facts.now c.loop-at.at c.index-facts-at.result c.entries.result.now (Some (replacement_of change)) (omega (arith, c.requires.each)) c.index-facts-at.is
    c.entries.ensures.value old c.in-Some.ensures.exact in
    let asked = asked_parts v m p q c.args.facts.now c.loop-at.at change old offers c.in-Some.ensures.form in
    let four : length change.row ≡ 4 = search rules in
    record { below = below; offers = offers; asked = asked; size = asked_size q c.loop-at.at change asked four (length q.entries) }

pub loop-at-preserved-then-count-change-gt-NODE_LIMIT : goal.loop-at-preserved-then-count-change-gt-NODE_LIMIT
loop-at-preserved-then-count-change-gt-NODE_LIMIT g c =
    let t = turn g (goal.at.loop-at-preserved-then-count-change-gt-NODE_LIMIT g c).In-Some in
    rounding_short (g.P.Facts.facts c.args.pile.now) (g.P.Analysis.moves c.args.pile.now) (program_of c.args.program.now) c.args.facts.now c.args.changes.now
    c.loop-at.at (program_of c.loop-at.program) c.loop-at.changes c.loop-at.made c.loop-at.short c.loop-at.invariant t.below
    (replacement_of c.in-Some.change) t.offers (omega (arith, t.size, c.count.ensures, c.if-count-change-gt-NODE_LIMIT.true))

pub make-requires : goal.make-requires
make-requires g c =
    let t = turn g (goal.at.make-requires g c).In-Some in
    record {
      there = let s = c.loop-at.invariant.size in let b = t.below in let h = t.asked.here in omega arith;
      form = t.asked.form;
      len = t.asked.len;
      room = omega (arith, t.size, c.count.ensures, c.if-count-change-gt-NODE_LIMIT.false);
    }

pub loop-at-preserved : goal.loop-at-preserved
loop-at-preserved g c =
    let t = turn g (goal.at.loop-at-preserved g c).In-Some in
    rounding_made (g.P.Facts.facts c.args.pile.now) (g.P.Analysis.moves c.args.pile.now) (program_of c.args.program.now) c.args.facts.now c.args.changes.now
    c.loop-at.at (program_of c.loop-at.program) c.loop-at.changes c.loop-at.made c.loop-at.short c.loop-at.invariant t.below
    c.in-Some.change t.offers (omega (arith, t.size, c.count.ensures, c.if-count-change-gt-NODE_LIMIT.false)) c.in-Some.ensures.form
    (let f = c.loop-at.invariant.few in let b = t.below in let l = c.loop-at.invariant.long in omega (arith, c.requires.room)) (program_of c.make.new.program) c.make.ensures

pub returns : goal.returns
returns g c =
    let v = g.P.Facts.facts c.args.pile.now in
    let m = g.P.Analysis.moves c.args.pile.now in
    let p = program_of c.args.program.now in
    let n = c.count-at-end.ensures in
    rounding_ends v m p c.args.facts.now c.args.changes.now c.loop-at.at (program_of c.loop-at.program) c.loop-at.changes c.loop-at.made c.loop-at.short c.loop-at.invariant
    (omega (arith, c.loop-at-test.false)) (omega (arith, c.loop-at.auto.at-end)) c.requires.room
