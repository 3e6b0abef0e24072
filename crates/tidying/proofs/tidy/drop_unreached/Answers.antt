use Rattle.std.proofs.Common.{◌≡◌, ℕ, ◌-◌, ◌<◌, Bool, false, List, map, length, get_or, take, sym, ap, ◌∙◌, subst, arith}
use Rattle.std.specs.List.{All}
use Rattle.std.proofs.lemmas.List.{length-take-le, take_at}
use Rattle.machine.specs.Programs.{prog}
use Rattle.tidying.specs.Reached.{reached_marks}
use Rattle.tidying.specs.Skips.{retargeted}
use Rattle.tidying.specs.Targets.{TargetsBelow}
use Rattle.tidying.specs.Tidy.{marked, rank}
use Rattle.tidying.proofs.Fronts.{front_still, front_long}
use Rattle.tidying.proofs.TidySteps.{program_targets, marked_all, retargeted_same}
use Rattle.tidying.proofs.tidy.drop_unreached.Goals as goal
use Rattle.tidying.proofs.tidy.drop_unreached.Goals.{After-keep-kept}

pub reach-requires-clause-still : goal.reach-requires-clause-still
reach-requires-clause-still c = front_still (length c.args.entries.now) 200 false c.requires.counted

-- the kept entries are the marked ones, before their targets are sent
kept_are : (c : After-keep-kept) → take c.keep-kept.result c.keep-kept.new.entries ≡ marked (reached_marks (prog c.args.entries.now c.args.first)) c.args.entries.now
kept_are c = c.keep-kept.ensures.0 ∙ ap (λ (l : List Bool). marked l c.args.entries.now) c.reach.ensures

-- each node's number is its rank
numbers_are : (c : After-keep-kept) (k : ℕ) → k < length c.args.entries.now → get_or c.number.new.numbers k 0 ≡ rank (reached_marks (prog c.args.entries.now c.args.first)) k
numbers_are c k below =
    let marks : length c.reach.new.marks ≡ length c.args.entries.now = c.reach.auto.marks ∙ front_long (length c.args.entries.now) 200 false c.requires.counted in
    c.number.ensures k (omega arith) ∙ ap (λ (l : List Bool). rank l k) c.reach.ensures

-- the targets of what is kept are nodes
kept_below : (c : After-keep-kept) → All (TargetsBelow (length c.args.entries.now)) (take (c.keep-kept.result - 0) c.keep-kept.new.entries)
kept_below c =
    let p = prog c.args.entries.now c.args.first in
    let zero-less : c.keep-kept.result - 0 ≡ c.keep-kept.result = omega arith in
    subst (All (TargetsBelow (length c.args.entries.now))) (sym (ap (λ k. take k c.keep-kept.new.entries) zero-less ∙ kept_are c))
    (marked_all (TargetsBelow (length c.args.entries.now)) (reached_marks p) c.args.entries.now (program_targets p c.requires))

pub send-requires : goal.send-requires
send-requires c =
    subst (λ (k : ℕ). All (TargetsBelow k) (take (c.keep-kept.result - 0) c.keep-kept.new.entries))
    (sym (c.number.auto.numbers ∙ front_long (length c.args.entries.now) 200 0 c.requires.counted))
    (kept_below (goal.at.send-requires c).After-keep-kept)

pub returns-clause-entries : goal.returns-clause-entries
returns-clause-entries c =
    let n = length c.args.entries.now in
    let p = prog c.args.entries.now c.args.first in
    let kept = c.keep-kept.result in
    let few = c.keep-kept.ensures.1 in
    let same = c.keep-kept.auto.entries in
    let here = (goal.at.returns-clause-entries c).After-keep-kept in
    let zero-less : kept - 0 ≡ kept = omega arith in
    let part : take (kept - 0) c.keep-kept.new.entries ≡ marked (reached_marks p) c.args.entries.now = ap (λ k. take k c.keep-kept.new.entries) zero-less ∙ kept_are here in
    let long : length c.send.new.entries ≡ kept =
    c.send.auto.entries ∙ ap (λ k. length (take k c.keep-kept.new.entries)) zero-less ∙ length-take-le kept c.keep-kept.new.entries (omega arith) in
    take_at c.send.new.entries _ kept long ∙ c.send.ensures
    ∙ retargeted_same (λ k. get_or c.number.new.numbers k 0) (rank (reached_marks p)) n (numbers_are here) (take (kept - 0) c.keep-kept.new.entries) (kept_below here)
    ∙ ap (map (retargeted (rank (reached_marks p)))) part
