use Rattle.std.proofs.Common.{◌≡◌, ◌-◌, ◌≤◌, length, take, Err, sym, ap, ◌∙◌, subst, ⊎_elim, arith}
use Rattle.std.proofs.lemmas.Result.{err_from_is_err_and}
use Rattle.machine.proofs.Equivalences.{equivalent_refl}
use Rattle.machine.proofs.Held.{held_program}
use Rattle.machine.specs.Programs.{program_of}
use Rattle.settling.proofs.Settled.{settled_length, settles}
use Rattle.settling.specs.Settling.{settled_facts}
use Rattle.rounds.specs.declared.change.RoundRefusal.TheVariants.{ShortTable}
use Rattle.rounds.specs.Rounds.{numbered, RoundCall}
use Rattle.rounds.proofs.Judged.{judges}
use Rattle.rounds.proofs.RoundCalls.{declines_list, declines_table, WasSettled, was_settled, front_settled, rounds, rounds_equivalent}
use Rattle.rounds.proofs.round.round.Given as given
use Rattle.rounds.proofs.round.round.Goals as goal
use Rattle.rounds.proofs.round.round.Goals.{In_ok-visits}

pub returns-then-table-nodes : goal.returns-then-table-nodes
returns-then-table-nodes g c =
    let p = program_of c.args.program.now in
    record {
      exact = declines_list (g.P.Facts.facts c.args.pile.now) (g.P.Analysis.moves c.args.pile.now) p c.args.table.now c.args.changes.now c.count-nodes.result
          c.count-nodes.ensures c.if-changes-nodes.true c.if-table-nodes.true;
      equivalent = equivalent_refl p;
      settles = settles _ _ (g.met.P.Facts.shown c.args.pile.now) (g.met.P.Analysis.sound c.args.pile.now) p (held_program c.args.program.now);
      judges = judges (g.P.Facts.facts c.args.pile.now) (g.P.Analysis.moves c.args.pile.now) p (settled_facts (g.P.Facts.facts c.args.pile.now) (g.P.Analysis.moves c.args.pile.now) p);
    }

pub returns-in_err-visits : goal.returns-in_err-visits
returns-in_err-visits g c =
    let v = g.P.Facts.facts c.args.pile.now in
    let m = g.P.Analysis.moves c.args.pile.now in
    let p = program_of c.args.program.now in
    let nodes = c.in_err-visits.field-0.0.nodes in
    let left = err_from_is_err_and c.from_residual.result c.from_residual.ensures.1 in
    let told : c.from_residual.result ≡ Err (ShortTable nodes) = left.1 ∙ ap Err left.2 in
    record {
      exact = subst (λ r. RoundCall v m p c.args.table.now c.args.changes.now (numbered r) p c.settle.new.table c.args.changes.now) (sym told)
          (declines_table v m p c.args.table.now c.args.changes.now nodes c.settle.new.table c.in_err-visits.ensures.exact);
      equivalent = equivalent_refl p;
      settles = c.in_err-visits.ensures.settles;
      judges = judges v m p (settled_facts v m p);
    }

-- what holds once the program is settled
record Settled (g : given.Over) (c : In_ok-visits g) : Type 0 where
  pub was : WasSettled (g.P.Facts.facts c.args.pile.now) (g.P.Analysis.moves c.args.pile.now) (program_of c.args.program.now) c.args.table.now c.args.changes.now c.in_ok-visits.visits
      c.settle.new.table
  pub room : length (program_of c.args.program.now).entries ≤ length c.args.changes.now
  pub front : take (c.count-nodes.result - 0) c.settle.new.table
      ≡ settled_facts (g.P.Facts.facts c.args.pile.now) (g.P.Analysis.moves c.args.pile.now) (program_of c.args.program.now)

settled : (g : given.Over) (c : In_ok-visits g) → Settled g c
settled g c =
    let v = g.P.Facts.facts c.args.pile.now in
    let m = g.P.Analysis.moves c.args.pile.now in
    let p = program_of c.args.program.now in
    let was = was_settled v m p c.args.table.now c.args.changes.now c.in_ok-visits.visits c.settle.new.table c.in_ok-visits.ensures.exact in
    let count = c.count-nodes.ensures in
    record {
      was = was;
      room = ⊎_elim (λ shorter. let r = was.room in let b = shorter.1 in absurd (omega arith)) (λ fits. omega arith) c.else-changes-nodes.either;
      front = front_settled v m p c.args.table.now c.args.changes.now (g.met.P.Facts.shown c.args.pile.now) (g.met.P.Analysis.sound c.args.pile.now)
          (held_program c.args.program.now) c.count-nodes.result c.in_ok-visits.visits c.settle.new.table count was;
    }

pub change_nodes-made-requires : goal.change_nodes-made-requires
change_nodes-made-requires g c =
    let s = settled g (goal.at.change_nodes-made-requires g c).In_ok-visits in
    let long = settled_length _ _ (g.met.P.Facts.shown c.args.pile.now) (g.met.P.Analysis.sound c.args.pile.now) (program_of c.args.program.now) (held_program c.args.program.now) in
    record { each = ap length s.front ∙ long; room = s.room }

pub returns : goal.returns
returns g c =
    let s = settled g (goal.at.returns g c).In_ok-visits in
    let v = g.P.Facts.facts c.args.pile.now in
    let m = g.P.Analysis.moves c.args.pile.now in
    let shown = g.met.P.Facts.shown c.args.pile.now in
    let sound = g.met.P.Analysis.sound c.args.pile.now in
    let p = program_of c.args.program.now in
    let ok = held_program c.args.program.now in
    let made = c.change_nodes-made.result.0 in
    let short = c.change_nodes-made.result.1 in
    let q = program_of c.change_nodes-made.new.program in
    let facts = take (c.count-nodes.result - 0) c.settle.new.table in
    record {
      exact = rounds v m p c.args.table.now c.args.changes.now shown sound ok c.in_ok-visits.visits made short facts c.settle.new.table q c.change_nodes-made.new.changes
          s.was s.room s.front c.change_nodes-made.ensures;
      equivalent = rounds_equivalent v m p c.args.table.now c.args.changes.now shown sound ok c.in_ok-visits.visits made short facts c.settle.new.table q c.change_nodes-made.new.changes
          s.was s.room s.front c.change_nodes-made.ensures;
      settles = c.in_ok-visits.ensures.settles;
      judges = judges v m p (settled_facts v m p);
    }
