use Rattle.analysis.proofs.pile.shows_all.Goals as goal

pub returns-clause-moves : goal.returns-clause-moves
returns-clause-moves g c = g.met.P.Analysis.sound c.args.pile.now
