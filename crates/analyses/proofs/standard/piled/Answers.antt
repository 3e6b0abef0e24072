use Rattle.analysis.specs.DeepLaws.{deep_sound}
use Rattle.analysis.specs.PairLaws.{pair_shown, pair_sound}
use Rattle.analyses.proofs.standard.piled.Goals as goal

pub returns : goal.returns
returns g c =
    let fa = g.met.A.Facts.shown c.args.a in
    let fb = g.met.B.Facts.shown c.args.b in
    let fc = g.met.C.Facts.shown c.args.c in
    let fd = g.met.D.Facts.shown c.args.d in
    let two = pair_shown fc fd in
    let three = pair_shown fb two in
    let two-sound = pair_sound fc fd (g.met.C.Analysis.sound c.args.c) (g.met.D.Analysis.sound c.args.d) in
    let three-sound = pair_sound fb two (g.met.B.Analysis.sound c.args.b) two-sound in
    record {
      facts = pair_shown fa three;
      moves = deep_sound (pair_sound fa three (g.met.A.Analysis.sound c.args.a) three-sound);
    }
