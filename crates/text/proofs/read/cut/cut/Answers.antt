use Rattle.std.proofs.Common.{◌+◌, ◌∷◌, take, sym, ap, ◌∙◌, rules}
use Rattle.std.proofs.lemmas.List.{take_rest}
use Rattle.text.specs.Cuts.{parts}
use Rattle.text.proofs.Cut.{cut_found, cut_whole}
use Rattle.text.proofs.read.cut.cut.Goals as goal

pub returns-in-Some-clause-parts : goal.returns-in-Some-clause-parts
returns-in-Some-clause-parts c =
    cut_found c.args.sep c.args.text.now c.in-Some.end (search rules) (search rules) (search rules)
    ∙ ap (λ r. take c.in-Some.end c.args.text.now ∷ parts c.args.sep r) (sym (take_rest c.args.text.now (c.in-Some.end + 1)))

pub returns-in-None-clause-parts : goal.returns-in-None-clause-parts
returns-in-None-clause-parts c = cut_whole c.args.sep c.args.text.now (search rules)
