use Rattle.std.proofs.Common.{◌≡◌, ◌-◌, ◌<◌, ◌∷◌, length, get_or, take, drop, refl, ap, ◌∙◌, arith, rules}
use Rattle.std.proofs.lemmas.List.{length-take}
use Rattle.machine.specs.Programs.{program_of}
use Rattle.machine.specs.Runs.{entry_of}
use Rattle.machine.specs.WellFormed.{blank}
use Rattle.rounds.specs.Changes.{replacement_of, laid}
use Rattle.rounds.proofs.Making.{form_parts, made_is, first_others}
use Rattle.rounds.proofs.lay.make.Goals as goal

pub lay_out-entries-requires : goal.lay_out-entries-requires
lay_out-entries-requires c =
    let change = c.args.change.now in
    let parts = form_parts _ (replacement_of change).row change.way change.set c.requires.form in
    record {
      room = (let starts = c.entries.ensures.whole.starts in let n = c.count.ensures in omega arith, (let few = c.entries.ensures.whole.counted in let n = c.count.ensures in omega arith));
      len = c.requires.len;
      way = parts.1;
    }

pub returns : goal.returns
returns c =
    let change = c.args.change.now in
    let p = program_of c.args.program.now in
    let row = (replacement_of change).row in
    let entries = c.lay_out-entries.result in
    let some = (form_parts (entry_of p change.at).node row change.way change.set c.requires.form).0 in
    let four : length entries ≡ 4 = search rules in
    let nonempty : 0 < change.len = let shorter = length-take change.len change.row in omega arith in
    let old : get_or c.entries.result.now change.at blank ≡ entry_of p change.at = ap (λ es. get_or es change.at blank) c.entries.ensures.value in
    let is : get_or entries 0 blank ∷ take (change.len - 1) (drop 1 entries) ≡ laid (entry_of p change.at) change.way row (length p.entries - 1) =
    first_others entries change.len blank nonempty (omega (arith, c.requires.len)) ∙ c.lay_out-entries.ensures
    ∙ ap (λ e. laid e change.way row (c.count.result - 1)) old ∙ ap (λ n. laid (entry_of p change.at) change.way row (n - 1)) c.count.ensures in
    made_is c.args.program.now c.append.new.self c.replace.new.self c.append.result c.replace.result change.at (get_or entries 0 blank) (take (change.len - 1) (drop 1 entries))
    c.append.ensures.told c.append.ensures.changed c.replace.ensures.told c.replace.ensures.changed
    (replacement_of change) refl c.requires.there c.requires.form c.requires.room is
