use Rattle.std.proofs.Common.{◌≡◌, ℕ, ◌<◌, Bool, true, false, List, length, sym, ap, ◌∙◌, ⊎_elim, arith}
use Rattle.machine.specs.Programs.{program_of}
use Rattle.machine.specs.declared.node.Entry.{Entry}
use Rattle.machine.specs.declared.program.Program.{Program}
use Rattle.machine.specs.Runs.{entry_of}
use Rattle.machine.specs.WellFormed.{entry_at}
use Rattle.tidying.specs.Skips.{is_skip}
use Rattle.machine.proofs.Held.{held_program}
use Rattle.tidying.proofs.Landing.{unknown_less, known_ring, known_walking, here_right, walk_right, found_is, walked_right}
use Rattle.tidying.proofs.PastLaws.{following_below, solid_here}
use Rattle.tidying.proofs.past.+land.Goals as goal

-- what the code sees of a node is so of the program's
at_entry : (program : Program) (n : ℕ) (entries : List Entry) (b : Bool) → entries ≡ (program_of program).entries
    → is_skip (entry_at entries n).node ≡ b → is_skip (entry_of (program_of program) n).node ≡ b
at_entry program n entries b is seen = ap (λ es. is_skip (entry_at es n).node) (sym is) ∙ seen

pub returns-in-Walking-clause-value : goal.returns-in-Walking-clause-value
returns-in-Walking-clause-value t c =
    let p = program_of c.args.program.now in
    ⊎_elim
    (λ is. known_walking p (held_program c.args.program.now) c.args.n c.requires.there c.args.ways.now c.requires.right is)
    (λ is. known_ring p (held_program c.args.program.now) c.args.n c.requires.there c.args.ways.now c.requires.right is)
    c.in-Walking.is

pub returns-then-not-is_skip-clause-value : goal.returns-then-not-is_skip-clause-value
returns-then-not-is_skip-clause-value t c =
    let solid = at_entry c.args.program.now c.args.n _ false c.entries.ensures.value (sym c.if-not-is_skip.ensures) in
    sym (solid_here (program_of c.args.program.now) c.args.n solid c.requires.there)

pub returns-then-not-is_skip-clause-right : goal.returns-then-not-is_skip-clause-right
returns-then-not-is_skip-clause-right t c =
    let solid = at_entry c.args.program.now c.args.n _ false c.entries.ensures.value (sym c.if-not-is_skip.ensures) in
    here_right (program_of c.args.program.now) (held_program c.args.program.now) c.args.n c.requires.there c.args.ways.now c.requires.right solid

pub land-found-requires : goal.land-found-requires
land-found-requires t c =
    let p = program_of c.args.program.now in
    let ok = held_program c.args.program.now in
    let skips = at_entry c.args.program.now c.args.n _ true c.entries.ensures.value (sym c.if-not-is_skip.ensures) in
    let inside : c.args.n < length c.args.ways.now = let e = c.requires.right.each in let h = c.requires.there in omega arith in
    let less = unknown_less c.args.ways.now c.args.n inside c.in-Unknown.is in (
      omega arith,
      rw c.entries.ensures.value
          (following_below p ok c.args.n skips c.requires.there, walk_right p ok c.args.n c.requires.there c.args.ways.now c.requires.right skips),
    )

pub returns-clause-value : goal.returns-clause-value
returns-clause-value t c =
    let p = program_of c.args.program.now in
    let skips = at_entry c.args.program.now c.args.n _ true c.entries.ensures.value (sym c.if-not-is_skip.ensures) in
    let found = rw c.entries.ensures.value at c.land-found.ensures in
    found_is p (held_program c.args.program.now) c.args.n c.requires.there c.args.ways.now c.requires.right skips c.land-found.new.ways found.right found.left c.land-found.result found.value

pub returns-clause-right : goal.returns-clause-right
returns-clause-right t c =
    let p = program_of c.args.program.now in
    let skips = at_entry c.args.program.now c.args.n _ true c.entries.ensures.value (sym c.if-not-is_skip.ensures) in
    let found = rw c.entries.ensures.value at c.land-found.ensures in
    rw c.from.ensures
    (walked_right p (held_program c.args.program.now) c.args.n c.requires.there c.args.ways.now c.requires.right skips c.land-found.new.ways found.right found.left c.land-found.result found.value)
