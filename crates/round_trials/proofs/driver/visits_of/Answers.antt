use Rattle.std.proofs.Common.{◌≡◌, ℕ, ◌≤◌, length, Ok, Err, Result, IsOk, refl, arith}
use Rattle.machine.proofs.Held.{held_program}
use Rattle.machine.specs.Limits.{node_limit}
use Rattle.machine.specs.Programs.{program_of}
use Rattle.settling.specs.declared.settle.ShortTable.{ShortTable}
use Rattle.settling.specs.Settling.{numbered}
use Rattle.round_trials.proofs.Told.{settles_told}
use Rattle.round_trials.proofs.driver.visits_of.Goals as goal

ok_told : (r : Result ℕ ShortTable) (visits : ℕ) → numbered r ≡ Ok visits → IsOk r
ok_told (Ok v) visits e = refl
ok_told (Err short) visits e = let z : ◌≡◌ {A = ℕ} 0 1 = cc in absurd (omega arith)

pub unwrap-requires : goal.unwrap-requires
unwrap-requires g c =
    let room : node_limit ≤ length c.deref_mut.result.now = omega (arith, c.in_ok-table.ensures, c.deref_mut.ensures.len) in
    ok_told c.settle.result _ (settles_told (g.P.Facts.facts c.args.pile.now) (g.P.Analysis.moves c.args.pile.now) (program_of c.args.program.now) (held_program c.args.program.now)
    c.deref_mut.result.now room (numbered c.settle.result) c.settle.new.table c.settle.ensures.exact)
