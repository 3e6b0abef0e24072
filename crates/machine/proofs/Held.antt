-- The program that the code holds is one.
use Rattle.std.proofs.Common.{◌≡◌, ℕ, ◌<◌, List, length, take, Some, None, Option, IsSome, refl, sym, ap, ◌∙◌, subst, arith}
use Rattle.std.specs.Option.{option_map}
use Rattle.std.proofs.lemmas.List.{get_or-take, length-take-le}
use Rattle.machine.specs.declared.node.Entry.{Entry}
use Rattle.machine.specs.declared.program.Program.{Program}
use Rattle.machine.specs.Laws.{StaysValid}
use Rattle.machine.specs.Programs.{Prog, program_of, IsProgram}
use Rattle.machine.specs.Runs.{entry_of}
use Rattle.machine.specs.WellFormed.{AllSound, Sound, entry_at, blank}
use Rattle.machine.proofs.Tables.{long_enough}
use Rattle.machine.proofs.Validity.{valid_run}

pub held_count : (p : Program) → length (program_of p).entries ≡ p.count
held_count p = length-take-le p.count p.table.entries (long_enough p.count p.table.entries p.sound)

pub held_entry : (p : Program) (k : ℕ) → k < p.count → entry_of (program_of p) k ≡ entry_at p.table.entries k
held_entry p k below = get_or-take p.count p.table.entries k blank below

taken_sound : (n : ℕ) (entries : List Entry) → AllSound n entries → AllSound n (take n entries)
taken_sound n entries all k below = subst (λ (e : Entry). Sound n e) (sym (get_or-take n entries k blank below)) (all k below)

pub held_program : (p : Program) → IsProgram (program_of p)
held_program p =
    let n = held_count p in
    record {
      counted = omega (arith, p.counted);
      starts = omega (arith, p.starts);
      sound = subst (λ m. AllSound m (program_of p).entries) (sym n) (taken_sound p.count p.table.entries p.sound);
    }

pub held_valid : (p : Program) → StaysValid (program_of p)
held_valid p = valid_run (program_of p) (held_program p)

-- a program that is known to be made of a table is there, and it is the one that is known
pub made_some : (o : Option Program) (p : Prog) → option_map program_of o ≡ Some p → IsSome o
made_some None p e = let z : ◌≡◌ {A = ℕ} 0 1 = cc in absurd (omega arith)
made_some (Some q) p e = refl

pub made_is : (o : Option Program) (p : Prog) → option_map program_of o ≡ Some p → (q : Program) → o ≡ Some q → program_of q ≡ p
made_is o p made q held = let e : Some (program_of q) ≡ Some p = ap (option_map program_of) (sym held) ∙ made in cc
