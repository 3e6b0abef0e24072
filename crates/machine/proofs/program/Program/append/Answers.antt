use Rattle.std.proofs.Common.{◌≡◌, ℕ, ◌+◌, ◌≤◌, List, ◌++◌, length, take, sym, refl, subst, arith}
use borrow.Rule.Slice.PartMut.{put_mid}
use Rattle.std.proofs.lemmas.List.{length-append, length-take-le}
use Rattle.std.proofs.lemmas.Slice.{take-put_mid}
use Rattle.machine.specs.declared.node.Entry.{Entry}
use Rattle.machine.proofs.Tables.{appended_sound, long_enough}
use Rattle.machine.proofs.program.Program.append.Goals as goal

copied : (n k : ℕ) (entries more part : List Entry) → n ≤ length entries → part ≡ more → take (n + length more) (put_mid n k entries part) ≡ take n entries ++ more
copied n k entries more part fits is =
    subst (λ ys. take (n + length ys) (put_mid n k entries part) ≡ take n entries ++ ys) is (take-put_mid n k entries part _ refl fits)

long : (n k : ℕ) (entries more part : List Entry) → n ≤ length entries → part ≡ more → n + length more ≤ length (put_mid n k entries part)
long n k entries more part fits is = rw (← is) (omega (arith, length-append {A = Entry}, length-take-le {A = Entry}))

pub invariant_of-self : goal.invariant_of-self
invariant_of-self c =
    let old = c.args.self.now in
    let fits = long_enough old.count old.table.entries old.sound in
    record {
      counted = omega arith;
      starts = omega (arith, old.starts);
      sound =
          appended_sound old.count (old.count + length c.args.more.now) old.table.entries _ c.args.more.now
          (omega arith) (long old.count _ old.table.entries c.args.more.now _ fits c.copy_from_slice.ensures.after) old.sound (sym c.if-not-are_sound.ensures)
          (copied old.count _ old.table.entries c.args.more.now _ fits c.copy_from_slice.ensures.after);
    }
