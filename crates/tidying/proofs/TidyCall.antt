-- What a caller of `tidy` finds, from what its parts tell.
use Rattle.std.proofs.Common.{◌≡◌, ℕ, ◌≤◌, true, List, ◌++◌, length, take, Some, Option, sym, ap, ◌∙◌, arith}
use lib.Seq.{take-append-le}
use Rattle.std.specs.Option.{IsSome, option_map}
use Rattle.std.proofs.lemmas.List.{length-append, length-take-le, take_all}
use Rattle.machine.specs.declared.node.Entry.{Entry}
use Rattle.machine.specs.declared.program.Program.{Program}
use Rattle.machine.specs.Equivalent.{Equivalent}
use Rattle.machine.specs.Programs.{Prog, prog, program_of, IsProgram, checked, every_sound}
use Rattle.machine.proofs.Tables.{all_every, checked_good}
use Rattle.machine.proofs.Held.{made_some, made_is}
use Rattle.tidying.specs.Tidy.{tidied, Tidies}
use Rattle.tidying.proofs.Skipless.{skipless_equivalent, skipless_program}
use Rattle.tidying.proofs.Tidied.{tidied_tidies, tidied_equivalent, tidied_program}

module _ (p : Prog) (ok : IsProgram p) where
  whole : IsProgram (tidied p)
  whole = tidied_program p (skipless_program p ok)

  pub tidy_equivalent : Equivalent p (tidied p)
  tidy_equivalent = tidied_equivalent p ok (skipless_program p ok) (skipless_equivalent p ok)

  pub tidy_tidies : Tidies p (tidied p)
  tidy_tidies = tidied_tidies p (skipless_program p ok)

  module _ (table : List Entry) (kept first : ℕ) (is : take kept table ≡ (tidied p).entries) (room : kept ≤ length table) (starts : first ≡ (tidied p).first) where
    kept_is : kept ≡ length (tidied p).entries
    kept_is = sym (length-take-le kept table room) ∙ ap length is

    every : every_sound kept (take kept table) ≡ true
    every =
        let es = (tidied p).entries in
        let good : every_sound (length es) (take (length es) es) ≡ true = all_every (length es) es whole.sound in
        let all : take (length es) es ≡ es = take_all (length es) es (omega arith) in
        ap (λ k. every_sound k (take kept table)) kept_is ∙ ap (every_sound (length es)) (is ∙ sym all) ∙ good

    checked_is : checked table kept first ≡ Some (tidied p)
    checked_is =
        let n = kept_is in
        checked_good table kept first (let c = whole.counted in omega arith) (let s = whole.starts in omega arith) every
        ∙ ap (λ es. Some (prog es first)) is ∙ ap (λ f. Some (prog (tidied p).entries f)) starts

  -- a table whose front was tidied makes the tidied program
  module _ (part rest : List Entry) (kept first : ℕ) (below : kept ≤ length part) (is : take kept part ≡ (tidied p).entries) (starts : first ≡ (tidied p).first)
      (o : Option Program) (made : option_map program_of o ≡ checked (part ++ rest) kept first) where
    tidied_made : option_map program_of o ≡ Some (tidied p)
    tidied_made =
        let longer = length-append part rest in
        made ∙ checked_is (part ++ rest) kept first (take-append-le kept part rest below ∙ is) (omega arith) starts

    pub tidied_some : IsSome o
    tidied_some = made_some o (tidied p) tidied_made

    pub tidied_is : (q : Program) → o ≡ Some q → program_of q ≡ tidied p
    tidied_is = made_is o (tidied p) tidied_made
