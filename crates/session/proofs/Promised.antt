-- The promise over every series of calls.
use Rattle.std.proofs.Common.{ℕ, zero, suc, List, [], ◌∷◌, Some, None, Option, sym, refl, subst, arith}
use Rattle.machine.specs.Equivalent.{Equivalent}
use Rattle.machine.specs.Programs.{Prog, IsProgram, halting}
use Rattle.machine.specs.Reasons.{Reason}
use Rattle.machine.specs.WellFormed.{AllSound}
use Rattle.machine.proofs.Equivalences.{equivalent_refl, equivalent_trans}
use Rattle.text.specs.Texts.{Place, text_fault}
use Rattle.settling.proofs.Settled.{settles}
use Rattle.rounds.specs.Rounds.{declined, rounded}
use Rattle.rounds.proofs.Decided.{round_equivalent}
use Rattle.rounds.proofs.Whole.{round_program}
use Rattle.tidying.specs.Tidy.{tidied}
use Rattle.tidying.proofs.Skipless.{skipless_program}
use Rattle.tidying.proofs.Tidied.{tidied_program}
use Rattle.tidying.proofs.TidyCall.{tidy_equivalent}
use Rattle.session.specs.Series.{Pile, Lawful, Call, read, round, tidy, print, run, Programs, programs, opened, ReadObeys, round_holds, Obeys, After, Bounded, AllBounded, Promise}

-- what every call keeps
record Kept (s : Programs) : Type 0 where
  pub last : IsProgram s.last
  pub held : IsProgram s.held
  pub same : Equivalent s.last s.held

module _ (s : Programs) (kept : Kept s) where
  -- the held program gives way to an equivalent one
  onward : (q : Prog) → IsProgram q → Equivalent s.held q → Kept (programs s.last q)
  onward q ok same = record { last = kept.last; held = ok; same = equivalent_trans s.last s.held q kept.same same }

  read_keeps : (text : List ℕ) (fault : Option Place) (t : Programs) → ReadObeys text fault s t → Kept t
  read_keeps text (Some fault) t is = subst Kept (sym is) kept
  read_keeps text None t is =
      let ok = is.0.spells.program in
      record { last = ok; held = subst IsProgram (sym is.1) ok; same = subst (Equivalent t.last) (sym is.1) (equivalent_refl t.last) }

  round_keeps : (pile : Pile) → Lawful pile → (why : Option Reason) → Kept (programs s.last (round_holds why s.held (rounded pile.facts pile.moves s.held)))
  round_keeps pile lawful (Some why) = kept
  round_keeps pile lawful None =
      let v = pile.facts in
      let m = pile.moves in
      let p = s.held in
      onward (rounded v m p) (round_program v m lawful.moves p kept.held) (round_equivalent v m lawful.moves p kept.held (settles v m lawful.facts lawful.moves p kept.held).sound)

  call_keeps : (call : Call) (t : Programs) → Obeys call s t → Kept t
  call_keeps (read text) t is = read_keeps text (text_fault text) t is
  call_keeps (round pile lawful table list) t is = subst Kept (sym is) (round_keeps pile lawful (declined pile.facts pile.moves s.held table list))
  call_keeps tidy t is =
      subst Kept (sym is) (onward (tidied s.held) (tidied_program s.held (skipless_program s.held kept.held)) (tidy_equivalent s.held kept.held))
  call_keeps (print room) t is = subst Kept (sym is) kept
  call_keeps (run cells inputs room budget) t is = subst Kept (sym is) kept

  call_bounded : (call : Call) → Bounded call s
  call_bounded (read text) = tt
  call_bounded (round pile lawful table list) = λ allowed.
      let bound = (settles pile.facts pile.moves lawful.facts lawful.moves s.held kept.held).bound in omega arith
  call_bounded tidy = tt
  call_bounded (print room) = tt
  call_bounded (run cells inputs room budget) = tt

after_keeps : (calls : List Call) (s t : Programs) → Kept s → After calls s t → Kept t
after_keeps [] s t kept is = subst Kept (sym is) kept
after_keeps (call ∷ calls) s t kept is = after_keeps calls is.0 t (call_keeps s kept call is.0 is.1) is.2

all_bounded : (calls : List Call) (s : Programs) → Kept s → AllBounded calls s
all_bounded [] s kept = tt
all_bounded (call ∷ calls) s kept = (call_bounded s kept call, λ u is. all_bounded calls u (call_keeps s kept call u is))

halt_sound : AllSound 1 halting.entries
halt_sound zero below = refl
halt_sound (suc k) below = absurd (omega arith)

halt_program : IsProgram halting
halt_program = record { counted = omega arith; starts = omega arith; sound = halt_sound }

opened_kept : Kept opened
opened_kept = record { last = halt_program; held = halt_program; same = equivalent_refl halting }

pub promised : (calls : List Call) → Promise calls
promised calls = record { same = λ t is. (after_keeps calls opened t opened_kept is).same; visits = all_bounded calls opened opened_kept }
