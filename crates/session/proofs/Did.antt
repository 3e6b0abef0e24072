-- Each call did what the definition of a series says of it.
use Rattle.std.proofs.Common.{◌≡◌, ℕ, List, length, Some, None, Ok, Err, Option, Result, sym, refl, ap, subst, arith}
use Rattle.std.specs.Option.{option_map}
use Rattle.machine.specs.Programs.{Prog}
use Rattle.machine.specs.Reasons.{Reason}
use Rattle.text.specs.Texts.{Place, text_fault}
use Rattle.analysis.specs.Analyses.{MovesOf}
use Rattle.analysis.specs.Facts.{FactsOf}
use Rattle.rounds.specs.declared.change.Change.{Change}
use Rattle.rounds.specs.declared.change.Counts.{Counts}
use Rattle.rounds.specs.Rounds.{declined, rounded, Round, RoundCall}
use Rattle.tidying.specs.Tidy.{tidied}
use Rattle.session.specs.declared.refusal.Refusal.{Refusal}
use Rattle.session.specs.Calls.{ReadCall}
use Rattle.session.specs.Refusals.{reason_of, text_reason}
use Rattle.session.specs.Series.{Lawful, pile_of, read, round, tidy, programs, ReadObeys, round_holds, Did}

pub read_did : (text : List ℕ) (before : Prog) (r : Result ℕ Refusal) (after : Prog) → ReadCall text before r after → Did (read text) before after
read_did text before (Ok nodes) after call last =
    (after, subst (λ o. ReadObeys text o (programs last before) (programs after after)) (sym call.0.spells.passes) (call.0, refl))
read_did text before (Err e) after call last = (last, go (text_fault text) call.0)
  where
    go : (o : Option Place) → option_map text_reason o ≡ Some (reason_of e) → ReadObeys text o (programs last before) (programs last after)
    go (Some fault) told = ap (programs last) call.1
    go None told = let z : ◌≡◌ {A = ℕ} 0 1 = cc in absurd (omega arith)

module _ {Fact : Type 0} (v : FactsOf Fact) (m : MovesOf Fact) (p : Prog) (table : List Fact) (list : List Change) (r : Result Counts Reason) (p' : Prog) (table' : List Fact) (list' : List Change) where
  held_after : (why : Option Reason) → Round v m p why table list r p' table' list' → p' ≡ round_holds why p (rounded v m p)
  held_after (Some why) call = call.1
  held_after None call = call.1

  pub round_did : RoundCall v m p table list r p' table' list' → (lawful : Lawful (pile_of v m)) → Did (round (pile_of v m) lawful (length table) (length list)) p p'
  round_did call lawful last = (last, ap (programs last) (held_after (declined v m p (length table) (length list)) call))

pub tidy_did : (p q : Prog) → q ≡ tidied p → Did tidy p q
tidy_did p q is last = (last, ap (programs last) is)
