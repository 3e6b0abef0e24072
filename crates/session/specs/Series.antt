-- Series of calls on a session, each with its own arguments, and what holds after every one of them.
use Rattle.std.specs.Prelude.{◌≡◌, ℕ, ◌*◌, ◌≤◌, List, [], ◌∷◌, length, Some, None, Option}
use Rattle.machine.specs.Equivalent.{Equivalent}
use Rattle.machine.specs.Programs.{Prog, halting}
use Rattle.machine.specs.Reasons.{Reason}
use Rattle.text.specs.Reads.{SpellsJust}
use Rattle.text.specs.Texts.{Place, text_fault}
use Rattle.analysis.specs.Analyses.{MovesOf, MovesShow}
use Rattle.analysis.specs.Facts.{FactsOf, FactsShow}
use Rattle.settling.specs.Settling.{visits_told}
use Rattle.rounds.specs.Rounds.{declined, rounded}
use Rattle.tidying.specs.Tidy.{tidied}

-- a pile as a value
pub record Pile : Type 1 where
  pub Fact : Type 0
  pub facts : FactsOf Fact
  pub moves : MovesOf Fact

abbrev pub pile_of : {Fact : Type 0} → FactsOf Fact → MovesOf Fact → Pile
pile_of {Fact} v m = record { Fact = Fact; facts = v; moves = m }

-- it shows all that is asked of an analysis
pub record Lawful (pile : Pile) : Type 0 where
  pub facts : FactsShow pile.facts
  pub moves : MovesShow pile.facts pile.moves

-- a call with its arguments; of a table, a list and a buffer their lengths
pub data Call : Type 1 where
  read : (text : List ℕ) → Call
  round : (pile : Pile) → Lawful pile → (table list : ℕ) → Call
  tidy : Call
  print : (room : ℕ) → Call
  run : (cells inputs : List ℕ) (room budget : ℕ) → Call

-- the program last read, and the one held now
pub record Programs : Type 0 where
  pub last : Prog
  pub held : Prog

abbrev pub programs : Prog → Prog → Programs
programs last held = record { last = last; held = held }

-- a new session
abbrev pub opened : Programs
opened = programs halting halting

-- a text with a fault is declined; of any other the one program that it spells is read and held
abbrev pub ReadObeys : List ℕ → Option Place → Programs → Programs → Type 0
ReadObeys text (Some fault) s t = t ≡ s
ReadObeys text None s t = SpellsJust text t.last × (t.held ≡ t.last)

abbrev pub round_holds : Option Reason → Prog → Prog → Prog
round_holds (Some why) before after = before
round_holds None before after = after

-- what a call makes of the two programs; whether it declines follows from its arguments
abbrev pub Obeys : Call → Programs → Programs → Type 0
Obeys (read text) s t = ReadObeys text (text_fault text) s t
Obeys (round pile lawful table list) s t =
    t ≡ programs s.last (round_holds (declined pile.facts pile.moves s.held table list) s.held (rounded pile.facts pile.moves s.held))
Obeys tidy s t = t ≡ programs s.last (tidied s.held)
Obeys (print room) s t = t ≡ s
Obeys (run cells inputs room budget) s t = t ≡ s

-- whatever program was read last, the call leads from it and the program held before to the one held after
abbrev pub Did : Call → Prog → Prog → Type 0
Did call before after = (last : Prog) → (last' : Prog) × Obeys call (programs last before) (programs last' after)

-- one call after another leads from s to t
abbrev pub After : List Call → Programs → Programs → Type 0
After [] s t = t ≡ s
After (call ∷ calls) s t = (u : Programs) × Obeys call s u × After calls u t

-- a round that is not declined tells at most nodes times height visits
abbrev pub Bounded : Call → Programs → Type 0
Bounded (read text) s = Unit {0}
Bounded (round pile lawful table list) s =
    declined pile.facts pile.moves s.held table list ≡ None → visits_told pile.facts pile.moves s.held ≤ length s.held.entries * pile.facts.height
Bounded tidy s = Unit {0}
Bounded (print room) s = Unit {0}
Bounded (run cells inputs room budget) s = Unit {0}

abbrev pub AllBounded : List Call → Programs → Type 0
AllBounded [] s = Unit {0}
AllBounded (call ∷ calls) s = Bounded call s × ((u : Programs) → Obeys call s u → AllBounded calls u)

-- after the series, from a new session on, no machine can tell the program last read from the one held
pub record Promise (calls : List Call) : Type 0 where
  pub same : (t : Programs) → After calls opened t → Equivalent t.last t.held
  pub visits : AllBounded calls opened
