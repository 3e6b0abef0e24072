-- What reading a text answers, and which texts are read.
use Rattle.std.specs.Prelude.{◌≡◌, ℕ, List, Some, None, Result, MatchResult}
use Rattle.machine.specs.declared.program.Program.{Program}
use Rattle.machine.specs.Programs.{Prog, IsProgram, program_of}
use Rattle.text.specs.declared.refusal.TextRefusal.{TextRefusal}
use Rattle.text.specs.Print.{printed}
use Rattle.text.specs.Texts.{text_fault, refusal_told}

-- the text passes every check, and is what is printed of the program
pub record Spells (text : List ℕ) (p : Prog) : Type 0 where
  pub program : IsProgram p
  pub passes : text_fault text ≡ None
  pub prints : printed p ≡ text

-- and of no other program
pub record SpellsJust (text : List ℕ) (p : Prog) : Type 0 where
  pub spells : Spells text p
  pub alone : (q : Prog) → Spells text q → q ≡ p

-- the one program that the text spells, or the text's first fault
abbrev pub ReadAs : List ℕ → Result Program TextRefusal → Type 0
ReadAs text r = MatchResult r (λ p. SpellsJust text (program_of p)) (λ f. text_fault text ≡ Some (refusal_told f))
