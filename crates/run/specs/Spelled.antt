-- How the arguments are spelled.
use Rattle.std.specs.Prelude.{◌≡◌, ℕ, ◌<◌, true, List, ◌∷◌, ◌++◌, length, codes, Option, MatchOption}
use Rattle.std.specs.Str.{all_ascii_digits}
use Rattle.machine.specs.Limits.{cell_count, word_limit}
use Rattle.text.specs.Numbers.{value_of}
use Rattle.run.specs.declared.arguments.Argument.{Argument}
use Rattle.run.specs.declared.arguments.Argument.TheVariants.{Budget, Cell, Input}
use Rattle.run.specs.declared.arguments.CellWord.{CellWord}

-- decimal digits, at least one, that write the word v
abbrev pub Writes : List ℕ → ℕ → Type 0
Writes bs v = (0 < length bs) × (all_ascii_digits bs ≡ true) × (value_of bs < word_limit) × (v ≡ value_of bs)

-- `c`, the number of a cell, `=` and a word
abbrev pub WritesCell : List ℕ → CellWord → Type 0
WritesCell bs s = (ks : List ℕ) × (ws : List ℕ) × (bs ≡ 99 ∷ (ks ++ (61 ∷ ws))) × Writes ks s.cell × (s.cell < cell_count) × Writes ws s.word

abbrev pub WritesBudget : List ℕ → ℕ → Type 0
WritesBudget bs v = (ws : List ℕ) × (bs ≡ codes "budget=" ++ ws) × Writes ws v

abbrev pub Spells : List ℕ → Argument → Type 0
Spells bs (Budget v) = WritesBudget bs v
Spells bs (Cell s) = WritesCell bs s
Spells bs (Input v) = Writes bs v

-- r is something that bs writes, and None only where bs writes nothing
abbrev pub Reads : {X : Type 0} → (List ℕ → X → Type 0) → List ℕ → Option X → Type 0
Reads W bs r = MatchOption r ((x : _) → W bs x → ⊥) (λ x. W bs x)

abbrev pub WordRead : List ℕ → Option ℕ → Type 0
WordRead bs r = Reads Writes bs r

abbrev pub CellRead : List ℕ → Option CellWord → Type 0
CellRead bs r = Reads WritesCell bs r

abbrev pub BudgetRead : List ℕ → Option ℕ → Type 0
BudgetRead bs r = Reads WritesBudget bs r

abbrev pub ArgumentRead : List ℕ → Option Argument → Type 0
ArgumentRead bs r = Reads Spells bs r
