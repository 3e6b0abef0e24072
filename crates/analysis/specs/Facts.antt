-- Facts as a value, and what they must show.
use Rattle.std.specs.Prelude.{◌≡◌, ℕ, ◌<◌, ◌≤◌, Bool, true, false}
use Rattle.machine.specs.State.{State}

-- what the set of a fact is made of: states, registers or cells
pub data Point : Type 0 where
  state : State → Point
  register : ℕ → Point
  cell : ℕ → Point

pub record FactsOf (Fact : Type 0) : Type 1 where
  pub height : ℕ
  pub rank : Fact → ℕ
  pub allows : Fact → Point → Type 0
  pub nowhere : Fact
  pub joined : Fact → Fact → Fact
  pub rises : Fact → Fact → Bool

pub record FactsShow {Fact : Type 0} (v : FactsOf Fact) : Type 0 where
  pub low : (f : Fact) → v.rank f ≤ v.height
  pub bottom : v.rank v.nowhere ≡ 0
  -- a fact of rank 0 allows nothing
  pub empty : (f : Fact) (p : Point) → v.rank f ≡ 0 → v.allows f p → ⊥
  -- a join allows what either allows
  pub left : (f g : Fact) (p : Point) → v.allows f p → v.allows (v.joined f g) p
  pub right : (f g : Fact) (p : Point) → v.allows g p → v.allows (v.joined f g) p
  -- a fact that did not rise is the same, and one that rose has a higher rank
  pub same : (f g : Fact) → v.rises f g ≡ false → v.joined f g ≡ f
  pub higher : (f g : Fact) → v.rises f g ≡ true → v.rank f < v.rank (v.joined f g)
