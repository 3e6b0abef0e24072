-- Exits by their numbers.
use Rattle.std.specs.Prelude.{◌≡◌, ℕ, ◌⊎◌}
use Rattle.machine.specs.declared.node.Exits.{Exits}
use Rattle.machine.specs.declared.node.Exits.TheVariants as exits

-- e is the number of one of these exits
abbrev pub Has : Exits → ℕ → Type 0
Has exits.None e = ⊥
Has exits.One e = e ≡ 0
Has exits.Two e = (e ≡ 0) ⊎ (e ≡ 1)
