-- What one argument changes in a request.
use Rattle.std.specs.Prelude.{◌≡◌, ◌<◌, [], ◌∷◌, ◌++◌, vec_items, slice_set}
use Rattle.machine.specs.Limits.{cell_count}
use Rattle.run.specs.declared.arguments.Argument.{Argument}
use Rattle.run.specs.declared.arguments.Argument.TheVariants.{Budget, Cell, Input}
use Rattle.run.specs.declared.request.Request.{Request}

abbrev pub InRange : Argument → Type 0
InRange (Budget v) = Unit {0}
InRange (Cell s) = s.cell < cell_count
InRange (Input v) = Unit {0}

-- b is a with what the argument asks for, and no other change
abbrev pub Put : Request → Argument → Request → Type 0
Put a (Budget v) b = (b.file ≡ a.file) × (b.budget ≡ v) × (b.cells ≡ a.cells) × (b.inputs ≡ a.inputs)
Put a (Cell s) b = (b.file ≡ a.file) × (b.budget ≡ a.budget) × (b.cells ≡ slice_set a.cells s.cell s.word) × (b.inputs ≡ a.inputs)
Put a (Input v) b = (b.file ≡ a.file) × (b.budget ≡ a.budget) × (b.cells ≡ a.cells) × (vec_items b.inputs ≡ vec_items a.inputs ++ (v ∷ []))
