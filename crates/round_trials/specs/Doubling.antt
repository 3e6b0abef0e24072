-- An analysis that proposes two skips for one, as a value. Its facts are those of the sample.
use Rattle.std.specs.Prelude.{Bool, true, [], ◌∷◌}
use Rattle.machine.specs.declared.node.Node.{Node}
use Rattle.machine.specs.declared.node.Node.TheVariants.{Mov, Binary, In, Out, Ld, St, Br, Skip, Halt, Fail}
use Rattle.analysis.specs.Analyses.{MovesOf, Proposed, absent, instead}

-- two skips by analysis 5, and nothing for any other node
abbrev pub doubled : Node → Proposed
doubled (Mov to from) = absent
doubled (Binary op to left right) = absent
doubled (In to) = absent
doubled (Out from) = absent
doubled (Ld to cell) = absent
doubled (St cell from) = absent
doubled (Br on) = absent
doubled Skip = instead (Skip ∷ Skip ∷ []) 0 32
doubled Halt = absent
doubled (Fail fault) = absent

abbrev pub doubling_moves : MovesOf Bool
doubling_moves = record { start = true; flow = λ f n exit. f; proposal = λ f n. doubled n }
