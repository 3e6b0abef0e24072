-- The operands that a node reads.
use Rattle.std.specs.Prelude.{Bool, false, ◌||◌}
use Rattle.machine.specs.declared.node.Node.{Node}
use Rattle.machine.specs.declared.node.Node.TheVariants.{Mov, Binary, In, Out, Ld, St, Br, Skip, Halt, Fail}
use Rattle.machine.specs.declared.node.Operand.{Operand}

-- each replaced
abbrev pub on_operands : (Operand → Operand) → Node → Node
on_operands g (Mov to from) = Mov to (g from)
on_operands g (Binary op to left right) = Binary op to (g left) (g right)
on_operands g (In to) = In to
on_operands g (Out from) = Out (g from)
on_operands g (Ld to cell) = Ld to cell
on_operands g (St cell from) = St cell (g from)
on_operands g (Br on) = Br (g on)
on_operands g Skip = Skip
on_operands g Halt = Halt
on_operands g (Fail fault) = Fail fault

-- whether one of them passes
abbrev pub any_operand : (Operand → Bool) → Node → Bool
any_operand p (Mov to from) = p from
any_operand p (Binary op to left right) = p left || p right
any_operand p (In to) = false
any_operand p (Out from) = p from
any_operand p (Ld to cell) = false
any_operand p (St cell from) = p from
any_operand p (Br on) = p on
any_operand p Skip = false
any_operand p Halt = false
any_operand p (Fail fault) = false
