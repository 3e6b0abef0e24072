-- Numbers in the place of operations on numbers.
use Rattle.std.specs.Prelude.{ℕ, Bool, false, is_some, Some, None, Option}
use Rattle.machine.specs.declared.node.Operand.{Operand}
use Rattle.machine.specs.declared.node.Operand.TheVariants.{Reg, Num}
use Rattle.machine.specs.declared.node.BinaryOp.{BinaryOp}
use Rattle.machine.specs.declared.node.Node.{Node}
use Rattle.machine.specs.declared.node.Node.TheVariants.{Mov, Binary, In, Out, Ld, St, Br, Skip, Halt, Fail}
use Rattle.machine.specs.Arithmetic.{computed}

abbrev pub number_of : Operand → Option ℕ
number_of (Reg r) = None
number_of (Num v) = Some v

-- the result of an operation on two numbers
abbrev pub calculated : BinaryOp → Operand → Operand → Option ℕ
calculated op (Reg r) y = None
calculated op (Num v) (Reg r) = None
calculated op (Num v) (Num w) = computed op v w

-- a binary node, or the number that it makes
abbrev pub or_number : BinaryOp → ℕ → Operand → Operand → Option ℕ → Node
or_number op to left right None = Binary op to left right
or_number op to left right (Some v) = Mov to (Num v)

-- a binary node on two numbers becomes the number that it makes
abbrev pub folded : Node → Node
folded (Mov to from) = Mov to from
folded (Binary op to left right) = or_number op to left right (calculated op left right)
folded (In to) = In to
folded (Out from) = Out from
folded (Ld to cell) = Ld to cell
folded (St cell from) = St cell from
folded (Br on) = Br on
folded Skip = Skip
folded Halt = Halt
folded (Fail fault) = Fail fault

abbrev pub folds : Node → Bool
folds (Mov to from) = false
folds (Binary op to left right) = is_some (calculated op left right)
folds (In to) = false
folds (Out from) = false
folds (Ld to cell) = false
folds (St cell from) = false
folds (Br on) = false
folds Skip = false
folds Halt = false
folds (Fail fault) = false
