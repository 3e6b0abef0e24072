-- The kinds of nodes and their names.
use Rattle.std.specs.Prelude.{ℕ, List, codes}
use Rattle.machine.specs.declared.node.BinaryOp.{BinaryOp}
use Rattle.machine.specs.declared.node.BinaryOp.TheVariants.{Add, Sub, Mul, Div, Rem, And, Or, Xor, Shl, Shr, Eq, Lt}
use Rattle.machine.specs.declared.node.Exits.{Exits}
use Rattle.machine.specs.declared.node.Exits.TheVariants as exits
use Rattle.machine.specs.declared.node.Node.{Node}
use Rattle.machine.specs.declared.node.Node.TheVariants.{Mov, Binary, In, Out, Ld, St, Br, Skip, Halt, Fail}
use Rattle.text.specs.declared.kind.Kind.{Kind}
use Rattle.text.specs.declared.kind.Kind.TheVariants as kind

abbrev pub binary_name : BinaryOp → List ℕ
binary_name Add = codes "add"
binary_name Sub = codes "sub"
binary_name Mul = codes "mul"
binary_name Div = codes "div"
binary_name Rem = codes "rem"
binary_name And = codes "and"
binary_name Or = codes "or"
binary_name Xor = codes "xor"
binary_name Shl = codes "shl"
binary_name Shr = codes "shr"
binary_name Eq = codes "eq"
binary_name Lt = codes "lt"

abbrev pub kind_name : Kind → List ℕ
kind_name kind.Mov = codes "mov"
kind_name (kind.Binary op) = binary_name op
kind_name kind.In = codes "in"
kind_name kind.Out = codes "out"
kind_name kind.Ld = codes "ld"
kind_name kind.St = codes "st"
kind_name kind.Br = codes "br"
kind_name kind.Skip = codes "skip"
kind_name kind.Halt = codes "halt"
kind_name kind.Fail = codes "fail"

abbrev pub kind_exits : Kind → Exits
kind_exits kind.Mov = exits.One
kind_exits (kind.Binary op) = exits.One
kind_exits kind.In = exits.One
kind_exits kind.Out = exits.One
kind_exits kind.Ld = exits.One
kind_exits kind.St = exits.One
kind_exits kind.Br = exits.Two
kind_exits kind.Skip = exits.One
kind_exits kind.Halt = exits.None
kind_exits kind.Fail = exits.None

abbrev pub kind_of : Node → Kind
kind_of (Mov to from) = kind.Mov
kind_of (Binary op to left right) = kind.Binary op
kind_of (In to) = kind.In
kind_of (Out from) = kind.Out
kind_of (Ld to cell) = kind.Ld
kind_of (St cell from) = kind.St
kind_of (Br on) = kind.Br
kind_of Skip = kind.Skip
kind_of Halt = kind.Halt
kind_of (Fail fault) = kind.Fail
