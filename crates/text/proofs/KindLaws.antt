-- Kinds and nodes.
use Rattle.std.proofs.Common.{◌≡◌, Some, refl}
use Rattle.machine.specs.declared.node.BinaryOp.TheVariants.{Add, Sub, Mul, Div, Rem, And, Or, Xor, Shl, Shr, Eq, Lt}
use Rattle.machine.specs.declared.node.Node.{Node}
use Rattle.machine.specs.declared.node.Node.TheVariants.{Mov, Binary, In, Out, Ld, St, Br, Skip, Halt, Fail}
use Rattle.machine.specs.WellFormed.{exits_of}
use Rattle.text.specs.declared.kind.Kind.{Kind}
use Rattle.text.specs.declared.kind.Kind.TheVariants as kind
use Rattle.text.specs.Kinds.{kind_name, kind_of, kind_exits}
use Rattle.text.specs.Rows.{kind_named}

pub kind_exits_lem : (n : Node) → kind_exits (kind_of n) ≡ exits_of n
kind_exits_lem (Mov to from) = refl
kind_exits_lem (Binary op to left right) = refl
kind_exits_lem (In to) = refl
kind_exits_lem (Out from) = refl
kind_exits_lem (Ld to cell) = refl
kind_exits_lem (St cell from) = refl
kind_exits_lem (Br on) = refl
kind_exits_lem Skip = refl
kind_exits_lem Halt = refl
kind_exits_lem (Fail fault) = refl

pub kind_known : (k : Kind) → kind_named (kind_name k) ≡ Some k
kind_known kind.Mov = refl
kind_known (kind.Binary Add) = refl
kind_known (kind.Binary Sub) = refl
kind_known (kind.Binary Mul) = refl
kind_known (kind.Binary Div) = refl
kind_known (kind.Binary Rem) = refl
kind_known (kind.Binary And) = refl
kind_known (kind.Binary Or) = refl
kind_known (kind.Binary Xor) = refl
kind_known (kind.Binary Shl) = refl
kind_known (kind.Binary Shr) = refl
kind_known (kind.Binary Eq) = refl
kind_known (kind.Binary Lt) = refl
kind_known kind.In = refl
kind_known kind.Out = refl
kind_known kind.Ld = refl
kind_known kind.St = refl
kind_known kind.Br = refl
kind_known kind.Skip = refl
kind_known kind.Halt = refl
kind_known kind.Fail = refl
