use Rattle.std.proofs.Common.{◌≡◌, rules}
use Rattle.std.specs.Option.{option_map}
use Rattle.machine.specs.declared.node.BinaryOp.{BinaryOp}
use Rattle.text.specs.declared.kind.Kind.{Kind}
use Rattle.text.specs.declared.kind.Kind.TheVariants as kind
use Rattle.text.specs.Kinds.{binary_name, kind_name}
use Rattle.text.proofs.WordLaws.{kind_mapped}
use Rattle.text.proofs.read.word.kind.Goals as goal

pub returns-in_default : goal.returns-in_default
returns-in_default c =
    let h : c.map.result ≡ option_map kind.Binary c.binary_op.result = search rules in
    let none : ((op : BinaryOp) → c.args.part.now ≡ binary_name op → ⊥) → (k : Kind) → c.args.part.now ≡ kind_name k → ⊥ = search rules in
    rw h (kind_mapped c.args.part.now c.binary_op.result c.binary_op.ensures none)
