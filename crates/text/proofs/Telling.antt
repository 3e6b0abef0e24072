-- A printed line tells its node: each part of the node is found again in the words.
use Rattle.std.proofs.Common.{◌≡◌, ℕ, ◌^◌, ◌<◌, cond, eqb, List, [], ◌∷◌, ◌++◌, length, get_or, drop, Some, None, decimal, Option, sym, refl, ap, ◌∙◌, arith}
use Rattle.std.proofs.lemmas.Fmt.{digits_value-decimal}
use Rattle.machine.specs.declared.node.Entry.{Entry}
use Rattle.text.specs.declared.kind.Kind.{Kind}
use Rattle.text.specs.declared.kind.Kind.TheVariants as kind
use Rattle.machine.specs.declared.node.Exits.{Exits}
use Rattle.machine.specs.declared.node.Exits.TheVariants as exits
use Rattle.machine.specs.declared.node.Node.{Node}
use Rattle.machine.specs.declared.node.Node.TheVariants.{Mov, Binary, In, Out, Ld, St, Br, Skip, Halt, Fail}
use Rattle.machine.specs.declared.node.Operand.{Operand}
use Rattle.machine.specs.declared.node.Operand.TheVariants.{Reg, Num}
use Rattle.text.specs.Entries.{NodeFits, TargetsFit, EntryFits}
use Rattle.text.specs.Numbers.{value_of}
use Rattle.text.specs.Print.{operand_word, operand_words, exit_words, entry_words}
use Rattle.text.specs.Rows.{kind_named, operand_dues}
use Rattle.text.specs.WordReads.{OperandFits}
use Rattle.machine.specs.WellFormed.{exits_of}
use Rattle.text.specs.Kinds.{kind_of, kind_exits}
use Rattle.text.proofs.KindLaws.{kind_exits_lem, kind_known}
use Rattle.text.proofs.Decimal.{own}

pub number_back : (n : ℕ) → n < 2 ^ 64 → value_of (decimal n) ≡ n
number_back n h = digits_value-decimal own n h

-- the operand that a word spells
abbrev operand_at : List ℕ → Operand
operand_at w = cond (eqb (get_or w 0 0) 114) (Reg (value_of (drop 1 w))) (Num (value_of (drop 1 w)))

operand_back : (x : Operand) → OperandFits x → operand_at (operand_word x) ≡ x
operand_back (Reg n) h = ap Reg (number_back n (omega arith))
operand_back (Num n) h = ap Num (number_back n (omega arith))

-- the node of a kind whose operands begin the words
abbrev at : List (List ℕ) → ℕ → List ℕ
at ws i = get_or ws i []

abbrev number_at : List (List ℕ) → ℕ → ℕ
number_at ws i = value_of (drop 1 (at ws i))

abbrev node_at : Kind → List (List ℕ) → Node
node_at kind.Mov ws = Mov (number_at ws 0) (operand_at (at ws 1))
node_at (kind.Binary op) ws = Binary op (number_at ws 0) (operand_at (at ws 1)) (operand_at (at ws 2))
node_at kind.In ws = In (number_at ws 0)
node_at kind.Out ws = Out (operand_at (at ws 0))
node_at kind.Ld ws = Ld (number_at ws 0) (number_at ws 1)
node_at kind.St ws = St (number_at ws 0) (operand_at (at ws 1))
node_at kind.Br ws = Br (operand_at (at ws 0))
node_at kind.Skip ws = Skip
node_at kind.Halt ws = Halt
node_at kind.Fail ws = Fail (number_at ws 0)

node_back : (n : Node) (more : List (List ℕ)) → NodeFits n → node_at (kind_of n) (operand_words n ++ more) ≡ n
node_back (Mov to from) more h = rw (number_back to (omega (arith, h.0)), operand_back from h.1)
node_back (Binary op to left right) more h = rw (number_back to (omega (arith, h.0)), operand_back left h.1, operand_back right h.2)
node_back (In to) more h = ap In (number_back to (omega arith))
node_back (Out from) more h = rw (operand_back from h)
node_back (Ld to cell) more h = rw (number_back to (omega (arith, h.0)), number_back cell (omega (arith, h.1)))
node_back (St cell from) more h = rw (number_back cell (omega (arith, h.0)), operand_back from h.1)
node_back (Br on) more h = rw (operand_back on h)
node_back Skip more h = refl
node_back Halt more h = refl
node_back (Fail fault) more h = ap Fail (number_back fault (omega arith))

-- the targets, past the operands and the arrow
abbrev targets_at : Exits → List (List ℕ) → List ℕ
targets_at exits.None ws = 0 ∷ 0 ∷ []
targets_at exits.One ws = value_of (at ws 1) ∷ 0 ∷ []
targets_at exits.Two ws = value_of (at ws 1) ∷ value_of (at ws 2) ∷ []

targets_back : (x : Exits) (ts : List ℕ) → TargetsFit x ts → targets_at x (exit_words x ts) ≡ ts
targets_back exits.None ts h = sym h
targets_back exits.One ts h = rw (h.2, number_back h.0 (omega (arith, h.1)))
targets_back exits.Two ts h = rw (h.4, number_back h.0 (omega (arith, h.2)), number_back h.1 (omega (arith, h.3)))

operands_drop : (n : Node) (more : List (List ℕ)) → drop (length (operand_dues (kind_of n))) (operand_words n ++ more) ≡ more
operands_drop (Mov to from) more = refl
operands_drop (Binary op to left right) more = refl
operands_drop (In to) more = refl
operands_drop (Out from) more = refl
operands_drop (Ld to cell) more = refl
operands_drop (St cell from) more = refl
operands_drop (Br on) more = refl
operands_drop Skip more = refl
operands_drop Halt more = refl
operands_drop (Fail fault) more = refl

-- the node that the words of a line tell
abbrev entry_at : Option Kind → List (List ℕ) → Option Entry
entry_at None ws = None
entry_at (Some k) ws = Some (record { node = node_at k (drop 2 ws); targets = targets_at (kind_exits k) (drop (length (operand_dues k)) (drop 2 ws)) })

abbrev told : List (List ℕ) → Option Entry
told ws = entry_at (kind_named (at ws 1)) ws

told_back : (n : ℕ) (e : Entry) → EntryFits e → told (entry_words n e) ≡ Some e
told_back n e h =
    let k = kind_of e.node in
    let xs = exit_words (exits_of e.node) e.targets in
    rw (kind_known k, node_back e.node xs h.0, operands_drop e.node xs, kind_exits_lem e.node, targets_back (exits_of e.node) e.targets h.1)

-- two nodes that print as one line are one
pub line_tells : (n : ℕ) (e f : Entry) → EntryFits e → EntryFits f → entry_words n e ≡ entry_words n f → e ≡ f
line_tells n e f a b same =
    let s : Some e ≡ Some f = sym (told_back n e a) ∙ ap told same ∙ told_back n f b in
    cc
