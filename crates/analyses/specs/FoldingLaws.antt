-- A folded node is a node of the machine and acts as before.
use Rattle.std.specs.Prelude.{◌≡◌, ℕ, ◌^◌, ◌<◌, true, ◌&&◌, List, IfSome, Some, None, Option, refl}
use Rattle.std.proofs.Common.{sym, ap}
use Rattle.std.proofs.lemmas.Bool.{and_parts, and_from, ltb-true, lt-ltb}
use Rattle.machine.specs.Arithmetic.{computed}
use Rattle.machine.specs.declared.node.BinaryOp.{BinaryOp}
use Rattle.machine.specs.declared.node.Exits.TheVariants as exits
use Rattle.machine.specs.declared.node.Node.{Node}
use Rattle.machine.specs.declared.node.Node.TheVariants.{Mov, Binary, In, Out, Ld, St, Br, Skip, Halt, Fail}
use Rattle.machine.specs.declared.node.Operand.{Operand}
use Rattle.machine.specs.declared.node.Operand.TheVariants.{Reg, Num}
use Rattle.machine.specs.State.{State, value}
use Rattle.machine.specs.Step.{keep, act}
use Rattle.machine.specs.WellFormed.{is_node, is_operand, is_register, exits_of}
use Rattle.machine.proofs.Validity.{computed_word}
use Rattle.analyses.specs.EntryLaws.{no_some}
use Rattle.analyses.specs.Folding.{number_of, calculated, or_number, folded}

pub number_value : (regs : List ℕ) (x : Operand) (u : ℕ) → number_of x ≡ Some u → value regs x ≡ u
number_value regs (Reg r) u e = no_some u e
number_value regs (Num v) u e = cc

pub calculated_value : (op : BinaryOp) (regs : List ℕ) (x y : Operand) (u : ℕ) → calculated op x y ≡ Some u → computed op (value regs x) (value regs y) ≡ Some u
calculated_value op regs (Reg r) y u e = no_some u e
calculated_value op regs (Num v) (Reg r) u e = no_some u e
calculated_value op regs (Num v) (Num w) u e = e

calculated_word : (op : BinaryOp) (x y : Operand) → is_operand x ≡ true → is_operand y ≡ true → IfSome (calculated op x y) (λ w. w < 2 ^ 32)
calculated_word op (Reg r) y h k = tt
calculated_word op (Num v) (Reg r) h k = tt
calculated_word op (Num v) (Num w) h k = computed_word op v w (ltb-true v (2 ^ 32) h) (ltb-true w (2 ^ 32) k)

module _ (op : BinaryOp) (to : ℕ) (x y : Operand) where
  number_fits : is_register to ≡ true → is_operand x ≡ true → is_operand y ≡ true → (o : Option ℕ) → IfSome o (λ w. w < 2 ^ 32) → is_node (or_number op to x y o) ≡ true
  number_fits k h i None p = and_from _ _ k (and_from _ _ h i)
  number_fits k h i (Some v) p = and_from _ _ k (lt-ltb v (2 ^ 32) p)

  number_exits : (o : Option ℕ) → exits_of (or_number op to x y o) ≡ exits.One
  number_exits None = refl
  number_exits (Some v) = refl

  number_acts : (s : State) (o : Option ℕ) → calculated op x y ≡ o → act (or_number op to x y o) s ≡ act (Binary op to x y) s
  number_acts s None e = refl
  number_acts s (Some v) e = sym (ap (keep s to) (calculated_value op s.regs x y v e))

pub folded_fits : (n : Node) → is_node n ≡ true → is_node (folded n) ≡ true
folded_fits (Mov to from) h = h
folded_fits (Binary op to left right) h =
    let p = and_parts (is_register to) (is_operand left && is_operand right) h in
    let q = and_parts (is_operand left) (is_operand right) p.1 in
    number_fits op to left right p.0 q.0 q.1 (calculated op left right) (calculated_word op left right q.0 q.1)
folded_fits (In to) h = h
folded_fits (Out from) h = h
folded_fits (Ld to cell) h = h
folded_fits (St cell from) h = h
folded_fits (Br on) h = h
folded_fits Skip h = h
folded_fits Halt h = h
folded_fits (Fail fault) h = h

pub folded_exits : (n : Node) → exits_of (folded n) ≡ exits_of n
folded_exits (Mov to from) = refl
folded_exits (Binary op to left right) = number_exits op to left right (calculated op left right)
folded_exits (In to) = refl
folded_exits (Out from) = refl
folded_exits (Ld to cell) = refl
folded_exits (St cell from) = refl
folded_exits (Br on) = refl
folded_exits Skip = refl
folded_exits Halt = refl
folded_exits (Fail fault) = refl

pub folded_acts : (s : State) (n : Node) → act (folded n) s ≡ act n s
folded_acts s (Mov to from) = refl
folded_acts s (Binary op to left right) = number_acts op to left right s (calculated op left right) refl
folded_acts s (In to) = refl
folded_acts s (Out from) = refl
folded_acts s (Ld to cell) = refl
folded_acts s (St cell from) = refl
folded_acts s (Br on) = refl
folded_acts s Skip = refl
folded_acts s Halt = refl
folded_acts s (Fail fault) = refl
