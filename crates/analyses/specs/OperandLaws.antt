-- A node with its operands replaced.
use Rattle.std.specs.Prelude.{◌≡◌, true, cond, ◌&&◌, [], ◌∷◌, ◌++◌, ◌==◌, slice_set, refl}
use Rattle.std.proofs.Common.{ap, ◌∙◌}
use Rattle.std.proofs.lemmas.Bool.{and_parts, and_from}
use Rattle.machine.specs.Arithmetic.{computed}
use Rattle.machine.specs.declared.node.Node.{Node}
use Rattle.machine.specs.declared.node.Node.TheVariants.{Mov, Binary, In, Out, Ld, St, Br, Skip, Halt, Fail}
use Rattle.machine.specs.declared.node.Operand.{Operand}
use Rattle.machine.specs.State.{State, state, value, with_reg}
use Rattle.machine.specs.Step.{leaves, keep, act}
use Rattle.machine.specs.WellFormed.{is_node, is_operand, is_register, is_cell, exits_of}
use Rattle.analyses.specs.Operands.{on_operands}

module _ (g : Operand → Operand) where
  pub operands_fit : ((x : Operand) → is_operand x ≡ true → is_operand (g x) ≡ true) → (n : Node) → is_node n ≡ true → is_node (on_operands g n) ≡ true
  operands_fit fit (Mov to from) h = let p = and_parts (is_register to) (is_operand from) h in and_from _ _ p.0 (fit from p.1)
  operands_fit fit (Binary op to left right) h =
      let p = and_parts (is_register to) (is_operand left && is_operand right) h in
      let q = and_parts (is_operand left) (is_operand right) p.1 in
      and_from _ _ p.0 (and_from _ _ (fit left q.0) (fit right q.1))
  operands_fit fit (In to) h = h
  operands_fit fit (Out from) h = fit from h
  operands_fit fit (Ld to cell) h = h
  operands_fit fit (St cell from) h = let p = and_parts (is_cell cell) (is_operand from) h in and_from _ _ p.0 (fit from p.1)
  operands_fit fit (Br on) h = fit on h
  operands_fit fit Skip h = h
  operands_fit fit Halt h = h
  operands_fit fit (Fail fault) h = h

  pub operands_exits : (n : Node) → exits_of (on_operands g n) ≡ exits_of n
  operands_exits (Mov to from) = refl
  operands_exits (Binary op to left right) = refl
  operands_exits (In to) = refl
  operands_exits (Out from) = refl
  operands_exits (Ld to cell) = refl
  operands_exits (St cell from) = refl
  operands_exits (Br on) = refl
  operands_exits Skip = refl
  operands_exits Halt = refl
  operands_exits (Fail fault) = refl

  -- it acts as the node where the values are the same
  pub operands_act : (s : State) → ((x : Operand) → is_operand x ≡ true → value s.regs (g x) ≡ value s.regs x) → (n : Node) → is_node n ≡ true → act (on_operands g n) s ≡ act n s
  operands_act s same (Mov to from) h = ap (λ v. leaves 0 (with_reg s to v)) (same from (and_parts (is_register to) _ h).1)
  operands_act s same (Binary op to left right) h =
      let p = and_parts (is_register to) (is_operand left && is_operand right) h in
      let q = and_parts (is_operand left) (is_operand right) p.1 in
      ap (λ v. keep s to (computed op v (value s.regs (g right)))) (same left q.0) ∙ ap (λ v. keep s to (computed op (value s.regs left) v)) (same right q.1)
  operands_act s same (In to) h = refl
  operands_act s same (Out from) h = ap (λ v. leaves 0 (state s.regs s.cells s.inputs (s.written ++ (v ∷ [])))) (same from h)
  operands_act s same (Ld to cell) h = refl
  operands_act s same (St cell from) h =
      ap (λ v. leaves 0 (state s.regs (slice_set s.cells cell v) s.inputs s.written)) (same from (and_parts (is_cell cell) _ h).1)
  operands_act s same (Br on) h = ap (λ v. leaves (cond (v == 0) 1 0) s) (same on h)
  operands_act s same Skip h = refl
  operands_act s same Halt h = refl
  operands_act s same (Fail fault) h = refl
