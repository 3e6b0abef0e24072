-- The registers in the state in which a node leaves.
use Rattle.std.specs.Prelude.{◌≡◌, ℕ, List, [], ◌∷◌, Some, None, Option, slice_set, refl}
use Rattle.std.proofs.Common.{ap, arith}
use Rattle.machine.specs.Arithmetic.{computed}
use Rattle.machine.specs.declared.node.Node.{Node}
use Rattle.machine.specs.declared.node.Node.TheVariants.{Mov, Binary, In, Out, Ld, St, Br, Skip, Halt, Fail}
use Rattle.machine.specs.State.{State, value}
use Rattle.machine.specs.Step.{leaves, keep, read_into, act}

abbrev pub Wrote : List ℕ → ℕ → List ℕ → Type 0
Wrote regs to after = (v : ℕ) × (after ≡ slice_set regs to v)

-- of a node, the registers before and the registers after
abbrev pub Leads : Node → List ℕ → List ℕ → Type 0
Leads (Mov to from) regs after = after ≡ slice_set regs to (value regs from)
Leads (Binary op to left right) regs after = (v : ℕ) × (computed op (value regs left) (value regs right) ≡ Some v) × (after ≡ slice_set regs to v)
Leads (In to) regs after = Wrote regs to after
Leads (Out from) regs after = after ≡ regs
Leads (Ld to cell) regs after = Wrote regs to after
Leads (St cell from) regs after = after ≡ regs
Leads (Br on) regs after = after ≡ regs
Leads Skip regs after = after ≡ regs
Leads Halt regs after = ⊥
Leads (Fail fault) regs after = ⊥

left_in : (u t : State) (k e : ℕ) → leaves k u ≡ leaves e t → t.regs ≡ u.regs
left_in u t k e l = let there : t ≡ u = cc in ap (λ s. s.regs) there

pub registers_after : (n : Node) (s t : State) (e : ℕ) → act n s ≡ leaves e t → Leads n s.regs t.regs
registers_after (Mov to from) s t e l = left_in _ t _ e l
registers_after (Binary op to left right) s t e l = go (computed op (value s.regs left) (value s.regs right)) l
  where
    go : (o : Option ℕ) → keep s to o ≡ leaves e t → (v : ℕ) × (o ≡ Some v) × (t.regs ≡ slice_set s.regs to v)
    go (Some v) l = (v, refl, left_in _ t _ e l)
    go None l = absurd (let z : ◌≡◌ {A = ℕ} 0 1 = cc in omega arith)
registers_after (In to) s t e l = go s.inputs l
  where
    go : (ws : List ℕ) → read_into s to ws ≡ leaves e t → Wrote s.regs to t.regs
    go [] l = absurd (let z : ◌≡◌ {A = ℕ} 0 1 = cc in omega arith)
    go (w ∷ rest) l = (w, left_in _ t _ e l)
registers_after (Out from) s t e l = left_in _ t _ e l
registers_after (Ld to cell) s t e l = (_, left_in _ t _ e l)
registers_after (St cell from) s t e l = left_in _ t _ e l
registers_after (Br on) s t e l = left_in _ t _ e l
registers_after Skip s t e l = left_in _ t _ e l
registers_after Halt s t e l = let z : ◌≡◌ {A = ℕ} 0 1 = cc in omega arith
registers_after (Fail fault) s t e l = let z : ◌≡◌ {A = ℕ} 0 1 = cc in omega arith
