-- The analysis of arithmetic shows what is asked.
use Rattle.std.specs.Prelude.{◌≡◌, ℕ, ◌+◌, ◌-◌, ◌*◌, ◌%◌, ◌^◌, ◌<◌, Bool, true, false, cond, ◌&&◌, List, [], ◌∷◌, Some, None, Option, ◌==◌, slice_index, slice_set, refl}
use Rattle.std.proofs.Common.{sym, ap, ◌∙◌, add-zero, mul-one, mul-zero, mod-eq_of_lt, div-one, arith}
use Rattle.std.proofs.lemmas.List.{set-get_or}
use Rattle.std.proofs.lemmas.List.Elements.{All-get_or}
use Rattle.std.proofs.lemmas.Bool.{and_parts, cond_both, ltb-true, eqb-true}
use Rattle.machine.specs.declared.node.Operand.{Operand}
use Rattle.machine.specs.declared.node.Operand.TheVariants.{Reg, Num}
use Rattle.machine.specs.declared.node.BinaryOp.{BinaryOp}
use Rattle.machine.specs.declared.node.BinaryOp.TheVariants.{Add, Sub, Mul, Div, Rem, And, Or, Xor, Shl, Shr, Eq, Lt}
use Rattle.machine.specs.declared.node.Node.{Node}
use Rattle.machine.specs.declared.node.Node.TheVariants.{Mov, Binary, In, Out, Ld, St, Br, Skip, Halt, Fail}
use Rattle.machine.specs.Arithmetic.{computed}
use Rattle.machine.specs.State.{State, Valid, value, state}
use Rattle.machine.specs.Step.{act, leaves, keep}
use Rattle.machine.specs.WellFormed.{is_node, is_operand, is_register}
use Rattle.analysis.specs.Analyses.{MovesShow, ProposalShows, absent, instead}
use Rattle.analysis.specs.Rows.{is_proposal, run_row}
use Rattle.analyses.specs.declared.reach.Reach.{Reach}
use Rattle.analyses.specs.Arithmetic.{simpler, simpler_binary, simpler_proposed, arithmetic_moves}
use Rattle.analyses.specs.Reach.{reach_facts}

-- an operand of a node is a word
word : (s : State) → Valid s → (o : Operand) → is_operand o ≡ true → value s.regs o < 2 ^ 32
word s ok (Reg r) h = All-get_or (λ w. w < 2 ^ 32) s.regs r 0 (omega (arith, ltb-true r 8 h, ok.eight)) ok.regs_fit
word s ok (Num n) h = ltb-true n (2 ^ 32) h

add_none : (x : ℕ) → x < 2 ^ 32 → (x + 0) % 2 ^ 32 ≡ x
add_none x h = rw add-zero (mod-eq_of_lt h)

sub_none : (x : ℕ) → x < 2 ^ 32 → (x + (2 ^ 32 - 0)) % 2 ^ 32 ≡ x
sub_none x h = omega arith

mul_once : (x : ℕ) → x < 2 ^ 32 → (x * 1) % 2 ^ 32 ≡ x
mul_once x h = rw mul-one (mod-eq_of_lt h)

mul_none : (x : ℕ) → (x * 0) % 2 ^ 32 ≡ 0
mul_none x = rw mul-zero

-- a node that may stand for another in every valid state
abbrev Stands : Node → Option Node → Type 0
Stands n None = Unit {0}
Stands n (Some other) = (is_proposal n (other ∷ []) 0 8 ≡ true) × ((s : State) → Valid s → act n s ≡ run_row (other ∷ []) 0 s)

fits : (a b : Bool) → a ≡ true → b ≡ true → (((a && b) && true) && true) ≡ true
fits true true p q = refl
fits true false p q = q
fits false b p q = p

module _ (to : ℕ) (left : Operand) (right : ℕ) (r : is_register to ≡ true) (o : is_operand left ≡ true) where
  abbrev node : BinaryOp → Node
  node op = Binary op to left (Num right)

  -- a `mov` of the word that the operation makes
  as_mov : (op : BinaryOp) (from : Operand) → is_operand from ≡ true → ((s : State) → Valid s → computed op (value s.regs left) right ≡ Some (value s.regs from)) → Stands (node op) (Some (Mov to from))
  as_mov op from h same = (fits (is_register to) (is_operand from) r h, λ s ok. ap (keep s to) (same s ok))

  -- if the number on the right is k, the operation makes its left word
  left_if : (op : BinaryOp) (k : ℕ) (other : Option Node) → ((x : ℕ) → x < 2 ^ 32 → computed op x k ≡ Some x) → Stands (node op) other → Stands (node op) (cond (right == k) (Some (Mov to left)) other)
  left_if op k other same rest = cond_both (right == k) (Some (Mov to left)) other (Stands (node op))
      (λ e. as_mov op left o (λ s ok. ap (computed op (value s.regs left)) (eqb-true right k e) ∙ same (value s.regs left) (word s ok left o)))
      (λ e. rest)

  zero_if : Stands (node Mul) (cond (right == 0) (Some (Mov to (Num 0))) None)
  zero_if = cond_both (right == 0) (Some (Mov to (Num 0))) None (Stands (node Mul))
      (λ e. as_mov Mul (Num 0) refl (λ s ok. ap (computed Mul (value s.regs left)) (eqb-true right 0 e) ∙ ap Some (mul_none (value s.regs left))))
      (λ e. tt)

  binary : (op : BinaryOp) → Stands (node op) (simpler_binary op to left right)
  binary Add = left_if Add 0 None (λ x h. ap Some (add_none x h)) tt
  binary Sub = left_if Sub 0 None (λ x h. ap Some (sub_none x h)) tt
  binary Mul = left_if Mul 1 _ (λ x h. ap Some (mul_once x h)) zero_if
  binary Div = left_if Div 1 None (λ x h. ap Some (div-one x)) tt
  binary Rem = tt
  binary And = tt
  binary Or = tt
  binary Xor = tt
  binary Shl = tt
  binary Shr = tt
  binary Eq = tt
  binary Lt = tt

-- a register onto itself
itself : (to from : ℕ) → to ≡ from → (s : State) → act (Mov to (Reg from)) s ≡ leaves 0 s
itself to from e s =
    ap (λ (regs : List ℕ). leaves 0 (state regs s.cells s.inputs s.written)) (ap (λ r. slice_set s.regs to (slice_index s.regs r)) (sym e) ∙ set-get_or s.regs to 0)

stands : (n : Node) → is_node n ≡ true → Stands n (simpler n)
stands (Mov to (Reg from)) h = cond_both (to == from) _ None (Stands (Mov to (Reg from))) (λ e. (refl, λ s ok. itself to from (eqb-true to from e) s)) (λ e. tt)
stands (Mov to (Num n)) h = tt
stands (Binary op to left (Reg right)) h = tt
stands (Binary op to left (Num right)) h =
    let parts = and_parts (is_register to) _ h in
    binary to left right parts.0 (and_parts (is_operand left) _ parts.1).0 op
stands (In to) h = tt
stands (Out from) h = tt
stands (Ld to cell) h = tt
stands (St cell from) h = tt
stands (Br on) h = tt
stands Skip h = tt
stands Halt h = tt
stands (Fail fault) h = tt

proposes : (f : Reach) (n : Node) (o : Option Node) → Stands n o → ProposalShows reach_facts f n (simpler_proposed f o)
proposes f n None k = tt
proposes f n (Some other) k = where_reached f.reached
  where
    where_reached : (b : Bool) → ProposalShows reach_facts f n (cond b (instead (other ∷ []) 0 8) absent)
    where_reached true = (k.0, λ s ok a. k.1 s ok)
    where_reached false = tt

pub arithmetic_sound : MovesShow reach_facts arithmetic_moves
arithmetic_sound = record {
  start = λ s ok fresh. refl;
  flow = λ f n exit h s t ok a l. a;
  proposal = λ f n h. proposes f n (simpler n) (stands n h);
}
