-- Nodes lead from valid states to valid states.
use Rattle.std.proofs.Common.{◌≡◌, ℕ, zero, suc, ◌/◌, ◌%◌, ◌^◌, ◌<◌, Bool, true, false, cond, eqb, ltb, List, [], ◌∷◌, length, get_or, set, IfSome, Some, None, Option, refl, ◌∙◌, div-le_self, arith}
use native.Mathlib.Nat.{mod-le}
use Rattle.std.proofs.lemmas.Nat.{mod_below, shr_le, and_le_l, or_lt, xor_lt}
use Rattle.std.proofs.lemmas.List.Elements.{All-nil, All-head, All-tail, All-replicate, All-get_or, All-set, All-push}
use Rattle.std.proofs.lemmas.List.{length-set}
use Rattle.std.proofs.lemmas.Bool.{and_parts, ltb-true}
use Rattle.machine.specs.declared.node.Operand.{Operand}
use Rattle.machine.specs.declared.node.Operand.TheVariants.{Reg, Num}
use Rattle.machine.specs.declared.node.BinaryOp.{BinaryOp}
use Rattle.machine.specs.declared.node.BinaryOp.TheVariants.{Add, Sub, Mul, Div, Rem, And, Or, Xor, Shl, Shr, Eq, Lt}
use Rattle.machine.specs.declared.node.Node.{Node}
use Rattle.machine.specs.declared.node.Node.TheVariants.{Mov, Binary, In, Out, Ld, St, Br, Skip, Halt, Fail}
use Rattle.machine.specs.Arithmetic.{computed}
use Rattle.machine.specs.Limits.{cell_count}
use Rattle.machine.specs.Laws.{ValidAt, StaysValid}
use Rattle.machine.specs.Programs.{Prog, IsProgram}
use Rattle.machine.specs.Runs.{Config, running, ended, entry_of, follow, step, after, start, fresh}
use Rattle.machine.specs.State.{State, with_reg, value, Words, Valid}
use Rattle.machine.specs.Step.{Effect, leaves, ends, keep, read_into, act}
use Rattle.machine.proofs.Entries.{sound_parts}
use Rattle.machine.proofs.Exits.{exit_leads}
use Rattle.machine.specs.WellFormed.{is_operand, is_register, is_node}

abbrev pub state_after : Effect → State
state_after (leaves e s) = s
state_after (ends k s) = s

-- every result is a word
bit : (b : Bool) → cond b 1 0 < 2 ^ 32
bit true = omega arith
bit false = omega arith

divided_word : (b : Bool) (v : ℕ) → v < 2 ^ 32 → IfSome (cond b None (Some v)) (λ w. w < 2 ^ 32)
divided_word true v h = tt
divided_word false v h = h

pub computed_word : (op : BinaryOp) (x y : ℕ) → x < 2 ^ 32 → y < 2 ^ 32 → IfSome (computed op x y) (λ w. w < 2 ^ 32)
computed_word Add x y hx hy = mod_below _ (2 ^ 32) (omega arith)
computed_word Sub x y hx hy = mod_below _ (2 ^ 32) (omega arith)
computed_word Mul x y hx hy = mod_below _ (2 ^ 32) (omega arith)
computed_word Div x y hx hy = divided_word (eqb y 0) (x / y) (omega (arith, div-le_self x y))
computed_word Rem x y hx hy = divided_word (eqb y 0) (x % y) (omega (arith, mod-le x y))
computed_word And x y hx hy = omega (arith, and_le_l x y)
computed_word Or x y hx hy = or_lt 32 x y hx hy
computed_word Xor x y hx hy = xor_lt 32 x y hx hy
computed_word Shl x y hx hy = mod_below _ (2 ^ 32) (omega arith)
computed_word Shr x y hx hy = omega (arith, shr_le x (y % 32))
computed_word Eq x y hx hy = bit (eqb x y)
computed_word Lt x y hx hy = bit (ltb x y)

word_at : (ws : List ℕ) (n i : ℕ) → length ws ≡ n → Words ws → ltb i n ≡ true → get_or ws i 0 < 2 ^ 32
word_at ws n i long fit t = All-get_or (λ w. w < 2 ^ 32) ws i 0 (omega (arith, ltb-true i n t)) fit

value_word : (regs : List ℕ) (o : Operand) → length regs ≡ 8 → Words regs → is_operand o ≡ true → value regs o < 2 ^ 32
value_word regs (Reg r) long fit t = word_at regs 8 r long fit t
value_word regs (Num n) long fit t = ltb-true n (2 ^ 32) t

set_fit : (ws : List ℕ) (i w : ℕ) → w < 2 ^ 32 → Words ws → Words (set ws i w)
set_fit ws i w h fit = All-set (λ v. v < 2 ^ 32) ws i w h fit

module _ (s : State) (ok : Valid s) where
  valid_reg : (to w : ℕ) → w < 2 ^ 32 → Valid (with_reg s to w)
  valid_reg to w h =
      record {
        eight = length-set s.regs to w ∙ ok.eight;
        sixty_four = ok.sixty_four;
        regs_fit = set_fit s.regs to w h ok.regs_fit;
        cells_fit = ok.cells_fit;
        inputs_fit = ok.inputs_fit;
        written_fit = ok.written_fit;
      }

  valid_keep : (to : ℕ) (o : Option ℕ) → IfSome o (λ w. w < 2 ^ 32) → Valid (state_after (keep s to o))
  valid_keep to (Some w) h = valid_reg to w h
  valid_keep to None h = ok

  valid_input : (to : ℕ) (rest : List ℕ) → Words rest → Valid (state_after (read_into s to rest))
  valid_input to [] h = ok
  valid_input to (w ∷ rest) h =
      record {
        eight = length-set s.regs to w ∙ ok.eight;
        sixty_four = ok.sixty_four;
        regs_fit = set_fit s.regs to w (All-head (λ v. v < 2 ^ 32) w rest h) ok.regs_fit;
        cells_fit = ok.cells_fit;
        inputs_fit = All-tail (λ v. v < 2 ^ 32) w rest h;
        written_fit = ok.written_fit;
      }

  operand_is_word : (o : Operand) → is_operand o ≡ true → value s.regs o < 2 ^ 32
  operand_is_word o t = value_word s.regs o ok.eight ok.regs_fit t

-- a node that may stand in a program leads from valid states to valid states
pub stays_valid : (node : Node) (s : State) → is_node node ≡ true → Valid s → Valid (state_after (act node s))
stays_valid (Mov to from) s t ok = valid_reg s ok to _ (operand_is_word s ok from (and_parts _ _ t).1)
stays_valid (Binary op to left right) s t ok =
    let operands = and_parts _ _ (and_parts (is_register to) _ t).1 in
    valid_keep s ok to _ (computed_word op _ _ (operand_is_word s ok left operands.0) (operand_is_word s ok right operands.1))
stays_valid (In to) s t ok = valid_input s ok to s.inputs ok.inputs_fit
stays_valid (Out from) s t ok =
    record {
      eight = ok.eight;
      sixty_four = ok.sixty_four;
      regs_fit = ok.regs_fit;
      cells_fit = ok.cells_fit;
      inputs_fit = ok.inputs_fit;
      written_fit = All-push (λ w. w < 2 ^ 32) s.written _ ok.written_fit (operand_is_word s ok from t);
    }
stays_valid (Ld to cell) s t ok = valid_reg s ok to _ (word_at s.cells 64 cell ok.sixty_four ok.cells_fit (and_parts _ _ t).1)
stays_valid (St cell from) s t ok =
    record {
      eight = ok.eight;
      sixty_four = length-set s.cells cell _ ∙ ok.sixty_four;
      regs_fit = ok.regs_fit;
      cells_fit = set_fit s.cells cell _ (operand_is_word s ok from (and_parts _ _ t).1) ok.cells_fit;
      inputs_fit = ok.inputs_fit;
      written_fit = ok.written_fit;
    }
stays_valid (Br on) s t ok = ok
stays_valid Skip s t ok = ok
stays_valid Halt s t ok = ok
stays_valid (Fail fault) s t ok = ok

-- a run begins in a valid state
pub fresh_valid : (cells inputs : List ℕ) → length cells ≡ cell_count → Words cells → Words inputs → Valid (fresh cells inputs)
fresh_valid cells inputs long a b =
    record {
      eight = refl;
      sixty_four = long;
      regs_fit = All-replicate (λ w. w < 2 ^ 32) 8 0 (omega arith);
      cells_fit = a;
      inputs_fit = b;
      written_fit = All-nil (λ w. w < 2 ^ 32);
    }

-- and the run stays inside the program
module _ (p : Prog) (ok : IsProgram p) where
  followed : (n : ℕ) (s : State) (f : Effect) → act (entry_of p n).node s ≡ f → n < length p.entries → Valid (state_after f) → ValidAt p (follow (entry_of p n) f)
  followed n s (leaves e t) acts inside v = (exit_leads (length p.entries) (entry_of p n) s t e (ok.sound n inside) acts, v)
  followed n s (ends k t) acts inside v = v

  pub step_valid : (c : Config) → ValidAt p c → ValidAt p (step p c)
  step_valid (running n s) h = followed n s _ refl h.0 (stays_valid (entry_of p n).node s (sound_parts (length p.entries) (entry_of p n) (ok.sound n h.0)).node h.1)
  step_valid (ended k s) h = h

  after_valid : (n : ℕ) (c : Config) → ValidAt p c → ValidAt p (after p n c)
  after_valid zero c h = h
  after_valid (suc n) c h = after_valid n (step p c) (step_valid c h)

  pub valid_run : StaysValid p
  valid_run cells inputs long a b n = after_valid n (start p cells inputs) (ok.starts, fresh_valid cells inputs long a b)
