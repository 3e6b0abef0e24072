-- What the arguments write, from what the calls of `str` say of their bytes.
use Rattle.std.proofs.Common.{◌≡◌, ℕ, ◌<◌, List, ◌∷◌, ◌++◌, get_or, drop, Some, None, Ok, Err, codes, Option, Result, sym, ap, ◌∙◌, subst, arith, lit<, Bor, MatchOption}
use mathlib.Core.List.{tail-eq_of_cons-eq, append_cancel_left}
use Rattle.std.specs.Str.Parse.{ParsesUnsigned}
use Rattle.std.specs.Option.{option_map}
use Rattle.std.specs.Result.{result_ok}
use Rattle.std.proofs.lemmas.Str.Parse.{parse_plain, not_in_digits}
use Rattle.std.proofs.lemmas.Str.Pattern.{IsSplitOnceResult, split_after}
use Rattle.machine.specs.Limits.{cell_count}
use Rattle.text.proofs.Decimal.{own}
use Rattle.run.specs.declared.arguments.Argument.{Argument}
use Rattle.run.specs.declared.arguments.Argument.TheVariants.{Budget, Cell, Input}
use Rattle.run.specs.declared.arguments.CellWord.{CellWord}
use Rattle.run.specs.Spelled.{Writes, WritesCell, WritesBudget, Spells, WordRead, BudgetRead, ArgumentRead}

pub word_read : {E : Type 0} (bs : List ℕ) (r : Result ℕ E) → ParsesUnsigned 32 10 bs r → (get_or bs 0 0 ≡ 43 → ⊥) → WordRead bs (result_ok r)
word_read {E} bs (Ok v) h p = let q = parse_plain own {E = E} 32 bs (Ok v) h p in (q.0.1, q.0.0, q.0.2, q.1)
word_read {E} bs (Err e) h p = λ v w. parse_plain own {E = E} 32 bs (Err e) h p (w.1, w.0, w.2)

pub budget_read : (bs ws : List ℕ) (k : ℕ) (r : Option ℕ) → bs ≡ codes "budget=" ++ drop k bs → ws ≡ drop k bs → WordRead ws r → BudgetRead bs r
budget_read bs ws k (Some v) e f h = (ws, e ∙ ap (λ z. codes "budget=" ++ z) (sym f), h)
budget_read bs ws k None e f h =
    λ v w. h v (subst (λ z. Writes z v) (append_cancel_left (codes "budget=") w.0 (drop k bs) (sym w.1 ∙ e) ∙ sym f) w.2)

-- what follows `c` is cut at the first `=`, and digits hold none
pub cut_only : (bs rest : List ℕ) (r : Option (Bor (List ℕ) × Bor (List ℕ))) → bs ≡ 99 ∷ rest → IsSplitOnceResult 61 rest r → (s : CellWord) → WritesCell bs s → MatchOption r ⊥ (λ x. Writes x.0.now s.cell × (s.cell < cell_count) × Writes x.1.now s.word)
cut_only bs rest None e h s w =
    split_after 61 rest w.0 w.1 None h (lit< tt) (tail-eq_of_cons-eq (sym e ∙ w.2)) (not_in_digits own w.0 61 w.3.1 (λ q. omega (arith, q.1)))
cut_only bs rest (Some x) e h s w =
    let p = split_after 61 rest w.0 w.1 (Some x) h (lit< tt) (tail-eq_of_cons-eq (sym e ∙ w.2)) (not_in_digits own w.0 61 w.3.1 (λ q. omega (arith, q.1))) in
    (subst (λ z. Writes z s.cell) (sym p.0) w.3, w.4, subst (λ z. Writes z s.word) (sym p.1) w.5)

pub none_spelled : (bs : List ℕ) → ((v : ℕ) → WritesBudget bs v → ⊥) → ((s : CellWord) → WritesCell bs s → ⊥) → ((v : ℕ) → Writes bs v → ⊥) → (a : Argument) → Spells bs a → ⊥
none_spelled bs b c i (Budget v) h = b v h
none_spelled bs b c i (Cell s) h = c s h
none_spelled bs b c i (Input v) h = i v h

-- what is neither a budget nor a cell is an input, if it is a word
pub input_read : (bs : List ℕ) (word : Option ℕ) (r : Option Argument) → ((v : ℕ) → WritesBudget bs v → ⊥) → ((s : CellWord) → WritesCell bs s → ⊥) → WordRead bs word → r ≡ option_map Input word → ArgumentRead bs r
input_read bs None r b c w e = subst (ArgumentRead bs) (sym e) (none_spelled bs b c w)
input_read bs (Some v) r b c w e = subst (ArgumentRead bs) (sym e) w
