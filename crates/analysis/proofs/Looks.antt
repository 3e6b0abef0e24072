-- What one look at an entry comes to, as the program makes it.
use Rattle.std.proofs.Common.{◌≡◌, ℕ, zero, suc, ◌+◌, ◌-◌, ◌<◌, ◌≤◌, cond, leb, List, [], ◌∷◌, length, get_or, sym, refl, ap, ◌∙◌, arith}
use Rattle.std.specs.List.{slice_get}
use Rattle.std.specs.Option.{unwrap_or}
use Rattle.std.proofs.lemmas.Option.{unwrap_or-slice_get}
use Rattle.std.proofs.lemmas.Bool.Decides.{nat_tests}
use Rattle.analysis.specs.Analyses.{MovesOf, absent, instead}
use Rattle.analysis.specs.Rows.{row_limit}
use Rattle.analysis.specs.Deeps.{last_of, Course, kept, taken_up, each, tried, looked}
use Rattle.machine.specs.declared.node.Node.{Node}

module _ {F : Type 0} (m : MovesOf F) where
  -- with no level left the entry stays
  pub looked_last : (levels : ℕ) (n : Node) (waiting : ℕ) (c : Course F) → levels ≡ 0 → looked m levels n waiting c ≡ kept m n c
  unfolding looked
  looked_last levels n waiting c e = rw e

  pub looked_more : (levels k : ℕ) (n : Node) (waiting : ℕ) (c : Course F) → levels ≡ suc k
      → looked m levels n waiting c ≡ tried m (looked m k) (m.proposal c.fact n) n waiting c
  unfolding looked
  looked_more levels k n waiting c e = rw e

  pub looked_absent : (levels k : ℕ) (n : Node) (waiting : ℕ) (c : Course F) → levels ≡ suc k → absent ≡ m.proposal c.fact n
      → looked m levels n waiting c ≡ kept m n c
  looked_absent levels k n waiting c e q = looked_more levels k n waiting c e ∙ sym (ap (λ p. tried m (looked m k) p n waiting c) q)

  module _ (levels k : ℕ) (n : Node) (waiting : ℕ) (c : Course F) (e : levels ≡ suc k)
      (row : List Node) (way numbers : ℕ) (q : instead row way numbers ≡ m.proposal c.fact n) where
    tried_so : looked m levels n waiting c ≡ cond (leb (length c.done + length row + waiting) row_limit) (each m (looked m k) row waiting (taken_up n way numbers c)) (kept m n c)
    tried_so = looked_more levels k n waiting c e ∙ sym (ap (λ p. tried m (looked m k) p n waiting c) q)

    pub looked_long : 4 < length c.done + length row + waiting → looked m levels n waiting c ≡ kept m n c
    looked_long h = tried_so ∙ grind (arith, nat_tests)

    pub looked_replaced : length c.done + length row + waiting ≤ 4 → looked m levels n waiting c ≡ each m (looked m k) row waiting (taken_up n way numbers c)
    looked_replaced h = tried_so ∙ grind (arith, nat_tests)

-- the last node of a row
last_at : (row : List Node) (k : ℕ) (d n : Node) → suc k ≡ length row → last_of n row ≡ get_or row k d
last_at [] k d n h = absurd (omega arith)
last_at (x ∷ []) zero d n h = refl
last_at (x ∷ []) (suc k) d n h = absurd (omega arith)
last_at (x ∷ y ∷ row) zero d n h = absurd (omega arith)
last_at (x ∷ y ∷ row) (suc k) d n h = last_at (y ∷ row) k d x (omega arith)

pub last_of_row : (row : List Node) (n : Node) → last_of n row ≡ unwrap_or (slice_get row (length row - 1)) n
last_of_row [] n = refl
last_of_row (x ∷ row) n = last_at (x ∷ row) (length (x ∷ row) - 1) n n (omega arith) ∙ sym (unwrap_or-slice_get (x ∷ row) (length (x ∷ row) - 1) n)
