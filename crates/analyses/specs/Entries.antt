-- Facts that keep an entry for each register, present or absent, or say that no run comes.
use Rattle.std.specs.Prelude.{◌≡◌, ℕ, zero, suc, ◌+◌, ◌<◌, Bool, true, false, cond, not, ◌&&◌, ◌||◌, List, [], ◌∷◌, ◌++◌, replicate, is_some, Some, None, Option, slice_index_or}
use Rattle.machine.specs.Limits.{register_count}
use Rattle.analysis.specs.Facts.{Point, state, register, cell, FactsOf}

-- the entries; none where no run comes
abbrev pub Entries : Type 0 → Type 0
Entries T = Option (List (Option T))

abbrev pub entry_at : {T : Type 0} → List (Option T) → ℕ → Option T
entry_at xs i = slice_index_or xs i None

abbrev pub gap : {T : Type 0} → Option T → ℕ
gap None = 1
gap (Some v) = 0

-- the absent entries among the first k
unfoldable pub gaps : {T : Type 0} → ℕ → List (Option T) → ℕ
gaps zero xs = 0
gaps (suc k) xs = gaps k xs + gap (entry_at xs k)

-- by a test for equal values
module _ {T : Type 0} (eq : T → T → Bool) where
  -- what two entries agree on
  abbrev pub agreed : Option T → Option T → Option T
  agreed None b = None
  agreed (Some x) None = None
  agreed (Some x) (Some y) = cond (eq x y) (Some x) None

  -- whether the first is present, and the second does not agree with it
  abbrev pub lost : Option T → Option T → Bool
  lost a b = is_some a && not (is_some (agreed a b))

  -- whether one of the first k is lost
  unfoldable pub any_lost : ℕ → List (Option T) → List (Option T) → Bool
  any_lost zero xs ys = false
  any_lost (suc k) xs ys = any_lost k xs ys || lost (entry_at xs k) (entry_at ys k)

  -- what the first k agree on
  unfoldable pub agreeing : ℕ → List (Option T) → List (Option T) → List (Option T)
  agreeing zero xs ys = []
  agreeing (suc k) xs ys = agreeing k xs ys ++ (agreed (entry_at xs k) (entry_at ys k) ∷ [])

  abbrev pub merged : List (Option T) → List (Option T) → List (Option T)
  merged xs ys = cond (any_lost register_count xs ys) (agreeing register_count xs ys) xs

  abbrev pub joined : Entries T → Entries T → Entries T
  joined None g = g
  joined (Some xs) None = Some xs
  joined (Some xs) (Some ys) = Some (merged xs ys)

  abbrev pub rises : Entries T → Entries T → Bool
  rises None g = is_some g
  rises (Some xs) None = false
  rises (Some xs) (Some ys) = any_lost register_count xs ys

abbrev pub entry_rank : {T : Type 0} → Entries T → ℕ
entry_rank None = 0
entry_rank (Some xs) = 1 + gaps register_count xs

-- Says is what an entry of a register says about the registers
module _ {T : Type 0} (eq : T → T → Bool) (Says : List ℕ → ℕ → T → Type 0) where
  abbrev pub Holds : List (Option T) → List ℕ → Type 0
  Holds xs regs = (i : ℕ) (v : T) → i < register_count → entry_at xs i ≡ Some v → Says regs i v

  abbrev pub entry_allows : Entries T → Point → Type 0
  entry_allows None p = ⊥
  entry_allows (Some xs) (state s) = Holds xs s.regs
  entry_allows (Some xs) (register r) = ⊥
  entry_allows (Some xs) (cell c) = ⊥

  abbrev pub entry_facts : FactsOf (Entries T)
  entry_facts = record {
    height = 9;
    rank = entry_rank;
    allows = entry_allows;
    nowhere = None;
    joined = joined eq;
    rises = rises eq;
  }

-- facts of any type that keep a flag, that no state comes here, beside the entries
module _ {Fact T : Type 0} (eq : T → T → Bool) (none : Fact → Bool) (entries : Fact → List (Option T)) (made : Bool → List (Option T) → Fact) (Says : List ℕ → ℕ → T → Type 0) where
  abbrev pub flagged_allows : Fact → Point → Type 0
  flagged_allows f (state s) = (none f ≡ false) × Holds eq Says (entries f) s.regs
  flagged_allows f (register r) = ⊥
  flagged_allows f (cell c) = ⊥

  abbrev pub flagged_merged : Fact → Fact → Fact
  flagged_merged f g = cond (any_lost eq register_count (entries f) (entries g)) (made (none f) (agreeing eq register_count (entries f) (entries g))) f

  abbrev pub flagged_facts : FactsOf Fact
  flagged_facts = record {
    height = 9;
    rank = λ f. cond (none f) 0 (1 + gaps register_count (entries f));
    allows = flagged_allows;
    nowhere = made true (replicate register_count None);
    joined = λ f g. cond (none g) f (cond (none f) g (flagged_merged f g));
    rises = λ f g. cond (none g) false (cond (none f) true (any_lost eq register_count (entries f) (entries g)));
  }
