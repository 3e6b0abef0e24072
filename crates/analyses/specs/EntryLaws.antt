-- Facts that keep an entry for each register show what is asked of facts.
use Rattle.std.specs.Prelude.{◌≡◌, ℕ, zero, suc, ◌+◌, ◌<◌, ◌≤◌, Bool, true, false, cond, not, ◌&&◌, ◌||◌, List, [], ◌∷◌, ◌++◌, length, is_some, Some, None, Option, ◌≢◌, slice_index_or, slice_set}
use Rattle.std.specs.Option.{is_none, unwrap_or}
use Rattle.std.proofs.Math.Bool.{not-not}
use Rattle.std.proofs.Math.Path.{refl, sym, ap}
use Rattle.std.proofs.Common.{subst, ◌∙◌}
use Rattle.std.proofs.Math.Logic.{⊎_elim}
use native.Mathlib.Omega.{arith}
use Rattle.std.proofs.Math.Numerals.{add-one}
use Rattle.std.proofs.lemmas.List.{get_or_append_left, get_or_push, length_push, get_or-set_same, set_past, get_or_past}
use Rattle.std.proofs.lemmas.Bool.{cases_eq, cases_lt}
use Rattle.machine.specs.State.{State}
use Rattle.analysis.specs.Facts.{Point, state, register, cell, FactsShow}
use Rattle.analyses.specs.Entries.{Entries, Holds, agreed, lost, entry_at, gap, gaps, any_lost, agreeing, joined, rises, entry_rank, entry_allows, entry_facts, flagged_allows, flagged_facts}

-- one entry

pub no_some : {T X : Type 0} (u : T) → None ≡ Some u → X
no_some u e = absurd (let z : ◌≡◌ {A = ℕ} 0 1 = cc in omega arith)

module _ {T : Type 0} where
  gap_le : (a : Option T) → gap a ≤ 1
  gap_le None = omega arith
  gap_le (Some x) = omega arith

  -- an entry that was written, in a list of any length
  pub entry_written : (xs : List (Option T)) (d : ℕ) (u : T) (w : Option T) → entry_at (slice_set xs d w) d ≡ Some u → w ≡ Some u
  entry_written xs d u w e = ⊎_elim
      (λ (h : d < length xs). sym (get_or-set_same xs d w None h) ∙ e)
      (λ (h : length xs ≤ d). no_some u (sym (ap (λ ys. slice_index_or ys d None) (set_past xs d w h) ∙ get_or_past xs d None h) ∙ e))
      (cases_lt d (length xs))

  gaps_le : (k : ℕ) (xs : List (Option T)) → gaps k xs ≤ k
  unfolding gaps
  gaps_le zero xs = omega arith
  gaps_le (suc k) xs = omega (arith, gaps_le k xs, gap_le (entry_at xs k))

-- two entries, where values that pass the test are equal
module _ {T : Type 0} (eq : T → T → Bool) (equal : (x y : T) → eq x y ≡ true → x ≡ y) where
  agreed_left : (a b : Option T) (v : T) → agreed eq a b ≡ Some v → a ≡ Some v
  agreed_left None b v e = e
  agreed_left (Some x) None v e = no_some v e
  agreed_left (Some x) (Some y) v e = go (eq x y) e
    where
      go : (b : Bool) → cond b (Some x) None ≡ Some v → Some x ≡ Some v
      go true e = e
      go false e = no_some v e

  agreed_right : (a b : Option T) (v : T) → agreed eq a b ≡ Some v → b ≡ Some v
  agreed_right None b v e = no_some v e
  agreed_right (Some x) None v e = e
  agreed_right (Some x) (Some y) v e = go (eq x y) refl e
    where
      go : (b : Bool) → eq x y ≡ b → cond b (Some x) None ≡ Some v → Some y ≡ Some v
      go true q e = sym (ap Some (equal x y q)) ∙ e
      go false q e = no_some v e

  kept_right : (a b : Option T) (v : T) → lost eq a b ≡ false → a ≡ Some v → b ≡ Some v
  kept_right None b v q e = no_some v e
  kept_right (Some x) None v q e = absurd (let z : ◌≡◌ {A = ℕ} 0 1 = cc in omega arith)
  kept_right (Some x) (Some y) v q e = go (eq x y) refl q
    where
      go : (b : Bool) → eq x y ≡ b → not (is_some (cond b (Some x) None)) ≡ false → Some y ≡ Some v
      go true p q = sym (ap Some (equal x y p)) ∙ e
      go false p q = absurd (let z : ◌≡◌ {A = ℕ} 0 1 = cc in omega arith)

  gap_grows : (a b : Option T) → gap a ≤ gap (agreed eq a b)
  gap_grows None b = omega arith
  gap_grows (Some x) b = omega arith

  gap_lost : (a b : Option T) → lost eq a b ≡ true → gap a < gap (agreed eq a b)
  gap_lost None b e = absurd (let z : ◌≡◌ {A = ℕ} 0 1 = cc in omega arith)
  gap_lost (Some x) None e = omega arith
  gap_lost (Some x) (Some y) e = go (eq x y) e
    where
      go : (b : Bool) → not (is_some (cond b (Some x) None)) ≡ true → 0 < gap (cond b (Some x) None)
      go true e = absurd (let z : ◌≡◌ {A = ℕ} 0 1 = cc in omega arith)
      go false e = omega arith

-- all entries

module _ {T : Type 0} (eq : T → T → Bool) (xs ys : List (Option T)) where
  pub length_agreeing : (k : ℕ) → length (agreeing eq k xs ys) ≡ k
  unfolding agreeing
  length_agreeing zero = refl
  length_agreeing (suc k) = length_push (agreeing eq k xs ys) (agreed eq (entry_at xs k) (entry_at ys k)) ∙ omega (arith, length_agreeing k)

  pub entry_agreeing : (k i : ℕ) → i < k → entry_at (agreeing eq k xs ys) i ≡ agreed eq (entry_at xs i) (entry_at ys i)
  unfolding agreeing
  entry_agreeing zero i h = absurd (omega arith)
  entry_agreeing (suc k) i h = ⊎_elim here (before (entry_agreeing k i)) (cases_eq i k)
    where
      here : i ≡ k → entry_at (agreeing eq k xs ys ++ (agreed eq (entry_at xs k) (entry_at ys k) ∷ [])) i ≡ agreed eq (entry_at xs i) (entry_at ys i)
      here e = get_or_push (agreeing eq k xs ys) (agreed eq (entry_at xs k) (entry_at ys k)) None i (length_agreeing k ∙ sym e) ∙ ap (λ j. agreed eq (entry_at xs j) (entry_at ys j)) (sym e)

      before : (i < k → entry_at (agreeing eq k xs ys) i ≡ agreed eq (entry_at xs i) (entry_at ys i)) → (i ≢ k)
          → entry_at (agreeing eq k xs ys ++ (agreed eq (entry_at xs k) (entry_at ys k) ∷ [])) i ≡ agreed eq (entry_at xs i) (entry_at ys i)
      before ih ne = get_or_append_left (agreeing eq k xs ys) (agreed eq (entry_at xs k) (entry_at ys k) ∷ []) None i (omega (arith, length_agreeing k)) ∙ ih (omega arith)

  pub agreeing_next : (k : ℕ) → agreeing eq (k + 1) xs ys ≡ agreeing eq k xs ys ++ (agreed eq (entry_at xs k) (entry_at ys k) ∷ [])
  unfolding agreeing
  agreeing_next k = rw add-one

  pub any_next : (k : ℕ) → any_lost eq (k + 1) xs ys ≡ (any_lost eq k xs ys || lost eq (entry_at xs k) (entry_at ys k))
  unfolding any_lost
  any_next k = rw add-one

  -- the same, of what is told of an entry
  pub any_told : (k : ℕ) (rose some none : Bool) (both : Option T) → rose ≡ any_lost eq k xs ys → both ≡ agreed eq (entry_at xs k) (entry_at ys k) → some ≡ is_some (entry_at xs k)
      → is_some both ≡ not none → (rose || (some && none)) ≡ any_lost eq (k + 1) xs ys
  any_told k rose some none both p q r w =
      ap (λ b. b || (some && none)) p
      ∙ ap (λ b. any_lost eq k xs ys || (b && none)) r
      ∙ ap (λ b. any_lost eq k xs ys || (is_some (entry_at xs k) && b)) (sym (not-not none) ∙ ap not (sym w) ∙ ap (λ o. not (is_some o)) q)
      ∙ sym (any_next k)

  pub none_lost : (k i : ℕ) → any_lost eq k xs ys ≡ false → i < k → lost eq (entry_at xs i) (entry_at ys i) ≡ false
  unfolding any_lost
  none_lost zero i e h = absurd (omega arith)
  none_lost (suc k) i e h = go (none_lost k i) (any_lost eq k xs ys) refl e
    where
      go : (any_lost eq k xs ys ≡ false → i < k → lost eq (entry_at xs i) (entry_at ys i) ≡ false) → (b : Bool) → any_lost eq k xs ys ≡ b
          → (b || lost eq (entry_at xs k) (entry_at ys k)) ≡ false → lost eq (entry_at xs i) (entry_at ys i) ≡ false
      go ih true q e = absurd (let z : ◌≡◌ {A = ℕ} 0 1 = cc in omega arith)
      go ih false q e = ⊎_elim (λ (p : i ≡ k). ap (λ j. lost eq (entry_at xs j) (entry_at ys j)) p ∙ e) (λ (ne : i ≡ k → ⊥). ih q (omega arith)) (cases_eq i k)

module _ {T : Type 0} (eq : T → T → Bool) (equal : (x y : T) → eq x y ≡ true → x ≡ y) (xs ys : List (Option T)) where
  gaps_grow : (n k : ℕ) → k ≤ n → gaps k xs ≤ gaps k (agreeing eq n xs ys)
  unfolding gaps
  gaps_grow n zero h = omega arith
  gaps_grow n (suc k) h =
      let at = ap gap (entry_agreeing eq xs ys n k h) in
      omega (arith, gaps_grow n k (omega arith), gap_grows eq equal (entry_at xs k) (entry_at ys k), at)

  gaps_rise : (n k : ℕ) → k ≤ n → any_lost eq k xs ys ≡ true → gaps k xs < gaps k (agreeing eq n xs ys)
  unfolding gaps any_lost
  gaps_rise n zero h e = absurd (let z : ◌≡◌ {A = ℕ} 0 1 = cc in omega arith)
  gaps_rise n (suc k) h e = go (gaps_rise n k (omega arith)) (any_lost eq k xs ys) refl e
    where
      at : gap (entry_at (agreeing eq n xs ys) k) ≡ gap (agreed eq (entry_at xs k) (entry_at ys k))
      at = ap gap (entry_agreeing eq xs ys n k h)

      go : (any_lost eq k xs ys ≡ true → gaps k xs < gaps k (agreeing eq n xs ys)) → (b : Bool) → any_lost eq k xs ys ≡ b
          → (b || lost eq (entry_at xs k) (entry_at ys k)) ≡ true → gaps k xs + gap (entry_at xs k) < gaps k (agreeing eq n xs ys) + gap (entry_at (agreeing eq n xs ys) k)
      go ih true q e = omega (arith, ih q, gap_grows eq equal (entry_at xs k) (entry_at ys k), at)
      go ih false q e = omega (arith, gaps_grow n k (omega arith), gap_lost eq equal (entry_at xs k) (entry_at ys k) e, at)

-- the laws of facts of any type with a flag, by cases on the two flags and on whether an entry is lost
module _ {Fact T : Type 0} (eq : T → T → Bool) (equal : (x y : T) → eq x y ≡ true → x ≡ y) (none : Fact → Bool) (entries : Fact → List (Option T)) (made : Bool → List (Option T) → Fact)
    (Says : List ℕ → ℕ → T → Type 0) (made_none : (b : Bool) (xs : List (Option T)) → none (made b xs) ≡ b) (made_entries : (xs : List (Option T)) → entries (made false xs) ≡ xs) where
  Allowed : Fact → State → Type 0
  Allowed f s = flagged_allows eq none entries made Says f (state s)

  rank_of : Fact → ℕ
  rank_of f = cond (none f) 0 (1 + gaps 8 (entries f))

  join_in : (f g : Fact) (b c d : Bool) → Fact
  join_in f g b c d = cond b f (cond c g (cond d (made (none f) (agreeing eq 8 (entries f) (entries g))) f))

  not_none : (f : Fact) (s : State) → Allowed f s → none f ≢ true
  unfolding Allowed
  not_none f s a q = let z : ◌≡◌ {A = Bool} true false = sym q ∙ a.0 in let y : ◌≡◌ {A = ℕ} 0 1 = cc in omega arith

  -- the entries of the merged fact, where it is made
  merged_entries : (f g : Fact) → none f ≡ false → entries (made (none f) (agreeing eq 8 (entries f) (entries g))) ≡ agreeing eq 8 (entries f) (entries g)
  merged_entries f g q = ap (λ b. entries (made b (agreeing eq 8 (entries f) (entries g)))) q ∙ made_entries (agreeing eq 8 (entries f) (entries g))

  -- each was one of both
  merged_entry : (f g : Fact) (i : ℕ) (v : T) → none f ≡ false → i < 8 → entry_at (entries (made (none f) (agreeing eq 8 (entries f) (entries g)))) i ≡ Some v
      → agreed eq (entry_at (entries f) i) (entry_at (entries g) i) ≡ Some v
  merged_entry f g i v q h e = sym (ap (λ xs. entry_at xs i) (merged_entries f g q) ∙ entry_agreeing eq (entries f) (entries g) 8 i h) ∙ e

  left_in : (f g : Fact) (s : State) → Allowed f s → (b c d : Bool) → none f ≡ c → Allowed (join_in f g b c d) s
  unfolding Allowed join_in
  left_in f g s a true c d q = a
  left_in f g s a false true d q = absurd (not_none f s a q)
  left_in f g s a false false true q = (
    made_none (none f) (agreeing eq 8 (entries f) (entries g)) ∙ a.0,
    λ i v h e. a.1 i v h (agreed_left eq equal (entry_at (entries f) i) (entry_at (entries g) i) v (merged_entry f g i v q h e)),
  )
  left_in f g s a false false false q = a

  right_in : (f g : Fact) (s : State) → Allowed g s → (b c d : Bool) → none g ≡ b → none f ≡ c → any_lost eq 8 (entries f) (entries g) ≡ d → Allowed (join_in f g b c d) s
  unfolding Allowed join_in
  right_in f g s a true c d p q r = absurd (not_none g s a p)
  right_in f g s a false true d p q r = a
  right_in f g s a false false true p q r = (
    made_none (none f) (agreeing eq 8 (entries f) (entries g)) ∙ q,
    λ i v h e. a.1 i v h (agreed_right eq equal (entry_at (entries f) i) (entry_at (entries g) i) v (merged_entry f g i v q h e)),
  )
  right_in f g s a false false false p q r =
      (q, λ i v h e. a.1 i v h (kept_right eq equal (entry_at (entries f) i) (entry_at (entries g) i) v (none_lost eq (entries f) (entries g) 8 i r h) e))

  same_in : (f g : Fact) (b c d : Bool) → cond b false (cond c true d) ≡ false → join_in f g b c d ≡ f
  unfolding join_in
  same_in f g true c d e = refl
  same_in f g false true d e = absurd (let z : ◌≡◌ {A = ℕ} 0 1 = cc in omega arith)
  same_in f g false false true e = absurd (let z : ◌≡◌ {A = ℕ} 0 1 = cc in omega arith)
  same_in f g false false false e = refl

  rank_none : (f : Fact) → none f ≡ true → rank_of f ≡ 0
  unfolding rank_of
  rank_none f p = ap (λ (b : Bool). cond b 0 (1 + gaps 8 (entries f))) p

  rank_some : (f : Fact) → none f ≡ false → rank_of f ≡ 1 + gaps 8 (entries f)
  unfolding rank_of
  rank_some f p = ap (λ (b : Bool). cond b 0 (1 + gaps 8 (entries f))) p

  higher_in : (f g : Fact) (b c d : Bool) → none g ≡ b → none f ≡ c → any_lost eq 8 (entries f) (entries g) ≡ d → cond b false (cond c true d) ≡ true → rank_of f < rank_of (join_in f g b c d)
  unfolding join_in
  higher_in f g true c d p q r e = absurd (let z : ◌≡◌ {A = ℕ} 0 1 = cc in omega arith)
  higher_in f g false true d p q r e = omega (arith, rank_none f q, rank_some g p)
  higher_in f g false false true p q r e =
      let after = made (none f) (agreeing eq 8 (entries f) (entries g)) in
      let more = gaps_rise eq equal (entries f) (entries g) 8 8 (omega arith) r in
      let there = rank_some after (made_none (none f) (agreeing eq 8 (entries f) (entries g)) ∙ q) in
      let held = ap (gaps 8) (merged_entries f g q) in
      omega (arith, rank_some f q)
  higher_in f g false false false p q r e = absurd (let z : ◌≡◌ {A = ℕ} 0 1 = cc in omega arith)

  low_in : (f : Fact) (b : Bool) → cond b 0 (1 + gaps 8 (entries f)) ≤ 9
  low_in f true = omega arith
  low_in f false = omega (arith, gaps_le 8 (entries f))

  empty_in : (f : Fact) (p : Point) (b : Bool) → none f ≡ b → cond b 0 (1 + gaps 8 (entries f)) ≡ 0 → flagged_allows eq none entries made Says f p → ⊥
  unfolding Allowed
  empty_in f (state s) true q e a = not_none f s a q
  empty_in f (state s) false q e a = omega arith
  empty_in f (register r) b q e a = a
  empty_in f (cell c) b q e a = a

  left_at : (f g : Fact) (p : Point) → flagged_allows eq none entries made Says f p → flagged_allows eq none entries made Says ((flagged_facts eq none entries made Says).joined f g) p
  unfolding Allowed join_in
  left_at f g (state s) a = left_in f g s a (none g) (none f) (any_lost eq 8 (entries f) (entries g)) refl
  left_at f g (register r) a = absurd a
  left_at f g (cell c) a = absurd a

  right_at : (f g : Fact) (p : Point) → flagged_allows eq none entries made Says g p → flagged_allows eq none entries made Says ((flagged_facts eq none entries made Says).joined f g) p
  unfolding Allowed join_in
  right_at f g (state s) a = right_in f g s a (none g) (none f) (any_lost eq 8 (entries f) (entries g)) refl refl refl
  right_at f g (register r) a = absurd a
  right_at f g (cell c) a = absurd a

  pub flagged_shown : FactsShow (flagged_facts eq none entries made Says)
  unfolding join_in rank_of
  flagged_shown = record {
    low = λ f. low_in f (none f);
    bottom = rank_none (flagged_facts eq none entries made Says).nowhere (made_none true _);
    empty = λ f p e a. empty_in f p (none f) refl e a;
    left = left_at;
    right = right_at;
    same = λ f g e. same_in f g (none g) (none f) (any_lost eq 8 (entries f) (entries g)) e;
    higher = λ f g e. higher_in f g (none g) (none f) (any_lost eq 8 (entries f) (entries g)) refl refl refl e;
  }

  -- a fact says nothing of a state but what it says of the registers
  pub flagged_same_registers : (f : Fact) (s t : State) → t.regs ≡ s.regs → flagged_allows eq none entries made Says f (state s) → flagged_allows eq none entries made Says f (state t)
  flagged_same_registers f s t q a = subst (λ regs. (none f ≡ false) × Holds eq Says (entries f) regs) (sym q) a

  -- the joined fact, where neither is nowhere and an entry was lost
  pub joined_risen : (f g : Fact) (xs : List (Option T)) → none g ≡ false → none f ≡ false → any_lost eq 8 (entries f) (entries g) ≡ true → xs ≡ agreeing eq 8 (entries f) (entries g)
      → made (none f) xs ≡ (flagged_facts eq none entries made Says).joined f g
  unfolding join_in
  joined_risen f g xs p q r e = ap (made (none f)) e ∙ go (none g) (none f) (any_lost eq 8 (entries f) (entries g)) p q r
    where
      go : (b c d : Bool) → b ≡ false → c ≡ false → d ≡ true → made (none f) (agreeing eq 8 (entries f) (entries g)) ≡ join_in f g b c d
      go true c d p q r = absurd (let z : ◌≡◌ {A = ℕ} 0 1 = cc in omega arith)
      go false true d p q r = absurd (let z : ◌≡◌ {A = ℕ} 0 1 = cc in omega arith)
      go false false true p q r = refl
      go false false false p q r = absurd (let z : ◌≡◌ {A = ℕ} 0 1 = cc in omega arith)

-- entries, or none, are such facts
module _ {T : Type 0} (eq : T → T → Bool) (equal : (x y : T) → eq x y ≡ true → x ≡ y) (Says : List ℕ → ℕ → T → Type 0) where
  abbrev present : Entries T → List (Option T)
  present f = unwrap_or f []

  abbrev made_of : Bool → List (Option T) → Entries T
  made_of b xs = cond b None (Some xs)

  flagged : FactsShow (flagged_facts eq is_none present made_of Says)
  flagged = flagged_shown eq equal is_none present made_of Says made_flag (λ xs. refl)
    where
      made_flag : (b : Bool) (xs : List (Option T)) → is_none (made_of b xs) ≡ b
      made_flag true xs = refl
      made_flag false xs = refl

  merged_in : (b : Bool) (xs ys : List (Option T)) → cond b (Some xs) (Some ys) ≡ Some (cond b xs ys)
  merged_in true xs ys = refl
  merged_in false xs ys = refl

  allowed_in : (f g : Entries T) (s : State) → f ≡ g → flagged_allows eq is_none present made_of Says f (state s) → entry_allows eq Says g (state s)
  allowed_in None g s e a = let flag : ◌≡◌ {A = Bool} true false = a.0 in let never : ◌≡◌ {A = ℕ} 0 1 = cc in absurd (omega arith)
  allowed_in (Some xs) g s e a = subst (λ h. entry_allows eq Says h (state s)) e a.1

  low : (f : Entries T) → entry_rank f ≤ 9
  low None = flagged.low None
  low (Some xs) = flagged.low (Some xs)

  empty : (f : Entries T) (p : Point) → entry_rank f ≡ 0 → entry_allows eq Says f p → ⊥
  empty None p e a = a
  empty (Some xs) (state s) e a = flagged.empty (Some xs) (state s) e (refl, a)
  empty (Some xs) (register r) e a = a
  empty (Some xs) (cell c) e a = a

  left : (f g : Entries T) (p : Point) → entry_allows eq Says f p → entry_allows eq Says (joined eq f g) p
  left None g p a = absurd a
  left (Some xs) None p a = a
  left (Some xs) (Some ys) (state s) a =
      allowed_in _ _ s (merged_in (any_lost eq 8 xs ys) (agreeing eq 8 xs ys) xs) (flagged.left (Some xs) (Some ys) (state s) (refl, a))
  left (Some xs) (Some ys) (register r) a = absurd a
  left (Some xs) (Some ys) (cell c) a = absurd a

  right : (f g : Entries T) (p : Point) → entry_allows eq Says g p → entry_allows eq Says (joined eq f g) p
  right None g p a = a
  right (Some xs) None p a = absurd a
  right (Some xs) (Some ys) (state s) a =
      allowed_in _ _ s (merged_in (any_lost eq 8 xs ys) (agreeing eq 8 xs ys) xs) (flagged.right (Some xs) (Some ys) (state s) (refl, a))
  right (Some xs) (Some ys) (register r) a = absurd a
  right (Some xs) (Some ys) (cell c) a = absurd a

  same : (f g : Entries T) → rises eq f g ≡ false → joined eq f g ≡ f
  same None None e = refl
  same None (Some ys) e = absurd (let z : ◌≡◌ {A = ℕ} 0 1 = cc in omega arith)
  same (Some xs) None e = refl
  same (Some xs) (Some ys) e = sym (merged_in (any_lost eq 8 xs ys) (agreeing eq 8 xs ys) xs) ∙ flagged.same (Some xs) (Some ys) e

  higher : (f g : Entries T) → rises eq f g ≡ true → entry_rank f < entry_rank (joined eq f g)
  higher None None e = absurd (let z : ◌≡◌ {A = ℕ} 0 1 = cc in omega arith)
  higher None (Some ys) e = omega arith
  higher (Some xs) None e = absurd (let z : ◌≡◌ {A = ℕ} 0 1 = cc in omega arith)
  higher (Some xs) (Some ys) e =
      let more = flagged.higher (Some xs) (Some ys) e in
      let rank = λ (f : Entries T). cond (is_none f) 0 (1 + gaps 8 (present f)) in
      subst (λ n. 1 + gaps 8 xs < n) (ap rank (merged_in (any_lost eq 8 xs ys) (agreeing eq 8 xs ys) xs)) more

  pub entries_shown : FactsShow (entry_facts eq Says)
  entries_shown = record { low = low; bottom = refl; empty = empty; left = left; right = right; same = same; higher = higher }

  -- entries say nothing of a state but what they say of the registers
  pub same_registers : (xs : List (Option T)) (s t : State) → t.regs ≡ s.regs → entry_allows eq Says (Some xs) (state s) → entry_allows eq Says (Some xs) (state t)
  same_registers xs s t q a = λ i v h e. subst (λ regs. Says regs i v) (sym q) (a i v h e)
