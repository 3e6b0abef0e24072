-- The loop that takes steps while there is one, whatever the work is.
use Rattle.std.proofs.Common.{◌≡◌, ℕ, zero, suc, ◌+◌, ◌-◌, ◌^◌, ◌<◌, ◌≤◌, min, Some, None, Option, sym, refl, ap, ◌∙◌, subst, arith}
use Rattle.settling.specs.Worklist.{Ended, one_step_more, run, Comes, OnlyOutcome}
use Rattle.settling.specs.Worklist.Comes.{rests, goes}

module _ {W : Type 0} (next : W → Option W) where
  run_rests : (n : ℕ) (w : W) → next w ≡ None → run next n w ≡ record { last = w; steps = 0 }
  unfolding run
  run_rests zero w none = refl
  run_rests (suc n) w none = rw (none, run)

  run_goes : (n : ℕ) (w u : W) → next w ≡ Some u → run next (suc n) w ≡ one_step_more (run next n u)
  unfolding run
  run_goes n w u some = rw (some, run)

  -- if no step is left at the end, n was enough
  run_comes : (n : ℕ) (w : W) → next (run next n w).last ≡ None → Comes next w (run next n w).steps (run next n w).last
  unfolding run
  run_comes zero w none = rests none
  run_comes (suc n) w none = go (next w) refl (λ u. run_comes n u)
    where
      go : (o : Option W) → next w ≡ o → ((u : W) → next (run next n u).last ≡ None → Comes next u (run next n u).steps (run next n u).last)
          → Comes next w (run next (suc n) w).steps (run next (suc n) w).last
      go None e later = subst (λ z. Comes next w z.steps z.last) (sym (run_rests (suc n) w e)) (rests e)
      go (Some u) e later =
          let r = run_goes n w u e in
          subst (λ z. Comes next w z.steps z.last) (sym r) (goes e (later u (ap (λ z. next z.last) (sym r) ∙ none)))

  comes_once : {w w₁ w₂ : W} {n₁ n₂ : ℕ} → Comes next w n₁ w₁ → Comes next w n₂ w₂ → (n₁ ≡ n₂) × (w₁ ≡ w₂)
  comes_once (rests e) (rests f) = (refl, refl)
  comes_once (rests e) (goes f d) = let z : ◌≡◌ {A = ℕ} 0 1 = cc in absurd (omega arith)
  comes_once (goes e c) (rests f) = let z : ◌≡◌ {A = ℕ} 0 1 = cc in absurd (omega arith)
  comes_once {w₂ = w₂} (goes {u = u₁} {n = n₁} e c) (goes {u = u₂} {n = n₂} f d) =
      let same : u₂ ≡ u₁ = cc in
      let r = comes_once c (subst (λ k. Comes next k n₂ w₂) same d) in
      (ap suc r.0, r.1)

  pub only_outcome : (n : ℕ) (w : W) → next (run next n w).last ≡ None → OnlyOutcome next w (run next n w)
  only_outcome n w none = let comes = run_comes n w none in record { comes = comes; only = λ k u other. comes_once other comes }

  -- steps that keep an invariant and lessen a potential run out within that potential
  module _ (potential : W → ℕ) (Inv : W → Type 0) (keeps : (w u : W) → Inv w → next w ≡ Some u → Inv u × (potential u < potential w)) where
    abbrev RunOut : ℕ → Ended W → Type 0
    RunOut n r = (next r.last ≡ None) × Inv r.last × (r.steps ≤ n)

    pub run_out : (n : ℕ) (w : W) → Inv w → potential w ≤ n → RunOut n (run next n w)
    unfolding run
    run_out zero w holds low = go (next w) refl
      where
        go : (o : Option W) → next w ≡ o → RunOut 0 (run next 0 w)
        go None e = (e, holds, omega arith)
        go (Some u) e = let less = (keeps w u holds e).1 in absurd (omega arith)
    run_out (suc n) w holds low = go (next w) refl (λ u. run_out n u)
      where
        go : (o : Option W) → next w ≡ o → ((u : W) → Inv u → potential u ≤ n → RunOut n (run next n u)) → RunOut (suc n) (run next (suc n) w)
        go None e later = subst (RunOut (suc n)) (sym (run_rests (suc n) w e)) (e, holds, omega arith)
        go (Some u) e later =
            let kept = keeps w u holds e in
            let less = kept.1 in
            let rest = later u kept.0 (omega arith) in
            subst (RunOut (suc n)) (sym (run_goes n w u e)) (rest.0, rest.1, (let few = rest.2 in omega arith))

-- after some steps from start, of which the code has counted as many as fit, the work stands at w: what is left of the run gives what the whole gives
pub record Going {W : Type 0} (next : W → Option W) (all : ℕ) (start : W) (potential : W → ℕ) (counted : ℕ) (w : W) : Type 0 where
  pub steps : ℕ
  pub told : counted ≡ min steps (2 ^ 32 - 1)
  pub left : steps + potential w ≤ all
  pub last : (run next (all - steps) w).last ≡ (run next all start).last
  pub number : steps + (run next (all - steps) w).steps ≡ (run next all start).steps

-- no step is left at w
pub record Done {W : Type 0} (next : W → Option W) (all : ℕ) (start : W) (counted : ℕ) (w : W) : Type 0 where
  pub last : w ≡ (run next all start).last
  pub told : counted ≡ min (run next all start).steps (2 ^ 32 - 1)

module _ {W : Type 0} (next : W → Option W) (all : ℕ) (start : W) (potential : W → ℕ) where
  pub going_starts : potential start ≤ all → Going next all start potential 0 start
  going_starts enough =
      let e : all - 0 ≡ all = omega arith in
      record {
        steps = 0;
        told = omega arith;
        left = omega arith;
        last = ap (λ n. (run next n start).last) e;
        number = let h = ap (λ n. (run next n start).steps) e in omega arith;
      }

  pub going_on : (counted counted' : ℕ) (w u : W) → Going next all start potential counted w → next w ≡ Some u → potential u < potential w
      → counted' ≡ min (counted + 1) (2 ^ 32 - 1) → Going next all start potential counted' u
  going_on counted counted' w u was some less one_more =
      let rest = all - (was.steps + 1) in
      let fuel : all - was.steps ≡ suc rest = omega (arith, was.left) in
      let r : run next (all - was.steps) w ≡ one_step_more (run next rest u) = ap (λ n. run next n w) fuel ∙ run_goes next rest w u some in
      record {
        steps = was.steps + 1;
        told = omega (arith, was.told);
        left = omega (arith, was.left);
        last = sym (ap (λ z. z.last) r) ∙ was.last;
        number = omega (arith, was.number, ap (λ z. z.steps) r);
      }

  pub going_ends : (counted : ℕ) (w : W) → Going next all start potential counted w → next w ≡ None → Done next all start counted w
  going_ends counted w was none =
      let r = run_rests next (all - was.steps) w none in
      let number : was.steps ≡ (run next all start).steps = let a = ap (λ z. z.steps) r in let b = was.number in omega arith in
      record { last = sym (ap (λ z. z.last) r) ∙ was.last; told = was.told ∙ ap (λ n. min n (2 ^ 32 - 1)) number }

-- what a lent value is at the end is what it was last in the work that borrowed it
pub ended : {X : Type 0} {x y z : X} → y ≡ z → x ≡ y → x ≡ z
ended last lent = lent ∙ last
