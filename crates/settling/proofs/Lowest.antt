-- The lowest flag that is up, in a list of flags.
use Rattle.std.proofs.Common.{◌≡◌, ℕ, zero, suc, ◌+◌, ◌<◌, ◌≤◌, Bool, true, false, List, [], ◌∷◌, length, get_or, take, Some, None, Option, sym, refl, ◌∙◌, suc-le-suc, zero-le, arith}
use Rattle.std.proofs.lemmas.List.{length-take}
use lib.Seq.{take-set-lt}
use Rattle.settling.specs.NodeSets.{lowest, lowest_from, without}

waits_from : (k : ℕ) (fs : List Bool) (i : ℕ) → lowest_from k fs ≡ Some i → (j : ℕ) × (i ≡ k + j) × (j < length fs) × (get_or fs j false ≡ true)
waits_from k [] i h = let z : ◌≡◌ {A = ℕ} 0 1 = cc in absurd (omega arith)
waits_from k (true ∷ fs) i h = let z : i ≡ k = cc in (0, omega arith, omega arith, refl)
waits_from k (false ∷ fs) i h = let r = waits_from (k + 1) fs i h in (suc r.0, omega arith, omega arith, r.3)

-- its flag is there, and up
pub lowest_waits : (fs : List Bool) (i : ℕ) → lowest fs ≡ Some i → (i < length fs) × (get_or fs i false ≡ true)
lowest_waits fs i h =
    let r = waits_from 0 fs i h in
    let e : i ≡ r.0 = omega arith in
    (omega arith, rw e r.3)

rests_from : (k : ℕ) (fs : List Bool) → lowest_from k fs ≡ None → (i : ℕ) → get_or fs i false ≡ false
rests_from k [] h i = refl
rests_from k (true ∷ fs) h i = let z : ◌≡◌ {A = ℕ} 0 1 = cc in absurd (omega arith)
rests_from k (false ∷ fs) h zero = refl
rests_from k (false ∷ fs) h (suc i) = rests_from (k + 1) fs h i

-- where there is none, no flag is up
pub lowest_rests : (fs : List Bool) → lowest fs ≡ None → (i : ℕ) → get_or fs i false ≡ false
lowest_rests fs h i = rests_from 0 fs h i

down_from : (k : ℕ) (fs : List Bool) → ((i : ℕ) → get_or fs i false ≡ false) → lowest_from k fs ≡ None
down_from k [] down = refl
down_from k (true ∷ fs) down = let e = down 0 in cc
down_from k (false ∷ fs) down = down_from (k + 1) fs (λ i. down (suc i))

front_from : (k n : ℕ) (fs : List Bool) → ((i : ℕ) → n ≤ i → get_or fs i false ≡ false) → lowest_from k (take n fs) ≡ lowest_from k fs
front_from k zero fs down = let e = down_from k fs (λ i. down i zero-le) in cc
front_from k (suc n) [] down = refl
front_from k (suc n) (true ∷ fs) down = refl
front_from k (suc n) (false ∷ fs) down = front_from (k + 1) n fs (λ i h. down (suc i) (suc-le-suc h))

-- it is among the first n, if no flag behind them is up
pub lowest_front : (n : ℕ) (fs : List Bool) → ((k : ℕ) → n ≤ k → get_or fs k false ≡ false) → lowest (take n fs) ≡ lowest fs
lowest_front n fs down = front_from 0 n fs down

-- taking it from the first n is taking it from all
pub without_front : (n : ℕ) (fs : List Bool) → ((k : ℕ) → n ≤ k → get_or fs k false ≡ false) → (r : Option ℕ) → r ≡ lowest fs → take n (without r fs) ≡ without r (take n fs)
without_front n fs down None is = refl
without_front n fs down (Some i) is =
    let waits = lowest_waits (take n fs) i (lowest_front n fs down ∙ sym is) in
    let short = length-take n fs in
    take-set-lt n fs i false (omega (arith, waits.0))
