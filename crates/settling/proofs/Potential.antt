-- Why settling ends: how far the facts can still rise, and the nodes that wait, together fall with each visit.
use Rattle.std.proofs.Common.{◌≡◌, ℕ, zero, suc, ◌+◌, ◌-◌, ◌*◌, ◌<◌, ◌≤◌, Bool, true, false, List, [], ◌∷◌, length, get_or, set, replicate, refl, ap, arith}
use Rattle.analysis.specs.Facts.{FactsOf}
use Rattle.settling.specs.Worklist.{Worklist}

-- how many wait
abbrev pub waiters : List Bool → ℕ
waiters [] = 0
waiters (true ∷ ws) = suc (waiters ws)
waiters (false ∷ ws) = waiters ws

pub waiters_raise : (ws : List Bool) (i : ℕ) → waiters (set ws i true) ≤ suc (waiters ws)
waiters_raise [] i = omega arith
waiters_raise (true ∷ ws) zero = omega arith
waiters_raise (false ∷ ws) zero = omega arith
waiters_raise (true ∷ ws) (suc i) = let h = waiters_raise ws i in omega arith
waiters_raise (false ∷ ws) (suc i) = waiters_raise ws i

pub waiters_rest : (ws : List Bool) (i : ℕ) → get_or ws i false ≡ true → suc (waiters (set ws i false)) ≡ waiters ws
waiters_rest [] i h = let z : ◌≡◌ {A = ℕ} 0 1 = cc in absurd (omega arith)
waiters_rest (true ∷ ws) zero h = refl
waiters_rest (false ∷ ws) zero h = let z : ◌≡◌ {A = ℕ} 0 1 = cc in absurd (omega arith)
waiters_rest (true ∷ ws) (suc i) h = ap suc (waiters_rest ws i h)
waiters_rest (false ∷ ws) (suc i) h = waiters_rest ws i h

pub none_waits : (n : ℕ) → waiters (replicate n false) ≡ 0
none_waits zero = refl
none_waits (suc n) = none_waits n

module _ {Fact : Type 0} (v : FactsOf Fact) where
  -- how far the facts can still rise
  abbrev pub room : List Fact → ℕ
  room [] = 0
  room (f ∷ fs) = (v.height - v.rank f) + room fs

  pub room_set : (fs : List Fact) (i : ℕ) (h d : Fact) → i < length fs → room (set fs i h) + (v.height - v.rank (get_or fs i d)) ≡ room fs + (v.height - v.rank h)
  room_set [] i h d within = absurd (omega arith)
  room_set (f ∷ fs) zero h d within = omega arith
  room_set (f ∷ fs) (suc i) h d within = let ih = room_set fs i h d (omega arith) in omega arith

  pub room_replicate : (n : ℕ) (f : Fact) → v.rank f ≡ 0 → room (replicate n f) ≡ n * v.height
  room_replicate zero f low = omega arith
  room_replicate (suc n) f low = let h = room_replicate n f low in omega arith

  abbrev pub potential : Worklist Fact → ℕ
  potential w = room w.items + waiters w.waiting
