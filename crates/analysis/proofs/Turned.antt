-- Deep's course is where its turns end.
use Rattle.std.proofs.Common.{◌≡◌, ℕ, zero, suc, ◌+◌, Bool, true, false, cond, ltb, leb, List, [], ◌∷◌, ◌++◌, map, length, refl, ap, ◌∙◌, subst, arith, length-append}
use Rattle.std.proofs.lemmas.List.{length-map}
use Rattle.std.proofs.lemmas.Bool.Decides.{nat_tests}
use Rattle.analysis.specs.Analyses.{MovesOf, Proposed, absent, instead}
use Rattle.analysis.specs.Deeps.{Course, kept, taken_up, each, tried, looked, begun, course}
use Rattle.analysis.specs.Turns.{Place, at_depth, passed, offered, Turns, there, on}
use Rattle.machine.specs.declared.node.Node.{Node}

module _ {F : Type 0} (m : MovesOf F) where
  abbrev place : Course F → List (Node × ℕ) → Place F
  place c es = record { behind = c; entries = es }

  then_turns : {p q r : Place F} → Turns m p q → Turns m q r → Turns m p r
  then_turns there u = u
  then_turns (on t) u = on (then_turns t u)

  -- a row of one depth, entry by entry
  each_turns : (look : Node → ℕ → Course F → Course F) (d : ℕ)
      → ((n : Node) (rest : List (Node × ℕ)) (c : Course F) → Turns m (place c ((n, d) ∷ rest)) (place (look n (length rest) c) rest))
      → (row : List Node) (rest : List (Node × ℕ)) (c : Course F) → Turns m (place c (map (at_depth d) row ++ rest)) (place (each m look row (length rest) c) rest)
  each_turns look d one [] rest c = there
  each_turns look d one (n ∷ row) rest c =
      let behind : length (map (at_depth d) row ++ rest) ≡ length row + length rest =
      length-append (map (at_depth d) row) rest ∙ ap (λ k. k + length rest) (length-map row (at_depth d)) in
      then_turns
      (subst (λ k. Turns m (place c ((n, d) ∷ (map (at_depth d) row ++ rest))) (place (look n k c) (map (at_depth d) row ++ rest))) behind (one n (map (at_depth d) row ++ rest) c))
      (each_turns look d one row rest (look n (length row + length rest) c))

  looked_turns : (levels d : ℕ) → d + levels ≡ 3 → (n : Node) (rest : List (Node × ℕ)) (c : Course F)
      → Turns m (place c ((n, d) ∷ rest)) (place (looked m levels n (length rest) c) rest)
  unfolding looked
  looked_turns zero d e n rest c = on (deepest (ltb d 3) (grind (arith, nat_tests)))
    where
      deepest : (b : Bool) → b ≡ false → Turns m (cond b (offered m (m.proposal c.fact n) n d rest c) (passed m n rest c)) (place (kept m n c) rest)
      deepest true q = absurd (let never : ◌≡◌ {A = ℕ} 0 1 = cc in omega arith)
      deepest false q = there
  looked_turns (suc levels) d e n rest c = on (shallow (looked_turns levels (d + 1) (omega arith)) (ltb d 3) (grind (arith, nat_tests)))
    where
      fits : ((n : Node) (rest : List (Node × ℕ)) (c : Course F) → Turns m (place c ((n, d + 1) ∷ rest)) (place (looked m levels n (length rest) c) rest))
          → (row : List Node) (way numbers : ℕ) (b : Bool)
          → Turns m (cond b (place (taken_up n way numbers c) (map (at_depth (d + 1)) row ++ rest)) (passed m n rest c))
          (place (cond b (each m (looked m levels) row (length rest) (taken_up n way numbers c)) (kept m n c)) rest)
      fits ih row way numbers true = each_turns (looked m levels) (d + 1) ih row rest (taken_up n way numbers c)
      fits ih row way numbers false = there

      answered : ((n : Node) (rest : List (Node × ℕ)) (c : Course F) → Turns m (place c ((n, d + 1) ∷ rest)) (place (looked m levels n (length rest) c) rest))
          → (p : Proposed) → Turns m (offered m p n d rest c) (place (tried m (looked m levels) p n (length rest) c) rest)
      answered ih absent = there
      answered ih (instead row way numbers) = fits ih row way numbers (leb (length c.done + length row + length rest) 4)

      shallow : ((n : Node) (rest : List (Node × ℕ)) (c : Course F) → Turns m (place c ((n, d + 1) ∷ rest)) (place (looked m levels n (length rest) c) rest))
          → (b : Bool) → b ≡ true
          → Turns m (cond b (offered m (m.proposal c.fact n) n d rest c) (passed m n rest c)) (place (tried m (looked m levels) (m.proposal c.fact n) n (length rest) c) rest)
      shallow ih true q = answered ih (m.proposal c.fact n)
      shallow ih false q = absurd (let never : ◌≡◌ {A = ℕ} 0 1 = cc in omega arith)

  pub course_turns : (f : F) (n : Node) → Turns m (place (begun f) ((n, 0) ∷ [])) (place (course m f n) [])
  course_turns f n = looked_turns 3 0 refl n [] (begun f)
