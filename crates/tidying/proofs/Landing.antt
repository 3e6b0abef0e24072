-- The walk over skips that puts down what it learns.
use Rattle.std.proofs.Common.{◌≡◌, ℕ, zero, suc, ◌<◌, true, false, ◌≢◌, List, [], ◌∷◌, length, set, replicate, Some, None, Option, sym, refl, ◌∙◌, subst, inl, inr, arith}
use Rattle.std.proofs.lemmas.List.{length-set, length-replicate, get_or-set_same, get_or-set_other}
use Rattle.std.proofs.lemmas.Bool.{cases_eq}
use Rattle.machine.specs.Programs.{Prog, IsProgram}
use Rattle.machine.specs.Runs.{entry_of}
use Rattle.tidying.specs.declared.ways.Way.{Way}
use Rattle.tidying.specs.declared.ways.Way.TheVariants.{Unknown, Walking, To, Ring}
use Rattle.tidying.specs.Skips.{is_skip, following, landing}
use Rattle.tidying.specs.Skips.Leads.{one}
use Rattle.tidying.specs.Ways.{way_of, way_found, Says, Right, Left}
use Rattle.tidying.proofs.PastLaws.{leads_trans, solid_ring, solid_here, solid_step}

-- how many nodes have not been looked at
abbrev pub unknowns : List Way → ℕ
unknowns [] = 0
unknowns (Unknown ∷ ways) = suc (unknowns ways)
unknowns (Walking ∷ ways) = unknowns ways
unknowns (To j ∷ ways) = unknowns ways
unknowns (Ring ∷ ways) = unknowns ways

pub unknown_less : (ways : List Way) (n : ℕ) → n < length ways → way_of ways n ≡ Unknown → unknowns (set ways n Walking) < unknowns ways
unknown_less [] n there is = absurd (omega arith)
unknown_less (Unknown ∷ ways) zero there is = omega arith
unknown_less (Walking ∷ ways) zero there is = let z : ◌≡◌ {A = ℕ} 0 1 = cc in absurd (omega arith)
unknown_less (To j ∷ ways) zero there is = let z : ◌≡◌ {A = ℕ} 0 1 = cc in absurd (omega arith)
unknown_less (Ring ∷ ways) zero there is = let z : ◌≡◌ {A = ℕ} 0 1 = cc in absurd (omega arith)
unknown_less (Unknown ∷ ways) (suc n) there is = let h = unknown_less ways n (omega arith) is in omega arith
unknown_less (Walking ∷ ways) (suc n) there is = unknown_less ways n (omega arith) is
unknown_less (To j ∷ ways) (suc n) there is = unknown_less ways n (omega arith) is
unknown_less (Ring ∷ ways) (suc n) there is = unknown_less ways n (omega arith) is

module _ (p : Prog) (ok : IsProgram p) (n : ℕ) (there : n < length p.entries) where
  pub known_ring : (ways : List Way) → Right p n ways → way_of ways n ≡ Ring → None ≡ landing p n
  known_ring ways right is = sym (subst (Says p n n) is (right.says n))

  -- the walk has come back to a node that it is on
  pub known_walking : (ways : List Way) → Right p n ways → way_of ways n ≡ Walking → None ≡ landing p n
  known_walking ways right is = sym (solid_ring p n (subst (Says p n n) is (right.says n)))

  module _ (ways : List Way) (right : Right p n ways) where
    inside : n < length ways
    inside = let e = right.each in omega arith

    pub put_right : (way : Way) → Says p n n way → Right p n (set ways n way)
    put_right way says = record {
      each = length-set ways n way ∙ right.each;
      says = λ k. elim (cases_eq k n) [
        | inl e ↦ subst (λ j. Says p n j (way_of (set ways n way) j)) (sym e) (subst (Says p n n) (sym (get_or-set_same ways n way Unknown inside)) says)
        | inr ne ↦ subst (Says p n k) (sym (get_or-set_other ways n k way Unknown ne)) (right.says k)
      ];
    }

    pub here_right : is_skip (entry_of p n).node ≡ false → Right p n (set ways n (To n))
    here_right solid = put_right (To n) (solid_here p n solid there)

    module _ (skips : is_skip (entry_of p n).node ≡ true) where
      onward : (k : ℕ) (way : Way) → Says p n k way → Says p (following p n) k way
      onward k Unknown says = tt
      onward k Walking says = leads_trans says (one skips refl)
      onward k (To j) says = says
      onward k Ring says = says

      -- the walk goes on from n
      pub walk_right : Right p (following p n) (set ways n Walking)
      walk_right = record {
        each = length-set ways n Walking ∙ right.each;
        says = λ k. elim (cases_eq k n) [
          | inl e ↦ subst (λ j. Says p (following p n) j (way_of (set ways n Walking) j)) (sym e)
              (subst (Says p (following p n) n) (sym (get_or-set_same ways n Walking Unknown inside)) (one skips refl))
          | inr ne ↦ subst (Says p (following p n) k) (sym (get_or-set_other ways n k Walking Unknown ne)) (onward k (way_of ways k) (right.says k))
        ];
      }

      module _ (ways' : List Way) (right' : Right p (following p n) ways') (left' : Left (set ways n Walking) ways') (found : Option ℕ) (is : found ≡ landing p (following p n)) where
        pub found_is : found ≡ landing p n
        found_is = is ∙ sym (solid_step p ok n skips there)

        inside' : n < length ways'
        inside' = let e = right'.each in omega arith

        says_found : (o : Option ℕ) → o ≡ landing p n → Says p n n (way_found o)
        says_found (Some j) e = sym e
        says_found None e = sym e

        back : (k : ℕ) → k ≢ n → (way : Way) → way_of ways' k ≡ way → Says p (following p n) k way → Says p n k way
        back k ne Unknown at says = tt
        back k ne Walking at says =
            let was : way_of ways k ≡ Walking = sym (get_or-set_other ways n k Walking Unknown ne) ∙ left' k at in
            subst (Says p n k) was (right.says k)
        back k ne (To j) at says = says
        back k ne Ring at says = says

        pub walked_right : Right p n (set ways' n (way_found found))
        walked_right = record {
          each = length-set ways' n (way_found found) ∙ right'.each;
          says = λ k. elim (cases_eq k n) [
            | inl e ↦ subst (λ j. Says p n j (way_of (set ways' n (way_found found)) j)) (sym e)
                (subst (Says p n n) (sym (get_or-set_same ways' n (way_found found) Unknown inside')) (says_found found found_is))
            | inr ne ↦ subst (Says p n k) (sym (get_or-set_other ways' n k (way_found found) Unknown ne)) (back k ne (way_of ways' k) refl (right'.says k))
          ];
        }

-- no walk is being made
abbrev pub AtRest : List Way → Type 0
AtRest ways = (k : ℕ) → way_of ways k ≡ Walking → ⊥

pub still_unknown : (n k : ℕ) → way_of (replicate n Unknown) k ≡ Unknown
still_unknown zero k = refl
still_unknown (suc n) zero = refl
still_unknown (suc n) (suc k) = still_unknown n k

pub still_rests : (n : ℕ) → AtRest (replicate n Unknown)
still_rests n k at = let e = still_unknown n k in let z : ◌≡◌ {A = ℕ} 0 1 = cc in omega arith

pub still_right : (p : Prog) (m : ℕ) → Right p m (replicate (length p.entries) Unknown)
still_right p m = record {
  each = length-replicate (length p.entries) Unknown;
  says = λ k. subst (Says p m k) (sym (still_unknown (length p.entries) k)) tt;
}

pub rests_left : (ways ways' : List Way) → AtRest ways → Left ways ways' → AtRest ways'
rests_left ways ways' rests left k at = rests k (left k at)

-- where no walk is being made, it does not matter where one would stand
pub rests_right : (p : Prog) (n m : ℕ) (ways : List Way) → AtRest ways → Right p n ways → Right p m ways
rests_right p n m ways rests right = record { each = right.each; says = λ k. go k (way_of ways k) refl (right.says k) }
  where
    go : (k : ℕ) (way : Way) → way_of ways k ≡ way → Says p n k way → Says p m k way
    go k Unknown at says = tt
    go k Walking at says = absurd (rests k at)
    go k (To j) at says = says
    go k Ring at says = says
