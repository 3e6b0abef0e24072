-- Laws of cutting.
use Rattle.std.proofs.Common.{◌≡◌, ℕ, zero, suc, ◌+◌, ◌<◌, ◌≤◌, List, [], ◌∷◌, length, get_or, take, drop, refl, ap, ◌∙◌, arith}
use Rattle.std.proofs.lemmas.List.{at_drop_more, take_all, drop_all}
use Rattle.std.proofs.lemmas.Bool.{eq-eqb, ne_eqb}
use Rattle.text.specs.Cuts.{parts}

-- what stands past the first part
abbrev pub after : ℕ → List ℕ → List (List ℕ)
after s [] = []
after s (c ∷ cs) = parts s cs

-- r is the place of the first s, or the end
pub cut_parts : (s : ℕ) (bs : List ℕ) (r : ℕ) → r ≤ length bs → ((k : ℕ) → k < r → get_or bs k 0 ≡ s → ⊥) → (r < length bs → get_or bs r 0 ≡ s) → parts s bs ≡ take r bs ∷ after s (drop r bs)
cut_parts s [] zero h b f = refl
cut_parts s [] (suc r) h b f = refl
cut_parts s (c ∷ cs) zero h b f = rw (eq-eqb c s (f (omega arith)))
cut_parts s (c ∷ cs) (suc r) h b f =
    let more = cut_parts s cs r (omega arith) (λ k l. b (suc k) (omega arith)) (λ l. f (omega arith)) in
    rw (ne_eqb c s (b 0 (omega arith)), more)

-- the place r of the first s was found, or none
pub cut_found : (s : ℕ) (bs : List ℕ) (r : ℕ) → r < length bs → ((k : ℕ) → k < r → get_or bs k 0 ≡ s → ⊥) → get_or bs r 0 ≡ s → parts s bs ≡ take r bs ∷ parts s (drop (r + 1) bs)
cut_found s bs r l b f = cut_parts s bs r (omega arith) b (λ _. f) ∙ ap (λ ws. take r bs ∷ ws) (at_drop_more (after s) bs r 0 l)

pub cut_whole : (s : ℕ) (bs : List ℕ) → ((k : ℕ) → k < length bs → get_or bs k 0 ≡ s → ⊥) → parts s bs ≡ bs ∷ []
cut_whole s bs b =
    let a : take (length bs) bs ≡ bs = take_all (length bs) bs (omega arith) in
    let d : drop (length bs) bs ≡ [] = drop_all (length bs) bs (omega arith) in
    cut_parts s bs (length bs) (omega arith) b (λ l. absurd (omega arith)) ∙ rw (a, d)
