-- Going through the marks in order.
use Rattle.std.proofs.Common.{◌≡◌, ℕ, zero, suc, ◌+◌, ◌<◌, ◌≤◌, Bool, true, false, cond, List, [], ◌∷◌, ◌++◌, length, get_or, take, drop, set, sym, refl, ap, ◌∙◌, append_assoc, arith}
use Rattle.std.proofs.lemmas.List.{drop_more, drop-set-lt, take_more_set}
use Rattle.tidying.specs.Tidy.{marked, rank}

pub rank_le : (marks : List Bool) (n : ℕ) → rank marks n ≤ n
rank_le [] n = omega arith
rank_le (b ∷ marks) zero = omega arith
rank_le (true ∷ marks) (suc n) = let h = rank_le marks n in omega arith
rank_le (false ∷ marks) (suc n) = let h = rank_le marks n in omega arith

rank_suc : (marks : List Bool) (n : ℕ) → rank marks (suc n) ≡ rank marks n + cond (get_or marks n false) 1 0
rank_suc [] n = refl
rank_suc (true ∷ []) zero = refl
rank_suc (true ∷ b ∷ marks) zero = refl
rank_suc (false ∷ []) zero = refl
rank_suc (false ∷ b ∷ marks) zero = refl
rank_suc (true ∷ marks) (suc n) = let h = rank_suc marks n in omega arith
rank_suc (false ∷ marks) (suc n) = rank_suc marks n

pub rank_more : (marks : List Bool) (n : ℕ) (b : Bool) → get_or marks n false ≡ b → rank marks (n + 1) ≡ rank marks n + cond b 1 0
rank_more marks n b is = let one : n + 1 ≡ suc n = omega arith in ap (rank marks) one ∙ rank_suc marks n ∙ ap (λ x. rank marks n + cond x 1 0) is

-- of the entries before i the marked ones stand in front, and those from i on are as they were
pub record Keeping {X : Type 0} (marks : List Bool) (before now : List X) (kept i : ℕ) : Type 0 where
  pub few : kept ≤ i
  pub rest : drop i now ≡ drop i before
  pub all : take kept now ++ marked (drop i marks) (drop i before) ≡ marked marks before

module _ {X : Type 0} (marks : List Bool) (before : List X) where
  module _ (now : List X) (kept i : ℕ) (d : X) (was : Keeping marks before now kept i) (inside : i < length now) (flagged : i < length marks) (long : length now ≡ length before) where
    entry_is : get_or now i d ∷ drop (i + 1) now ≡ get_or before i d ∷ drop (i + 1) before
    entry_is = sym (drop_more now i d inside) ∙ was.rest ∙ drop_more before i d (omega arith)

    pub keeping_dropped : get_or marks i false ≡ false → Keeping marks before now kept (i + 1)
    keeping_dropped down =
        let m = drop_more marks i false flagged in
        let b = drop_more before i d (omega arith) in
        let e = entry_is in
        record { few = let f = was.few in omega arith; rest = cc; all = let a = was.all in cc }

    pub keeping_kept : get_or marks i false ≡ true → Keeping marks before (set now kept (get_or now i d)) (kept + 1) (i + 1)
    keeping_kept up =
        let m = drop_more marks i false flagged in
        let b = drop_more before i d (omega arith) in
        let e = entry_is in
        let f = was.few in
        let put = take_more_set now kept (get_or now i d) (omega arith) in
        let joined = append_assoc (take kept now) (get_or now i d ∷ []) (marked (drop (i + 1) marks) (drop (i + 1) before)) in
        let past = drop-set-lt (i + 1) now kept (get_or now i d) (omega arith) in
        record { few = omega arith; rest = cc; all = let a = was.all in cc }
