-- Laying out a row, entry by entry.
use Rattle.std.proofs.Common.{◌≡◌, ℕ, suc, ◌+◌, ◌<◌, ◌≤◌, List, [], ◌∷◌, ◌++◌, length, get_or, take, drop, set, append_assoc, arith}
use Rattle.std.proofs.lemmas.List.{at_drop_more, at_drop_all, take_more_set, append-nil}
use Rattle.machine.specs.declared.node.Entry.{Entry}
use Rattle.machine.specs.declared.node.Node.{Node}
use Rattle.rounds.specs.Changes.{leading, on_to, laid}

module _ (old : Entry) (way : ℕ) (row : List Node) (base i : ℕ) (d : Node) where
  -- a node that is not the last goes on to the next one's number, and the last to the old target by the way
  pub goes_on : i + 1 < length row → on_to old way (drop (i + 1) row) (suc (base + i)) ≡ suc (base + i)
  goes_on more = at_drop_more (λ ns. on_to old way ns (suc (base + i))) row (i + 1) d more

  pub leaves_row : length row ≤ i + 1 → on_to old way (drop (i + 1) row) (suc (base + i)) ≡ get_or old.targets way 0
  leaves_row last = at_drop_all (λ ns. on_to old way ns (suc (base + i))) row (i + 1) last

  pub laid_more : (entries : List Entry) (next : ℕ) (e : Entry) → i < length row → i < length entries
      → next ≡ on_to old way (drop (i + 1) row) (suc (base + i)) → e ≡ leading old (get_or row i d) next
      → take i entries ++ laid old way (drop i row) (base + i) ≡ laid old way row base
      → take (i + 1) (set entries i e) ++ laid old way (drop (i + 1) row) (base + (i + 1)) ≡ laid old way row base
  laid_more entries next e inside room goes is so_far =
      let later : suc (base + i) ≡ base + (i + 1) = omega arith in
      let here : laid old way (drop i row) (base + i) ≡ leading old (get_or row i d) (on_to old way (drop (i + 1) row) (suc (base + i))) ∷ laid old way (drop (i + 1) row) (suc (base + i)) =
      at_drop_more (λ ns. laid old way ns (base + i)) row i d inside in
      let put = take_more_set entries i e room in
      let joined = append_assoc (take i entries) (e ∷ []) (laid old way (drop (i + 1) row) (base + (i + 1))) in
      cc

-- all are laid
pub laid_all : (old : Entry) (way : ℕ) (row : List Node) (base n i : ℕ) (entries : List Entry) → length row ≡ n → n ≤ i → i ≤ n
    → take i entries ++ laid old way (drop i row) (base + i) ≡ laid old way row base → take n entries ≡ laid old way row base
laid_all old way row base n i entries long far near so_far =
    let e : i ≡ n = omega arith in
    let none : laid old way (drop i row) (base + i) ≡ [] = at_drop_all (λ ns. laid old way ns (base + i)) row i (omega arith) in
    let bare = append-nil (take i entries) in
    cc
