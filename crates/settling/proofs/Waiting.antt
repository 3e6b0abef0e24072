-- What the methods of a worklist come to.
use Rattle.std.proofs.Common.{◌≡◌, ℕ, zero, suc, ◌<◌, ◌≤◌, min, true, false, List, length, get_or, take, set, replicate, sym, refl, ap, ◌∙◌, ⊎_elim, arith}
use lib.Seq.{take-set-lt}
use Rattle.std.proofs.lemmas.Bool.{cases_lt}
use Rattle.std.proofs.lemmas.List.{length-set, length-replicate, take-replicate, take_all}
use Rattle.settling.specs.declared.node_set.NodeSet.{NodeSet}
use Rattle.settling.specs.NodeSets.{flags, Within}
use Rattle.settling.specs.Worklist.{Worklist, worklist, worklist_of}

none_up : (n k : ℕ) → get_or (replicate n false) k false ≡ false
none_up zero k = refl
none_up (suc n) zero = refl
none_up (suc n) (suc k) = none_up n k

-- where none waits, none but nodes does
pub within_none : (nodes : ℕ) (ws : NodeSet) → flags ws ≡ replicate 256 false → Within nodes ws
within_none nodes ws still k far = ap (λ fs. get_or fs k false) still ∙ none_up 256 k

-- of the 256 flags, as many as there are nodes
still_front : (nodes : ℕ) → take nodes (replicate 256 false) ≡ replicate (min nodes 256) false
still_front nodes = ⊎_elim few many (cases_lt nodes 256)
  where
    few : nodes < 256 → take nodes (replicate 256 false) ≡ replicate (min nodes 256) false
    few h =
        let least : min nodes 256 ≡ nodes = omega arith in
        take-replicate nodes 256 false (omega arith) ∙ ap (λ n. replicate n false) (sym least)

    many : 256 ≤ nodes → take nodes (replicate 256 false) ≡ replicate (min nodes 256) false
    many h =
        let least : min nodes 256 ≡ 256 = omega arith in
        take_all nodes (replicate 256 false) (let long = length-replicate 256 false in omega arith) ∙ ap (λ n. replicate n false) (sym least)

-- there are no more nodes than numbers
pub few_is : {T : Type 0} (xs : List T) → length xs ≤ 256 → (w : Worklist T) → w ≡ worklist xs (replicate (min (length xs) 256) false) → w ≡ worklist xs (replicate (length xs) false)
few_is xs few w is = let least : min (length xs) 256 ≡ length xs = omega arith in is ∙ ap (λ n. worklist xs (replicate n false)) least

module _ {T : Type 0} (xs : List T) (ws : NodeSet) where
  -- none waits
  pub new_is : flags ws ≡ replicate 256 false → worklist_of xs ws ≡ worklist xs (replicate (min (length xs) 256) false)
  new_is still = let flat = still_front (length xs) in cc

  -- node t gets an item and waits
  pub put_is : (t : ℕ) (x : T) (ws' : NodeSet) → t < length xs → flags ws' ≡ set (flags ws) t true
      → worklist_of (set xs t x) ws' ≡ worklist (set xs t x) (set (take (length xs) (flags ws)) t true)
  put_is t x ws' there raised =
      let long = length-set xs t x in
      let front : take (length xs) (set (flags ws) t true) ≡ set (take (length xs) (flags ws)) t true = take-set-lt _ _ _ _ there in
      cc
