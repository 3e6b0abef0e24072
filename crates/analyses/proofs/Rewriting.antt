-- Entries that a loop rewrites in place, from the first on.
use Rattle.std.proofs.Common.{◌≡◌, ℕ, ◌+◌, ◌<◌, ◌≤◌, Bool, not, true, false, ◌&&◌, ◌||◌, List, [], ◌∷◌, ◌++◌, length, get_or, take, drop, set, Some, None, Option, cond, refl, sym, ap, ◌∙◌, arith}
use Rattle.std.specs.Option.{is_some}
use Rattle.std.proofs.lemmas.List.{get_or-drop, get_or_default, drop-set-lt, drop-drop, take_all, take_more_set, same_lists}
use Rattle.analyses.specs.Entries.{entry_at, agreed, lost, any_lost, agreeing, merged}
use Rattle.analyses.specs.EntryLaws.{length_agreeing, entry_agreeing, agreeing_next, any_next, none_lost}
use Rattle.analyses.specs.Copies.{without, cleared}
use Rattle.analyses.specs.CopyLaws.{cleared_next}

module _ {X : Type 0} (xs zs : List X) (i : ℕ) (same : drop i zs ≡ drop i xs) where
  -- what is not yet rewritten is as it was
  pub read_behind : (d : X) → get_or zs i d ≡ get_or xs i d
  read_behind d =
      let at : i + 0 ≡ i = omega arith in
      sym (ap (λ k. get_or zs k d) at) ∙ sym (get_or-drop i zs 0 d) ∙ ap (λ l. get_or l 0 d) same ∙ get_or-drop i xs 0 d ∙ ap (λ k. get_or xs k d) at

  pub behind_next : (w : X) → drop (i + 1) (set zs i w) ≡ drop (i + 1) xs
  behind_next w =
      drop-set-lt (i + 1) zs i w (omega arith)
      ∙ sym (drop-drop 1 i zs) ∙ ap (λ l. drop 1 l) same ∙ drop-drop 1 i xs

-- all of it, once the last is rewritten
pub rewritten : {X : Type 0} (made : ℕ → List X) (zs : List X) (i : ℕ) → length zs ≤ i → i ≡ 8 → take i zs ≡ made i → zs ≡ made 8
rewritten made zs i h e p = sym (take_all i zs h) ∙ p ∙ ap made e

-- an entry as it is read, with any value in the place of one that is not there
module _ {T : Type 0} (eq : T → T → Bool) (xs ys zs : List (Option T)) (i : ℕ) (same : drop i zs ≡ drop i xs) (within : i < length zs) (inside : i < length ys) where
  read_both : (a b w : Option T) → w ≡ agreed eq (get_or zs i a) (get_or ys i b) → w ≡ agreed eq (entry_at xs i) (entry_at ys i)
  read_both a b w e =
      e ∙ ap (λ o. agreed eq o (get_or ys i b)) (get_or_default zs i a None within ∙ read_behind xs zs i same None)
      ∙ ap (agreed eq (entry_at xs i)) (get_or_default ys i b None inside)

  pub made_next : (a b w : Option T) → take i zs ≡ agreeing eq i xs ys → w ≡ agreed eq (get_or zs i a) (get_or ys i b) → take (i + 1) (set zs i w) ≡ agreeing eq (i + 1) xs ys
  made_next a b w made e =
      take_more_set zs i w within ∙ ap (λ l. l ++ (w ∷ [])) made ∙ ap (λ o. agreeing eq i xs ys ++ (o ∷ [])) (read_both a b w e) ∙ sym (agreeing_next eq xs ys i)

  pub known_next : (a b w : Option T) (told some none : Bool) → told ≡ any_lost eq i xs ys → w ≡ agreed eq (get_or zs i a) (get_or ys i b)
      → some ≡ is_some (get_or zs i a) → is_some w ≡ not none → (told || (some && none)) ≡ any_lost eq (i + 1) xs ys
  known_next a b w told some none p e q r =
      ap (λ t. t || (some && none)) p
      ∙ ap (λ t. any_lost eq i xs ys || (t && none)) (q ∙ ap is_some (get_or_default zs i a None within ∙ read_behind xs zs i same None))
      ∙ ap (λ t. any_lost eq i xs ys || (is_some (entry_at xs i) && t)) (twice none ∙ ap not (sym r) ∙ ap (λ o. not (is_some o)) (read_both a b w e))
      ∙ sym (any_next eq xs ys i)
    where
      twice : (b : Bool) → b ≡ not (not b)
      twice true = refl
      twice false = refl

-- where no entry is lost, all of them agree
module _ {T : Type 0} (eq : T → T → Bool) where
  agreed_kept : (a b : Option T) → lost eq a b ≡ false → agreed eq a b ≡ a
  agreed_kept None b e = refl
  agreed_kept (Some x) None e = absurd (let z : ◌≡◌ {A = ℕ} 0 1 = cc in omega arith)
  agreed_kept (Some x) (Some y) e = go (eq x y) e
    where
      go : (b : Bool) → not (is_some (cond b (Some x) None)) ≡ false → cond b (Some x) None ≡ Some x
      go true e = refl
      go false e = absurd (let z : ◌≡◌ {A = ℕ} 0 1 = cc in omega arith)

  pub agreeing_merged : (xs ys : List (Option T)) → length xs ≡ 8 → agreeing eq 8 xs ys ≡ merged eq xs ys
  agreeing_merged xs ys long = go (any_lost eq 8 xs ys) refl
    where
      kept : any_lost eq 8 xs ys ≡ false → (k : ℕ) (d : Option T) → k < length (agreeing eq 8 xs ys) → get_or (agreeing eq 8 xs ys) k d ≡ get_or xs k d
      kept e k d h =
          let below : k < 8 = omega (arith, length_agreeing eq xs ys 8) in
          let inside : k < length xs = omega arith in
          get_or_default (agreeing eq 8 xs ys) k d None h ∙ entry_agreeing eq xs ys 8 k below
          ∙ agreed_kept (entry_at xs k) (entry_at ys k) (none_lost eq xs ys 8 k e below) ∙ get_or_default xs k None d inside

      go : (b : Bool) → any_lost eq 8 xs ys ≡ b → agreeing eq 8 xs ys ≡ cond b (agreeing eq 8 xs ys) xs
      go true e = refl
      go false e = same_lists (agreeing eq 8 xs ys) xs (length_agreeing eq xs ys 8 ∙ sym long) (kept e)

-- without the entries that name register d
pub cleared_more : (d : ℕ) (xs zs : List (Option ℕ)) (i : ℕ) (a w : Option ℕ) → drop i zs ≡ drop i xs → i < length zs → take i zs ≡ cleared i d xs → w ≡ without d (get_or zs i a)
    → take (i + 1) (set zs i w) ≡ cleared (i + 1) d xs
cleared_more d xs zs i a w same within made e =
    take_more_set zs i w within ∙ ap (λ l. l ++ (w ∷ [])) made
    ∙ ap (λ o. cleared i d xs ++ (o ∷ [])) (e ∙ ap (without d) (get_or_default zs i a None within ∙ read_behind xs zs i same None))
    ∙ sym (cleared_next d xs i)
