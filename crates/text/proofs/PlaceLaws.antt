-- Parts and their places.
use Rattle.std.proofs.Common.{◌≡◌, ℕ, zero, suc, ◌+◌, ◌-◌, ◌<◌, ◌≤◌, true, false, ◌&&◌, ltb, List, [], ◌∷◌, ◌++◌, length, get_or, take, drop, Some, None, Option, MatchOption, Bor, sym, refl, ap, ◌∙◌, add-one, arith}
use Rattle.std.specs.Prelude.{unwrap_or}
use Rattle.std.specs.List.{join_with_byte}
use Rattle.std.proofs.lemmas.List.{length-drop, length-append, drop-take, take-take, drop-drop, take_at, take_all}
use Rattle.std.proofs.lemmas.Bool.{lt-ltb, le-ltb, and_from, and_right}
use Rattle.text.specs.declared.read.parts.Parts.{Parts}
use Rattle.text.specs.Cuts.{parts, left}
use Rattle.text.specs.RowReads.{Gives}
use Rattle.text.specs.PlaceOf.{part_start, WordAt, line_of, is_word_at, word_of}
use Rattle.text.proofs.TextLaws.{join_parts}

-- the first of what is left
pub record Head (ps : List (List ℕ)) (i : ℕ) (w : List ℕ) (more : List (List ℕ)) : Type 0 where
  pub within : i < length ps
  pub first : w ≡ get_or ps i []
  pub rest : more ≡ drop (i + 1) ps
  pub start : part_start ps (i + 1) ≡ part_start ps i + (length w + 1)

head_suc : (ps : List (List ℕ)) (i : ℕ) (w : List ℕ) (more : List (List ℕ)) → drop i ps ≡ w ∷ more
    → (i < length ps) × (w ≡ get_or ps i []) × (more ≡ drop (suc i) ps) × (part_start ps (suc i) ≡ part_start ps i + (length w + 1))
head_suc [] zero w more h = let z : ◌≡◌ {A = ℕ} 0 1 = cc in absurd (omega arith)
head_suc [] (suc i) w more h = let z : ◌≡◌ {A = ℕ} 0 1 = cc in absurd (omega arith)
head_suc (p ∷ ps) zero w more h =
    let e : p ≡ w = cc in
    let m : more ≡ ps = cc in
    (omega arith, sym e, m, omega (arith, ap length e))
head_suc (p ∷ ps) (suc i) w more h =
    let r = head_suc ps i w more h in
    (omega (arith, r.0), r.1, r.2, omega (arith, r.3))

pub head : (ps : List (List ℕ)) (i : ℕ) (w : List ℕ) (more : List (List ℕ)) → drop i ps ≡ w ∷ more → Head ps i w more
head ps i w more h =
    let r = head_suc ps i w more h in
    record { within = r.0; first = r.1; rest = r.2 ∙ ap (λ k. drop k ps) (sym (add-one i)); start = ap (part_start ps) (add-one i) ∙ r.3 }

pub none_left : (ps : List (List ℕ)) (i : ℕ) → drop i ps ≡ [] → length ps ≤ i
none_left ps i h = omega (arith, length-drop i ps, ap length h)

-- a part of a joined list stands where it should
record Stands (text : List ℕ) (ps : List (List ℕ)) (i : ℕ) : Type 0 where
  pub inside : part_start ps i + length (get_or ps i []) ≤ length text
  pub bytes : take (length (get_or ps i [])) (drop (part_start ps i) text) ≡ get_or ps i []

drop_past : (w : List ℕ) (s k : ℕ) (rest : List ℕ) → drop (length w + 1 + k) (w ++ s ∷ rest) ≡ drop k rest
drop_past [] s k rest = let z : 0 + 1 + k ≡ suc k = omega arith in ap (λ j. drop j (s ∷ rest)) z
drop_past (c ∷ w) s k rest =
    let z : length (c ∷ w) + 1 + k ≡ suc (length w + 1 + k) = omega arith in
    ap (λ j. drop j (c ∷ (w ++ s ∷ rest))) z ∙ drop_past w s k rest

stands_joined : (s : ℕ) (ps : List (List ℕ)) (i : ℕ) → i < length ps → Stands (join_with_byte s ps) ps i
stands_joined s [] i h = absurd (omega arith)
stands_joined s (w ∷ []) zero h = record { inside = omega arith; bytes = take_all (length w) w (omega arith) }
stands_joined s (w ∷ []) (suc i) h = absurd (omega arith)
stands_joined s (w ∷ v ∷ ps) zero h = record {
  inside = omega (arith, length-append w (s ∷ join_with_byte s (v ∷ ps)));
  bytes = take_at w (s ∷ join_with_byte s (v ∷ ps)) (length w) refl;
}
stands_joined s (w ∷ v ∷ ps) (suc i) h =
    let rest = join_with_byte s (v ∷ ps) in
    let m = stands_joined s (v ∷ ps) i (omega arith) in
    record {
      inside = omega (arith, length-append w (s ∷ rest), m.inside);
      bytes = ap (take (length (get_or (v ∷ ps) i []))) (drop_past w s (part_start (v ∷ ps) i) rest) ∙ m.bytes;
    }

stands : (s : ℕ) (text : List ℕ) (i : ℕ) → i < length (parts s text) → Stands text (parts s text) i
stands s text i h = rw (join_parts s text) at (stands_joined s (parts s text) i h)

-- a part of a part
inner : (m s k : ℕ) (xs : List ℕ) → s + m ≤ k → take m (drop s (take k xs)) ≡ take m (drop s xs)
inner m s k xs h =
    let e : s + (k - s) ≡ k = omega arith in
    ap (λ j. take m (drop s (take j xs))) (sym e) ∙ ap (take m) (drop-take s (k - s) xs) ∙ take-take m (k - s) (drop s xs) (omega arith)

-- there is such a word, part by part
pub record IsWord (text : List ℕ) (line word : ℕ) : Type 0 where
  pub some_line : 0 < line
  pub some_word : 0 < word
  pub within_lines : line - 1 < length (parts 10 text)
  pub within_words : word - 1 < length (parts 32 (line_of text line))

word_true : (text : List ℕ) (line word : ℕ) → IsWord text line word → is_word_at text line word ≡ true
word_true text line word h =
    and_from (ltb 0 line && ltb 0 word) _ (and_from (ltb 0 line) (ltb 0 word) (lt-ltb 0 line h.some_line) (lt-ltb 0 word h.some_word))
    (and_from (ltb (line - 1) (length (parts 10 text))) _ (lt-ltb _ _ h.within_lines) (lt-ltb _ _ h.within_words))

pub word_at : (text : List ℕ) (line word : ℕ) → IsWord text line word → WordAt text line word (word_of text line word)
word_at text line word h =
    let l = line_of text line in
    let w = word_of text line word in
    let a = part_start (parts 10 text) (line - 1) in
    let b = part_start (parts 32 l) (word - 1) in
    let p = stands 10 text (line - 1) h.within_lines in
    let q = stands 32 l (word - 1) h.within_words in
    let is : take (length w) (drop (a + b) text) ≡ w =
    ap (take (length w)) (sym (drop-drop b a text)) ∙ sym (inner (length w) b (length l) (drop a text) q.inside)
    ∙ ap (λ v. take (length w) (drop b v)) p.bytes ∙ q.bytes in
    record { placed = rw (word_true text line word h) (sym is); is_word = λ _. refl }

-- the part of the line that was found, or an empty part
pub word_or : (text : List ℕ) (line word : ℕ) (l : List ℕ) (found : Option (Bor (List ℕ))) (none : Bor (List ℕ)) → 0 < line → 0 < word
    → line - 1 < length (parts 10 text) → l ≡ line_of text line
    → MatchOption found (length (parts 32 l) ≤ word - 1) (λ w. (word - 1 < length (parts 32 l)) × (w.now ≡ get_or (parts 32 l) (word - 1) []))
    → none.now ≡ [] → WordAt text line word (unwrap_or found none).now
word_or text line word l None none nl nw hl e past empty =
    let p : length (parts 32 (line_of text line)) ≤ word - 1 = rw (← e) past in
    let f : is_word_at text line word ≡ false = and_right (ltb 0 line && ltb 0 word) _ (and_right (ltb (line - 1) (length (parts 10 text))) _ (le-ltb (word - 1) (length (parts 32 (line_of text line))) p)) in
    record { placed = rw (f, empty); is_word = λ t. let z : ◌≡◌ {A = ℕ} 0 1 = cc in absurd (omega arith) }
word_or text line word l (Some w) none nl nw hl e is empty =
    let q : (word - 1 < length (parts 32 (line_of text line))) × (w.now ≡ word_of text line word) = rw e at is in
    rw q.1 (word_at text line word (record { some_line = nl; some_word = nw; within_lines = hl; within_words = q.0 }))

-- the next part, or none
pub next_part : (ps : List (List ℕ)) (i n : ℕ) (s t : Parts) (found : Option (Bor (List ℕ))) → i ≡ n → left s ≡ drop i ps
    → MatchOption found ((left s ≡ []) × (left t ≡ []) × (t.number ≡ s.number)) (λ w. Gives s w.now t)
    → MatchOption found (length ps ≤ n) (λ w. (n < length ps) × (w.now ≡ get_or ps n []))
next_part ps i n s t None same e h = rw (← same) (none_left ps i (sym e ∙ h.0))
next_part ps i n s t (Some w) same e h = let r = head ps i w.now (left t) (sym e ∙ h.taken) in rw (← same) (r.within, r.first)
