-- The bits of words: one that is set, the lowest, and one that is cleared.
use Rattle.std.proofs.Common.{◌≡◌, ℕ, zero, suc, ◌+◌, ◌-◌, ◌*◌, ◌/◌, ◌%◌, ◌^◌, ◌<◌, min, max, Bool, true, false, eqb, List, [], ◌∷◌, ◌++◌, length, get_or, drop, set, Some, sym, refl, ap, ◌∙◌, ap₂, pow-suc, arith}
use lib.Bits.{bit_and, bit_or, and_step, or_step, or_zero_r, and_self}
use lib.Count.{count_trailing_zeros, under}
use Rattle.std.proofs.lemmas.List.{set-append_left, set-append_right, at_drop_more}
use Rattle.settling.specs.NodeSets.{bits, bits_of, lowest_from}

pub length_bits : (n word : ℕ) → length (bits n word) ≡ n
length_bits zero word = refl
length_bits (suc n) word = ap suc (length_bits n (word / 2))

-- a word is its upper bits and its lowest
bits_split : (n word a d : ℕ) → word ≡ a * 2 + d → d < 2 → bits (suc n) word ≡ eqb d 1 ∷ bits n a
bits_split n word a d e h =
    let low : word % 2 ≡ d = omega arith in
    let high : word / 2 ≡ a = omega arith in
    ap₂ (λ (x y : ℕ). eqb x 1 ∷ bits n y) low high

pub or_sets : (n i word : ℕ) → i < n → bits n (bit_or word (2 ^ i)) ≡ set (bits n word) i true
or_sets zero i word h = absurd (omega arith)
or_sets (suc n) zero word h =
    bits_split n (bit_or word 1) (word / 2) 1
    (or_step word 1 ∙ ap₂ (λ (x y : ℕ). x * 2 + y) (or_zero_r (word / 2)) (omega arith)) (omega arith)
or_sets (suc n) (suc i) word h =
    let half : 2 ^ suc i / 2 ≡ 2 ^ i = omega (arith, pow-suc 2 i) in
    let even : max (word % 2) (2 ^ suc i % 2) ≡ word % 2 = omega (arith, pow-suc 2 i) in
    bits_split n (bit_or word (2 ^ suc i)) (bit_or (word / 2) (2 ^ i)) (word % 2)
    (or_step word (2 ^ suc i) ∙ ap₂ (λ (x y : ℕ). bit_or (word / 2) x * 2 + y) half even) (omega arith)
    ∙ ap (λ (l : List Bool). eqb (word % 2) 1 ∷ l) (or_sets n i (word / 2) (omega arith))

clears_digit : (n word a d : ℕ) → word ≡ a * 2 + d → d < 2 →
    bits n (bit_and a (a - 1)) ≡ set (bits n a) (count_trailing_zeros n a) false →
    bits (suc n) (bit_and word (word - 1)) ≡ set (eqb d 1 ∷ bits n a) (under d (count_trailing_zeros n a)) false
clears_digit n word a zero e h rest =
    let half : word / 2 ≡ a = omega arith in
    let less : (word - 1) / 2 ≡ a - 1 = omega arith in
    let low : min (word % 2) ((word - 1) % 2) ≡ 0 = omega arith in
    bits_split n (bit_and word (word - 1)) (bit_and a (a - 1)) 0 (and_step word (word - 1) ∙ cc) h ∙ ap (λ (l : List Bool). false ∷ l) rest
clears_digit n word a (suc zero) e h rest =
    let half : word / 2 ≡ a = omega arith in
    let less : (word - 1) / 2 ≡ a = omega arith in
    let low : min (word % 2) ((word - 1) % 2) ≡ 0 = omega arith in
    bits_split n (bit_and word (word - 1)) a 0 (and_step word (word - 1) ∙ cc (and_self a)) (omega arith)
clears_digit n word a (suc (suc d)) e h rest = absurd (omega arith)

-- w & (w - 1) is w without its lowest bit
pub and_clears : (n word : ℕ) → bits n (bit_and word (word - 1)) ≡ set (bits n word) (count_trailing_zeros n word) false
unfolding count_trailing_zeros
and_clears zero word = refl
and_clears (suc n) word = clears_digit n word (word / 2) (word % 2) (omega arith) (omega arith) (and_clears n (word / 2))

below_digit : (n a d t : ℕ) → d < 2 → (0 < a → t < n) → 0 < a + d → under d t < suc n
below_digit n a zero t h rest some = omega (arith, rest (omega arith))
below_digit n a (suc zero) t h rest some = omega arith
below_digit n a (suc (suc d)) t h rest some = absurd (omega arith)

pub trailing_below : (n word : ℕ) → 0 < word → word < 2 ^ n → count_trailing_zeros n word < n
unfolding count_trailing_zeros
trailing_below zero word some h = absurd (omega arith)
trailing_below (suc n) word some h =
    below_digit n (word / 2) (word % 2) (count_trailing_zeros n (word / 2)) (omega arith)
    (λ more. trailing_below n (word / 2) more (omega (arith, pow-suc 2 n))) (omega arith)

found_digit : (n k a d : ℕ) (fs : List Bool) → d < 2 →
    (0 < a → lowest_from (k + 1) (bits n a ++ fs) ≡ Some (k + 1 + count_trailing_zeros n a)) → 0 < a + d →
    lowest_from k (eqb d 1 ∷ bits n a ++ fs) ≡ Some (k + under d (count_trailing_zeros n a))
found_digit n k a zero fs h rest some = rest (omega arith) ∙ ap (λ (x : ℕ). Some x) (omega arith)
found_digit n k a (suc zero) fs h rest some = ap (λ (x : ℕ). Some x) (omega arith)
found_digit n k a (suc (suc d)) fs h rest some = absurd (omega arith)

-- the lowest bit of a word that is not 0
found_in : (n k word : ℕ) (fs : List Bool) → 0 < word → word < 2 ^ n → lowest_from k (bits n word ++ fs) ≡ Some (k + count_trailing_zeros n word)
unfolding count_trailing_zeros
found_in zero k word fs some h = absurd (omega arith)
found_in (suc n) k word fs some h =
    found_digit n k (word / 2) (word % 2) fs (omega arith)
    (λ more. found_in n (k + 1) (word / 2) fs more (omega (arith, pow-suc 2 n))) (omega arith)

none_in : (n k : ℕ) (fs : List Bool) → lowest_from k (bits n 0 ++ fs) ≡ lowest_from (k + n) fs
none_in zero k fs = ap (λ (x : ℕ). lowest_from x fs) (omega arith)
none_in (suc n) k fs = none_in n (k + 1) fs ∙ ap (λ (x : ℕ). lowest_from x fs) (omega arith)

-- a loop over the words: at one that is not 0, and past one that is
pub found_at : (words : List ℕ) (i : ℕ) → i < length words → 0 < get_or words i 0 → get_or words i 0 < 2 ^ 64 →
    lowest_from (64 * i) (bits_of (drop i words)) ≡ Some (64 * i + count_trailing_zeros 64 (get_or words i 0))
found_at words i within some h =
    at_drop_more (λ l. lowest_from (64 * i) (bits_of l)) words i 0 within ∙ found_in 64 (64 * i) (get_or words i 0) (bits_of (drop (i + 1) words)) some h

pub none_at : (words : List ℕ) (i : ℕ) → i < length words → get_or words i 0 ≡ 0 →
    lowest_from (64 * (i + 1)) (bits_of (drop (i + 1) words)) ≡ lowest_from (64 * i) (bits_of (drop i words))
none_at words i within none =
    let rest = bits_of (drop (i + 1) words) in
    ap (λ (x : ℕ). lowest_from x rest) (omega arith) ∙ sym (none_in 64 (64 * i) rest)
    ∙ ap (λ (x : ℕ). lowest_from (64 * i) (bits 64 x ++ rest)) (sym none)
    ∙ sym (at_drop_more (λ l. lowest_from (64 * i) (bits_of l)) words i 0 within)

-- a word whose bit t changes
pub set_word : (words : List ℕ) (i t word : ℕ) (b : Bool) → i < length words → t < 64 → bits 64 word ≡ set (bits 64 (get_or words i 0)) t b →
    bits_of (set words i word) ≡ set (bits_of words) (64 * i + t) b
set_word [] i t word b within h e = refl
set_word (w ∷ ws) zero t word b within h e =
    ap (λ (l : List Bool). l ++ bits_of ws) e ∙ sym (set-append_left (bits 64 w) (bits_of ws) t b (omega (arith, length_bits 64 w)))
    ∙ ap (λ (x : ℕ). set (bits_of (w ∷ ws)) x b) (omega arith)
set_word (w ∷ ws) (suc i) t word b within h e =
    ap (λ (l : List Bool). bits 64 w ++ l) (set_word ws i t word b (omega arith) h e)
    ∙ ap (λ (x : ℕ). bits 64 w ++ set (bits_of ws) x b) (omega arith)
    ∙ sym (set-append_right (bits 64 w) (bits_of ws) 64 (64 * suc i + t) b (length_bits 64 w) (omega arith))
