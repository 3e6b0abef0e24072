-- Decimal numbers: the steps of the loops that read one, and that what is read is what print writes.
use Rattle.std.proofs.Common.{◌≡◌, ℕ, ◌+◌, ◌-◌, ◌*◌, ◌^◌, ◌<◌, ◌≤◌, Bool, true, false, cond, ◌&&◌, eqb, ltb, List, [], ◌∷◌, length, get_or, drop, Some, None, decimal, Option, MatchOption, sym, refl, ap, ◌∙◌, inl, inr, arith, rules}
use Rattle.std.specs.List.{list_all}
use Rattle.std.specs.Option.{ok_or}
use Rattle.std.specs.Char.{is_ascii_digit}
use Rattle.std.specs.Str.{all_ascii_digits}
use Rattle.std.proofs.lemmas.List.{at_drop_more}
use Rattle.std.proofs.lemmas.Str.Parse.{IsNumeralModel, numerals_by_fold}
use Rattle.std.proofs.lemmas.Fmt.{decimal-digits_value, digits_decimal, digits_value-decimal, decimal_nonempty, first_decimal, decimal_digit}
use Rattle.std.proofs.lemmas.Bool.{and_parts, and_from, and_right, and_cases, cases_lt, ne_eqb, lt-ltb, le-ltb, ltb-true, ltb-false, eqb-false}
use Rattle.text.specs.Numbers.{value_after, value_of, is_numeral, leading_zero, number_fault, NumberRead}
use Rattle.text.specs.declared.cause.Cause.TheVariants.{BadNumber}

pub own : IsNumeralModel (λ ds. all_ascii_digits ds ≡ true) value_of
own = numerals_by_fold _ (search rules) value_after (search rules)

pub digits_all : (ds : List ℕ) → list_all is_ascii_digit ds ≡ all_ascii_digits ds
digits_all [] = refl
digits_all (c ∷ cs) = ap (λ b. is_ascii_digit c && b) (digits_all cs)

pub value_more : (n : ℕ) (xs : List ℕ) (i : ℕ) → i < length xs → value_after n (drop i xs) ≡ value_after (n * 10 + (get_or xs i 0 - 48)) (drop (i + 1) xs)
value_more n xs i h = at_drop_more (value_after n) xs i 0 h

pub value_ge : (n : ℕ) (ds : List ℕ) → n ≤ value_after n ds
value_ge n [] = omega arith
value_ge n (c ∷ cs) = let h = value_ge (n * 10 + (c - 48)) cs in omega arith

-- each test passed: no fault
passes : (a b c : Bool) → a ≡ true → b ≡ false → c ≡ false → cond {A = Option ℕ} a (cond b (Some 3) (cond c (Some 3) None)) (Some 2) ≡ None
passes a b c p q r = rw (p, q, r)

-- no fault: each test passed
sound : (a b c : Bool) → cond {A = Option ℕ} a (cond b (Some 3) (cond c (Some 3) None)) (Some 2) ≡ None → (a ≡ true) × (b ≡ false) × (c ≡ false)
sound true true c h = let z : ◌≡◌ {A = ℕ} 0 1 = cc in absurd (omega arith)
sound true false true h = let z : ◌≡◌ {A = ℕ} 0 1 = cc in absurd (omega arith)
sound true false false h = (refl, refl, refl)
sound false b c h = let z : ◌≡◌ {A = ℕ} 0 1 = cc in absurd (omega arith)

pub number_sound : (limit : ℕ) (w : List ℕ) → number_fault limit w ≡ None → (is_numeral w ≡ true) × (leading_zero w ≡ false) × (ltb limit (value_of w) ≡ false)
number_sound limit w h = sound (is_numeral w) (leading_zero w) (ltb limit (value_of w)) h

-- a word with no fault is what print writes of its value
pub read_is_written : (limit : ℕ) (w : List ℕ) → limit < 2 ^ 32 → number_fault limit w ≡ None → (w ≡ decimal (value_of w)) × (value_of w ≤ limit)
read_is_written limit w small h =
    let p = number_sound limit w h in
    let n = and_parts (ltb 0 (length w)) (all_ascii_digits w) p.0 in
    let some : 0 < length w = ltb-true 0 (length w) n.0 in
    let fits : value_of w ≤ limit = ltb-false limit (value_of w) p.2 in
    let first : get_or w 0 0 ≡ 48 → length w ≡ 1 = λ z. elim (and_cases (ltb 1 (length w)) (eqb (get_or w 0 0) 48) p.1) [ inl a ↦ omega (arith, ltb-false 1 (length w) a) | inr b ↦ absurd (eqb-false (get_or w 0 0) 48 b z) ] in
    (sym (decimal-digits_value own w n.1 some first (omega arith)), fits)

-- what the reader of a number answers, past its tests
pub number_read : (limit : ℕ) (w : List ℕ) (o : Option ℕ) → limit < 2 ^ 32 → is_numeral w ≡ true → leading_zero w ≡ false
    → MatchOption o (limit < value_of w) (λ v. (v ≡ value_of w) × (v ≤ limit)) → NumberRead limit w (ok_or o BadNumber)
number_read limit w None small a b h = rw (a, b, lt-ltb limit (value_of w) h)
number_read limit w (Some v) small a b h =
    let f : number_fault limit w ≡ None = passes (is_numeral w) (leading_zero w) (ltb limit (value_of w)) a b (le-ltb limit (value_of w) (omega (arith, h.0, h.1))) in
    (f, (read_is_written limit w small f).0 ∙ ap decimal (sym h.0), h.1)

no_leading : (n : ℕ) → n < 2 ^ 64 → leading_zero (decimal n) ≡ false
no_leading n h = elim (cases_lt n 10) [
  | inl l ↦ rw (decimal_digit n l)
  | inr l ↦ let f : 48 < get_or (decimal n) 0 0 = first_decimal n (omega arith) h in and_right (ltb 1 (length (decimal n))) (eqb (get_or (decimal n) 0 0) 48) (ne_eqb (get_or (decimal n) 0 0) 48 (λ e. omega arith))
]

-- what print writes has no fault
pub written_is_read : (limit n : ℕ) → limit < 2 ^ 32 → n ≤ limit → (number_fault limit (decimal n) ≡ None) × (value_of (decimal n) ≡ n)
written_is_read limit n small h =
    let v : value_of (decimal n) ≡ n = digits_value-decimal own n (omega arith) in
    let d : all_ascii_digits (decimal n) ≡ true = digits_decimal own n (omega arith) in
    let some : 0 < length (decimal n) = decimal_nonempty n (omega arith) in
    let a : is_numeral (decimal n) ≡ true = and_from (ltb 0 (length (decimal n))) (all_ascii_digits (decimal n)) (lt-ltb 0 (length (decimal n)) some) d in
    let b : leading_zero (decimal n) ≡ false = no_leading n (omega arith) in
    let c : ltb limit (value_of (decimal n)) ≡ false = le-ltb limit (value_of (decimal n)) (omega arith) in
    (passes (is_numeral (decimal n)) (leading_zero (decimal n)) (ltb limit (value_of (decimal n))) a b c, v)
