-- Single words: labels, kinds, and words that are written out.
use Rattle.std.proofs.Common.{◌≡◌, ℕ, ◌+◌, ◌-◌, ◌<◌, ◌≤◌, false, cond, eqb, List, [], ◌∷◌, ◌++◌, length, get_or, take, Some, None, Ok, decimal, Option, sym, refl, ap, ◌∙◌, inl, inr, arith}
use Rattle.std.specs.Str.{bytes_eq}
use Rattle.std.specs.Option.{option_map, ok_or}
use Rattle.std.proofs.lemmas.Slice.Eq.{bytes_eq-Decides}
use Rattle.std.proofs.lemmas.Bool.{cases_Bool, eqb-true, eq-eqb, ne_eqb}
use Rattle.std.proofs.lemmas.List.{take_more, take_all}
use Rattle.text.specs.declared.cause.Cause.TheVariants.{IllFormed}
use Rattle.text.specs.declared.kind.Kind.{Kind}
use Rattle.text.specs.Numbers.{number_fault, value_of, NumberRead}
use Rattle.text.specs.declared.kind.Kind.TheVariants.{Binary}
use Rattle.machine.specs.declared.node.BinaryOp.{BinaryOp}
use Rattle.text.specs.Kinds.{binary_name, kind_name}
use Rattle.text.specs.WordReads.{WordRead}
use Rattle.text.specs.Words.{BinaryRead, KindRead, before_colon}
use Rattle.text.specs.Rows.{seek, kinds, kind_named, label_fault, first, name}
use Rattle.text.proofs.KindLaws.{kind_known}
use Rattle.text.specs.Print.{label_word}
use Rattle.text.proofs.Decimal.{written_is_read}

pub same_false : (v w : List ℕ) → (v ≡ w → ⊥) → bytes_eq v w ≡ false
same_false v w n = elim (cases_Bool (bytes_eq v w)) [ inl t ↦ absurd (n ((bytes_eq-Decides v w).0 t)) | inr f ↦ f ]

seek_none : (w : List ℕ) (ks : List Kind) → ((k : Kind) → w ≡ kind_name k → ⊥) → seek w ks ≡ None
seek_none w [] n = refl
seek_none w (k ∷ ks) n = rw (same_false w (kind_name k) (n k)) (seek_none w ks n)

pub named_none : (w : List ℕ) → ((k : Kind) → w ≡ kind_name k → ⊥) → kind_named w ≡ None
named_none w n = seek_none w kinds n

-- the kind that was found of a word, or none
pub name_read : (w : List ℕ) (o : Option Kind) → KindRead w o → WordRead name kind_name (λ k. kind_named (kind_name k) ≡ Some k) w (ok_or o IllFormed)
name_read w None h = rw (named_none w h)
name_read w (Some k) h = (h, rw (h, kind_known k), kind_known k)

-- a binary operation was found of a word that names no other kind, or none
pub kind_mapped : (w : List ℕ) (o : Option BinaryOp) → BinaryRead w o
    → (((op : BinaryOp) → w ≡ binary_name op → ⊥) → (k : Kind) → w ≡ kind_name k → ⊥) → KindRead w (option_map Binary o)
kind_mapped w None h n = n h
kind_mapped w (Some op) h n = h

ends_in : (w : List ℕ) (b : ℕ) → 0 < length w → get_or w (length w - 1) 0 ≡ b → w ≡ take (length w - 1) w ++ b ∷ []
ends_in w b some e =
    let m : length w - 1 + 1 ≡ length w = omega arith in
    let all : take (length w - 1 + 1) w ≡ w = take_all (length w - 1 + 1) w (omega arith) in
    let more : take (length w - 1 + 1) w ≡ take (length w - 1) w ++ get_or w (length w - 1) 0 ∷ [] = take_more w (length w - 1) 0 (omega arith) in
    sym all ∙ more ∙ ap (λ (x : ℕ). take (length w - 1) w ++ x ∷ []) e

colon_some : (w : List ℕ) → get_or w (length w - 1) 0 ≡ 58 → 0 < length w
colon_some [] e = absurd (omega arith)
colon_some (c ∷ cs) e = omega arith

-- what is wrong with a label of the number n
abbrev past : ℕ → ℕ → Option ℕ
past next n = cond (eqb n next) (cond (eqb next 200) (Some 5) None) (Some 4)

label_fault_lem : (next n : ℕ) (ds : List ℕ) → number_fault 255 ds ≡ None → ds ≡ decimal n → n ≤ 255
    → first (number_fault 255 ds) (past next (value_of ds)) ≡ past next n
label_fault_lem next n ds f e b =
    let v : value_of ds ≡ n = ap value_of e ∙ (written_is_read 255 n (omega arith) b).1 in
    ap (λ o. first o (past next (value_of ds))) f ∙ ap (past next) v

-- the number n was read from the digits before a label's colon
pub record FromLabel (w ds : List ℕ) (n : ℕ) : Type 0 where
  pub before : before_colon w ≡ Some ds
  pub number : NumberRead 255 ds (Ok n)

label_read : (w ds : List ℕ) (n : ℕ) → FromLabel w ds n → (w ≡ label_word n) × ((next : ℕ) → label_fault next w ≡ past next n)
label_read w ds n h = elim (cases_Bool (eqb (get_or w (length w - 1) 0) 58)) [
  | inl t ↦
      let e = eqb-true (get_or w (length w - 1) 0) 58 t in
      let d : take (length w - 1) w ≡ ds = let s = rw t at h.before in cc in
      rw t (ends_in w 58 (colon_some w e) e ∙ ap (λ (v : List ℕ). v ++ 58 ∷ []) (d ∙ h.number.1), λ next. rw d (label_fault_lem next n ds h.number.0 h.number.1 h.number.2))
  | inr f ↦ let s = rw f at h.before in let z : ◌≡◌ {A = ℕ} 0 1 = cc in absurd (omega arith)
]

pub label_other : (w ds : List ℕ) (n next : ℕ) → FromLabel w ds n → (n ≡ next → ⊥) → label_fault next w ≡ Some 4
label_other w ds n next h ne = (label_read w ds n h).1 next ∙ rw (ne_eqb n next ne)

pub label_full : (w ds : List ℕ) (n next : ℕ) → FromLabel w ds n → n ≡ next → next ≡ 200 → label_fault next w ≡ Some 5
label_full w ds n next h e f = (label_read w ds n h).1 next ∙ rw (eq-eqb n next e, eq-eqb next 200 f)

pub label_good : (w ds : List ℕ) (n next : ℕ) → FromLabel w ds n → n ≡ next → (next ≡ 200 → ⊥) → (w ≡ label_word next) × (label_fault next w ≡ None)
label_good w ds n next h e f = ((label_read w ds n h).0 ∙ ap label_word e, (label_read w ds n h).1 next ∙ rw (eq-eqb n next e, ne_eqb next 200 f))
