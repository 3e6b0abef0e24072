-- The lines of a text, once those of the nodes are read.
use Rattle.std.proofs.Common.{◌≡◌, ℕ, ◌+◌, ◌<◌, ◌≤◌, Bool, true, false, cond, ◌&&◌, eqb, ltb, List, [], ◌∷◌, ◌++◌, length, get_or, take, Option, MatchOption, Bor, Some, None, Ok, Result, sym, refl, ap, ◌∙◌, inl, inr, arith}
use Rattle.std.specs.Option.{option_copied}
use Rattle.std.specs.List.{join_with_byte}
use Rattle.std.proofs.lemmas.List.{nil_from_length}
use Rattle.std.proofs.lemmas.Bool.{and_parts, and_from, and_left, and_right, cases_Bool, eqb-true, eq-eqb, ne_eqb, lt-ltb, le-ltb}
use Rattle.machine.specs.declared.node.Entry.{Entry}
use Rattle.text.specs.declared.read.parts.Parts.{Parts}
use Rattle.text.specs.Cuts.{parts, grown, rest_parts, left}
use Rattle.text.specs.declared.refusal.LineRefusal.{LineRefusal}
use Rattle.text.specs.Limits.{node_number_limit}
use Rattle.text.specs.Numbers.{value_of}
use Rattle.text.specs.Print.{trailer_words}
use Rattle.text.specs.Rows.{word_fault, row_fault}
use Rattle.text.specs.LineReads.{node_texts, NodesOk, TrailerRead, LinesOk}
use Rattle.text.specs.Texts.{words, is_trailer, on_line, lines_fault, trailer_dues, trailer_fault, nothing_left}
use Rattle.text.proofs.Decimal.{written_is_read}
use Rattle.text.proofs.TextLaws.{parts_some, join_parts}

grown_long : (c : ℕ) (ws : List (List ℕ)) → 0 < length ws → eqb (length (get_or (grown c ws) 0 [])) 0 ≡ false
grown_long c [] h = absurd (omega arith)
grown_long c (w ∷ ws) h = ne_eqb (length (c ∷ w)) 0 (λ e. omega arith)

-- a text that is not empty has more than an empty part
parts_not : (s c : ℕ) (cs : List ℕ) → nothing_left (parts s (c ∷ cs)) ≡ false
parts_not s c cs =
    let h = parts_some s cs in
    elim (cases_Bool (eqb c s)) [
      | inl t ↦ rw t (ap (λ (b : Bool). b && true) (ne_eqb (length ([] ∷ parts s cs)) 1 (λ e. omega arith)))
      | inr f ↦ rw f (and_right (eqb (length (grown c (parts s cs))) 1) (eqb (length (get_or (grown c (parts s cs)) 0 [])) 0) (grown_long c (parts s cs) h))
    ]

empty_ends : (s : ℕ) (text : List ℕ) → eqb (length text) 0 ≡ nothing_left (parts s text)
empty_ends s [] = refl
empty_ends s (c ∷ cs) = ne_eqb (length (c ∷ cs)) 0 (λ e. omega arith) ∙ sym (parts_not s c cs)

pub at_end : (s : ℕ) (rest : Option (Bor (List ℕ))) (b : Bool) → MatchOption rest (b ≡ false) (λ t. b ≡ eqb (length t.now) 0) → b ≡ nothing_left (rest_parts s (option_copied rest))
at_end s None b h = h
at_end s (Some t) b h = h ∙ empty_ends s t.now

pub nothing_left_lem : (ls : List (List ℕ)) → nothing_left ls ≡ true → ls ≡ [] ∷ []
nothing_left_lem [] h = let z : ◌≡◌ {A = ℕ} 0 1 = cc in absurd (omega arith)
nothing_left_lem (l ∷ ls) h =
    let p = and_parts (eqb (length (l ∷ ls)) 1) (eqb (length l) 0) h in
    let a : ls ≡ [] = nil_from_length ls (omega (arith, eqb-true (length (l ∷ ls)) 1 p.0)) in
    let b : l ≡ [] = nil_from_length l (eqb-true (length l) 0 p.1) in
    cc

-- the trailer's line, with what is left below it
pub trailer_line : (n : ℕ) (l : List ℕ) (rest : List (List ℕ)) → 0 < length rest → is_trailer l ≡ true
    → lines_fault n (l ∷ rest) ≡ on_line (n + 1) (row_fault word_fault trailer_dues 1 (words l)) (trailer_fault n l rest)
trailer_line n l [] h t = absurd (omega arith)
trailer_line n l (m ∷ ls) h t = rw t

module _ (ls : List (List ℕ)) (s t : Parts) (es : List Entry) (n : ℕ) (l : List ℕ) (r : Result (ℕ × ℕ) LineRefusal)
    (all : left s ≡ ls) (ok : NodesOk s es n l t) (read : TrailerRead (words l) r) where
  here : lines_fault 0 ls ≡ on_line (n + 1) (row_fault word_fault trailer_dues 1 (words l)) (trailer_fault n l (left t))
  here = ap (lines_fault 0) (sym all) ∙ ok.goes_on ∙ trailer_line n l (left t) ok.ended ok.ends

  module _ (told first : ℕ) (is : r ≡ Ok (told, first)) where
    tells : (words l ≡ trailer_words told first) × (row_fault word_fault trailer_dues 1 (words l) ≡ None) × (told ≤ node_number_limit) × (first ≤ node_number_limit)
    tells = rw is at read

    past : lines_fault 0 ls ≡ trailer_fault n l (left t)
    past = here ∙ ap (λ o. on_line (n + 1) o (trailer_fault n l (left t))) tells.1

    value_told : value_of (get_or (words l) 1 []) ≡ told
    value_told = ap (λ (v : List (List ℕ)). value_of (get_or v 1 [])) tells.0 ∙ (written_is_read node_number_limit told (omega arith) tells.2).1

    module _ (ends : nothing_left (left t) ≡ true) where
      count_checked : lines_fault 0 ls ≡ cond (ltb 0 n && eqb (value_of (get_or (words l) 1 [])) n) None (Some (6, n + 1, 2))
      count_checked = past ∙ rw ends

      wrong : (ltb 0 n && eqb (value_of (get_or (words l) 1 [])) n) ≡ false → lines_fault 0 ls ≡ Some (6, t.number, 2)
      wrong h = count_checked ∙ rw h (ap (λ k. Some (6, k, 2)) (sym ok.number))

      pub no_nodes : n ≡ 0 → lines_fault 0 ls ≡ Some (6, t.number, 2)
      no_nodes z = wrong (and_left (ltb 0 n) (eqb (value_of (get_or (words l) 1 [])) n) (le-ltb 0 n (omega arith)))

      pub other_count : (told ≡ n → ⊥) → lines_fault 0 ls ≡ Some (6, t.number, 2)
      other_count ne =
          wrong (and_right (ltb 0 n) (eqb (value_of (get_or (words l) 1 [])) n) (ne_eqb (value_of (get_or (words l) 1 [])) n (λ e. ne (sym value_told ∙ e))))

      pub lines_good : (n ≡ 0 → ⊥) → told ≡ n → LinesOk ls es n first
      lines_good some same =
          let line : l ≡ join_with_byte 32 (trailer_words n first) = sym (join_parts 32 l) ∙ ap (join_with_byte 32) tells.0 ∙ ap (λ k. join_with_byte 32 (trailer_words k first)) same in
          let rest = nothing_left_lem (left t) ends in
          record {
            spelled = sym all ∙ ok.spelled ∙ ap (λ (v : List ℕ). node_texts 0 (take n es) ++ v ∷ left t) line ∙ ap (λ (v : List (List ℕ)). node_texts 0 (take n es) ++ join_with_byte 32 (trailer_words n first) ∷ v) rest;
            passes = count_checked ∙ rw (and_from (ltb 0 n) (eqb (value_of (get_or (words l) 1 [])) n) (lt-ltb 0 n (omega arith)) (eq-eqb (value_of (get_or (words l) 1 [])) n (value_told ∙ same)));
            fit = ok.fit;
            small = ok.small;
            some = omega arith;
            first_small = tells.3;
          }
