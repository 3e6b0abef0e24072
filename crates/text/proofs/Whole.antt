-- A printed text, line by line.
use Rattle.std.proofs.Common.{◌≡◌, ℕ, ◌+◌, ◌<◌, ◌≤◌, false, cond, eqb, ltb, List, [], ◌∷◌, ◌++◌, length, get_or, Some, None, codes, decimal, Option, sym, refl, ap, ◌∙◌, append_assoc, append-nil, arith, rules}
use Rattle.std.specs.List.{join_with_byte}
use Rattle.std.specs.Str.{bytes_eq}
use Rattle.std.proofs.lemmas.List.{length-append, get_or_push}
use Rattle.std.proofs.lemmas.Bool.{and_from, eq-eqb, ne_eqb, lt-ltb}
use Rattle.machine.specs.Every.{Every, every_append, every_weaker}
use Rattle.machine.specs.declared.node.Entry.{Entry}
use Rattle.text.specs.Cuts.{parts}
use Rattle.text.specs.Entries.{EntryFits}
use Rattle.text.specs.Numbers.{value_of}
use Rattle.text.specs.Print.{entry_words, line, node_lines, trailer_words, printed, label_word}
use Rattle.text.specs.Rows.{word_fault, row_fault, node_fault}
use Rattle.machine.specs.Programs.{Prog}
use Rattle.text.specs.LineReads.{node_texts}
use Rattle.text.specs.Texts.{Place, words, is_trailer, on_line, lines_fault, trailer_dues, trailer_fault}
use Rattle.text.proofs.Decimal.{written_is_read}
use Rattle.text.proofs.RoundTrip.{Lacks, Solid, solid_lacks, decimal_solid, parts_join, parts_front, entry_solid, entry_no_fault, good_none, number_good}
use Rattle.text.proofs.LineEnds.{trailer_line}
use Rattle.text.proofs.TextLaws.{node_goes_on}
use Rattle.text.proofs.WordLaws.{same_false}

-- a line of solid words has no line feed
joined_lacks : (s : ℕ) (ws : List (List ℕ)) → s < 32 → Every Solid ws → Lacks s (join_with_byte 32 ws)
joined_lacks s [] h a = tt
joined_lacks s (x ∷ []) h a = solid_lacks s x (omega arith) a.0
joined_lacks s (x ∷ y ∷ ws) h a =
    let sp : eqb 32 s ≡ false = ne_eqb 32 s (λ e. omega arith) in
    every_append (λ b. eqb b s ≡ false) x (32 ∷ join_with_byte 32 (y ∷ ws)) (solid_lacks s x (omega arith) a.0) (sp, joined_lacks s (y ∷ ws) h a.1)

pub line_parts : (ws : List (List ℕ)) (rest : List ℕ) → Every Solid ws → parts 10 (line ws ++ rest) ≡ join_with_byte 32 ws ∷ parts 10 rest
line_parts ws rest a =
    ap (parts 10) (append_assoc (join_with_byte 32 ws) (10 ∷ []) rest) ∙ parts_front 10 (join_with_byte 32 ws) rest (joined_lacks 10 ws (omega arith) a)

-- a label is not `end`: it ends in a colon
label_no_end : (n : ℕ) → label_word n ≡ codes "end" → ⊥
label_no_end n e =
    let l : length (label_word n) ≡ 3 = ap length e in
    let m : length (decimal n) ≡ 2 = omega (arith, length-append (decimal n) (58 ∷ [])) in
    let c : get_or (label_word n) (length (decimal n)) 0 ≡ 58 = get_or_push (decimal n) 58 0 (length (decimal n)) refl in
    let d : get_or (codes "end") 2 0 ≡ 58 = ap (λ k. get_or (codes "end") k 0) (sym m) ∙ ap (λ w. get_or w (length (decimal n)) 0) (sym e) ∙ c in
    omega arith

pub entry_cut : (n : ℕ) (e : Entry) → n < 200 → EntryFits e → words (join_with_byte 32 (entry_words n e)) ≡ entry_words n e
entry_cut n e l h = parts_join 32 (entry_words n e) (omega arith) (every_weaker Solid (Lacks 32) (λ w. solid_lacks 32 w (omega arith)) (entry_words n e) (entry_solid n e l h))

pub entry_no_trailer : (n : ℕ) (e : Entry) → n < 200 → EntryFits e → is_trailer (join_with_byte 32 (entry_words n e)) ≡ false
entry_no_trailer n e l h = rw (entry_cut n e l h) (same_false (label_word n) (codes "end") (label_no_end n))

-- the trailer
pub trailer_solid : (count first : ℕ) → count ≤ 255 → first ≤ 255 → Every Solid (trailer_words count first)
trailer_solid count first a b = (search rules, (decimal_solid count (omega arith), (search rules, (decimal_solid first (omega arith), tt))))

pub trailer_cut : (count first : ℕ) → count ≤ 255 → first ≤ 255 → words (join_with_byte 32 (trailer_words count first)) ≡ trailer_words count first
trailer_cut count first a b = parts_join 32 (trailer_words count first) (omega arith) (every_weaker Solid (Lacks 32) (λ w. solid_lacks 32 w (omega arith)) (trailer_words count first) (trailer_solid count first a b))

trailer_row : (count first : ℕ) → count ≤ 255 → first ≤ 255 → row_fault word_fault trailer_dues 1 (trailer_words count first) ≡ None
trailer_row count first a b =
    good_none trailer_dues 1 (trailer_words count first) (refl, (number_good 255 count (omega arith) a, (refl, (number_good 255 first (omega arith) b, tt))))

trailer_passes : (count first : ℕ) → 0 < count → count ≤ 255 → first ≤ 255 → lines_fault count (join_with_byte 32 (trailer_words count first) ∷ [] ∷ []) ≡ None
trailer_passes count first some a b =
    let l = join_with_byte 32 (trailer_words count first) in
    let cut : words l ≡ trailer_words count first = trailer_cut count first a b in
    let told : value_of (get_or (words l) 1 []) ≡ count = ap (λ (ws : List (List ℕ)). value_of (get_or ws 1 [])) cut ∙ (written_is_read 255 count (omega arith) a).1 in
    trailer_line count l ([] ∷ []) (omega arith) (ap (λ (ws : List (List ℕ)). bytes_eq (get_or ws 0 []) (codes "end")) cut)
    ∙ ap (λ o. on_line (count + 1) o (trailer_fault count l ([] ∷ []))) (ap (row_fault word_fault trailer_dues 1) cut ∙ trailer_row count first a b)
    ∙ (ap (λ b. cond {A = Option Place} b None (Some (6, count + 1, 2))) (and_from (ltb 0 count) (eqb (value_of (get_or (words l) 1 [])) count) (lt-ltb 0 count some) (eq-eqb (value_of (get_or (words l) 1 [])) count told)))

trailer_tail : (n first : ℕ) → n ≤ 200 → first ≤ 255 → parts 10 (line (trailer_words n first)) ≡ join_with_byte 32 (trailer_words n first) ∷ [] ∷ []
trailer_tail n first few f =
    let tail = line (trailer_words n first) in
    ap (parts 10) (sym (append-nil tail)) ∙ line_parts (trailer_words n first) [] (trailer_solid n first (omega arith) f)

-- the lines of the nodes, and then other lines
nodes_parts : (n : ℕ) (es : List Entry) (tail : List ℕ) → n + length es ≤ 200 → Every EntryFits es → parts 10 (node_lines n es ++ tail) ≡ node_texts n es ++ parts 10 tail
nodes_parts n [] tail few a = refl
nodes_parts n (x ∷ es) tail few a =
    ap (parts 10) (append_assoc (line (entry_words n x)) (node_lines (n + 1) es) tail)
    ∙ line_parts (entry_words n x) (node_lines (n + 1) es ++ tail) (entry_solid n x (omega arith) a.0)
    ∙ ap (λ (ls : List (List ℕ)). join_with_byte 32 (entry_words n x) ∷ ls) (nodes_parts (n + 1) es tail (omega arith) a.1)

-- what is printed is cut into the lines that it was made of
pub printed_parts : (p : Prog) → length p.entries ≤ 200 → p.first ≤ 255 → Every EntryFits p.entries
    → parts 10 (printed p) ≡ node_texts 0 p.entries ++ join_with_byte 32 (trailer_words (length p.entries) p.first) ∷ [] ∷ []
printed_parts p few f a =
    nodes_parts 0 p.entries (line (trailer_words (length p.entries) p.first)) (omega arith) a
    ∙ ap (λ (ls : List (List ℕ)). node_texts 0 p.entries ++ ls) (trailer_tail (length p.entries) p.first few f)

pub nodes_pass : (n : ℕ) (es : List Entry) (rest : List (List ℕ)) → n + length es ≤ 200 → 0 < length rest → Every EntryFits es
    → lines_fault n (node_texts n es ++ rest) ≡ lines_fault (n + length es) rest
nodes_pass n [] rest few some a = ap (λ k. lines_fault k rest) (let z : n ≡ n + 0 = omega arith in z)
nodes_pass n (x ∷ es) rest few some a =
    let l : n < 200 = omega arith in
    let text = join_with_byte 32 (entry_words n x) in
    let more : 0 < length (node_texts (n + 1) es ++ rest) = omega (arith, length-append (node_texts (n + 1) es) rest) in
    let e : n + 1 + length es ≡ n + length (x ∷ es) = omega arith in
    node_goes_on n text (node_texts (n + 1) es ++ rest) more (entry_no_trailer n x l a.0) (ap (node_fault n) (entry_cut n x l a.0) ∙ entry_no_fault n x l a.0)
    ∙ nodes_pass (n + 1) es rest (omega arith) some a.1
    ∙ ap (λ k. lines_fault k rest) e

pub lines_pass : (es : List Entry) (first : ℕ) → 0 < length es → length es ≤ 200 → first ≤ 255 → Every EntryFits es
    → lines_fault 0 (node_texts 0 es ++ join_with_byte 32 (trailer_words (length es) first) ∷ [] ∷ []) ≡ None
lines_pass es first some few f a =
    nodes_pass 0 es (join_with_byte 32 (trailer_words (length es) first) ∷ [] ∷ []) (omega arith) (omega arith) a
    ∙ ap (λ k. lines_fault k (join_with_byte 32 (trailer_words (length es) first) ∷ [] ∷ [])) (let z : 0 + length es ≡ length es = omega arith in z)
    ∙ trailer_passes (length es) first some (omega arith) f
