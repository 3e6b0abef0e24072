-- The words of a line, and the lines of the nodes, one after another.
use Rattle.std.proofs.Common.{◌≡◌, ℕ, ◌+◌, ◌<◌, ◌≤◌, List, [], ◌∷◌, ◌++◌, length, take, drop, sym, refl, ap, ◌∙◌, append_assoc, append-nil, arith, length-append}
use Rattle.std.specs.List.{join_with_byte}
use Rattle.std.proofs.lemmas.List.{length-take-le, take-append-drop, take_more, drop_more}
use Rattle.machine.specs.declared.node.Entry.{Entry}
use Rattle.machine.specs.WellFormed.{entry_at, blank}
use Rattle.printer.specs.Pages.{Room, spaced}
use Rattle.text.specs.Print.{line, entry_words, node_lines}

pub spaced_append : (ws vs : List (List ℕ)) → spaced (ws ++ vs) ≡ spaced ws ++ spaced vs
spaced_append [] vs = refl
spaced_append (w ∷ ws) vs = ap (λ (t : List ℕ). 32 ∷ (w ++ t)) (spaced_append ws vs) ∙ ap (λ (t : List ℕ). 32 ∷ t) (sym (append_assoc w (spaced ws) (spaced vs)))

joined_spaced : (w : List ℕ) (ws : List (List ℕ)) → join_with_byte 32 (w ∷ ws) ≡ w ++ spaced ws
joined_spaced w [] = sym (append-nil w)
joined_spaced w (v ∷ ws) = ap (λ (t : List ℕ). w ++ 32 ∷ t) (joined_spaced v ws)

pub line_spaced : (w : List ℕ) (ws : List (List ℕ)) → line (w ∷ ws) ≡ w ++ (spaced ws ++ 10 ∷ [])
line_spaced w ws = ap (λ (t : List ℕ). t ++ 10 ∷ []) (joined_spaced w ws) ∙ append_assoc w (spaced ws) (10 ∷ [])

pub line_parts : (w : List ℕ) (ws vs : List (List ℕ)) → line (w ∷ (ws ++ vs)) ≡ w ++ (spaced ws ++ (spaced vs ++ 10 ∷ []))
line_parts w ws vs =
    line_spaced w (ws ++ vs)
    ∙ ap (λ (t : List ℕ). w ++ (t ++ 10 ∷ [])) (spaced_append ws vs)
    ∙ ap (λ (t : List ℕ). w ++ t) (append_assoc (spaced ws) (spaced vs) (10 ∷ []))

-- the words of a line in two parts
module _ (held : List ℕ) {all : List (List ℕ)} (ws vs : List (List ℕ)) (cut : all ≡ ws ++ vs) where
  in_two : spaced all ≡ spaced ws ++ spaced vs
  in_two = ap spaced cut ∙ spaced_append ws vs

  pub words_front : Room held (spaced all) → Room held (spaced ws)
  words_front room = omega (arith, ap length in_two, length-append (spaced ws) (spaced vs))

  pub words_rest : (next : List ℕ) → Room held (spaced all) → next ≡ held ++ spaced ws → Room next (spaced vs)
  words_rest next room written = omega (arith, ap length in_two, length-append (spaced ws) (spaced vs), ap length written, length-append held (spaced ws))

  pub words_both : (next last : List ℕ) → next ≡ held ++ spaced ws → last ≡ next ++ spaced vs → last ≡ held ++ spaced all
  words_both next last first second =
      second ∙ ap (λ (t : List ℕ). t ++ spaced vs) first ∙ append_assoc held (spaced ws) (spaced vs) ∙ ap (λ (t : List ℕ). held ++ t) (sym in_two)

lines_append : (n : ℕ) (es fs : List Entry) → node_lines n (es ++ fs) ≡ node_lines n es ++ node_lines (n + length es) fs
lines_append n [] fs = ap (λ k. node_lines k fs) (let z : n ≡ n + 0 = omega arith in z)
lines_append n (e ∷ es) fs =
    ap (λ (t : List ℕ). line (entry_words n e) ++ t) (lines_append (n + 1) es fs ∙ ap (λ k. node_lines (n + 1) es ++ node_lines k fs) (let z : n + 1 + length es ≡ n + length (e ∷ es) = omega arith in z))
    ∙ sym (append_assoc (line (entry_words n e)) (node_lines (n + 1) es) (node_lines (n + length (e ∷ es)) fs))

lines_split : (es fs : List Entry) (i : ℕ) → length es ≡ i → node_lines 0 (es ++ fs) ≡ node_lines 0 es ++ node_lines i fs
lines_split es fs i long = lines_append 0 es fs ∙ ap (λ k. node_lines 0 es ++ node_lines k fs) (let z : 0 + length es ≡ i = omega arith in z)

-- the lines before an entry and its own are no longer than all of them
pub lines_fit : (es : List Entry) (i : ℕ) → i < length es → length (node_lines 0 (take i es)) + length (line (entry_words i (entry_at es i))) ≤ length (node_lines 0 es)
lines_fit es i below =
    let own = line (entry_words i (entry_at es i)) in
    let behind = node_lines (i + 1) (drop (i + 1) es) in
    let cut : node_lines 0 es ≡ node_lines 0 (take i es) ++ (own ++ behind) =
    ap (node_lines 0) (sym (take-append-drop i es) ∙ ap (λ (fs : List Entry). take i es ++ fs) (drop_more es i blank below))
    ∙ lines_split (take i es) (entry_at es i ∷ drop (i + 1) es) i (length-take-le i es (omega arith)) in
    omega (arith, ap length cut, length-append (node_lines 0 (take i es)) (own ++ behind), length-append own behind)

-- behind the lines before an entry stands its own
pub lines_more : (held : List ℕ) (es : List Entry) (i : ℕ) → i < length es → (held ++ node_lines 0 (take i es)) ++ line (entry_words i (entry_at es i)) ≡ held ++ node_lines 0 (take (i + 1) es)
lines_more held es i below =
    let own = line (entry_words i (entry_at es i)) in
    let more : node_lines 0 (take (i + 1) es) ≡ node_lines 0 (take i es) ++ own =
    ap (node_lines 0) (take_more es i blank below)
    ∙ lines_split (take i es) (entry_at es i ∷ []) i (length-take-le i es (omega arith))
    ∙ ap (λ (t : List ℕ). node_lines 0 (take i es) ++ t) (append-nil own) in
    append_assoc held (node_lines 0 (take i es)) own ∙ ap (λ (t : List ℕ). held ++ t) (sym more)
