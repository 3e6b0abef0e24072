-- Lines, one after another.
use Rattle.std.proofs.Common.{◌≡◌, ℕ, ◌+◌, ◌<◌, ◌≤◌, Bool, true, false, not, eqb, List, [], ◌∷◌, ◌++◌, length, take, set, Option, Bor, Some, None, Ok, Result, sym, refl, ap, ◌∙◌, inl, inr, append_assoc, arith}
use Rattle.std.specs.Option.{is_some, option_copied}
use Rattle.std.specs.List.{join_with_byte}
use Rattle.std.proofs.lemmas.List.{take_more_set, length-take-le, length-set}
use Rattle.std.proofs.lemmas.Bool.{cases_Bool, eqb-true, eqb-false, ne_eqb}
use Rattle.machine.specs.Every.{Every, every_push}
use Rattle.machine.specs.declared.node.Entry.{Entry}
use Rattle.text.specs.declared.read.parts.Parts.{Parts}
use Rattle.text.specs.Cuts.{parts, grown, rest_parts, left}
use Rattle.text.specs.declared.refusal.LineRefusal.{LineRefusal}
use Rattle.text.specs.Entries.{EntryFits, EntryRead}
use Rattle.text.specs.RowReads.{Gives}
use Rattle.text.specs.Print.{entry_words}
use Rattle.text.specs.Rows.{node_fault}
use Rattle.text.specs.LineReads.{node_texts}
use Rattle.text.specs.Texts.{words, is_trailer, on_line, lines_fault}

grown_some : (c : ℕ) (ws : List (List ℕ)) → 0 < length ws → 0 < length (grown c ws)
grown_some c [] h = h
grown_some c (w ∷ ws) h = omega arith

-- a text has at least one part
pub parts_some : (s : ℕ) (bs : List ℕ) → 0 < length (parts s bs)
parts_some s [] = omega arith
parts_some s (c ∷ cs) =
    let h = parts_some s cs in
    elim (cases_Bool (eqb c s)) [ inl t ↦ rw t (omega arith) | inr f ↦ rw f (grown_some c (parts s cs) h) ]

-- no part is left where nothing stands behind a separator
pub done : (s : ℕ) (rest : Option (Bor (List ℕ))) (b : Bool) → is_some rest ≡ not b → b ≡ eqb (length (rest_parts s (option_copied rest))) 0
done s None true h = refl
done s None false h = let z : ◌≡◌ {A = ℕ} 0 1 = cc in absurd (omega arith)
done s (Some t) true h = let z : ◌≡◌ {A = ℕ} 0 1 = cc in absurd (omega arith)
done s (Some t) false h = let n = parts_some s t.now in sym (ne_eqb (length (parts s t.now)) 0 (λ e. omega arith))

-- the parts, joined again
joined_grown : (s c : ℕ) (ws : List (List ℕ)) → 0 < length ws → join_with_byte s (grown c ws) ≡ c ∷ join_with_byte s ws
joined_grown s c [] h = absurd (omega arith)
joined_grown s c (w ∷ []) h = refl
joined_grown s c (w ∷ v ∷ ws) h = refl

joined_front : (s : ℕ) (ws : List (List ℕ)) → 0 < length ws → join_with_byte s ([] ∷ ws) ≡ s ∷ join_with_byte s ws
joined_front s [] h = absurd (omega arith)
joined_front s (w ∷ ws) h = refl

pub join_parts : (s : ℕ) (bs : List ℕ) → join_with_byte s (parts s bs) ≡ bs
join_parts s [] = refl
join_parts s (c ∷ cs) =
    let h = parts_some s cs in
    elim (cases_Bool (eqb c s)) [
      | inl t ↦ rw t (joined_front s (parts s cs) h ∙ ap (λ (x : ℕ). x ∷ join_with_byte s (parts s cs)) (sym (eqb-true c s t)) ∙ ap (λ (x : List ℕ). c ∷ x) (join_parts s cs))
      | inr f ↦ rw f (joined_grown s c (parts s cs) h ∙ ap (λ (x : List ℕ). c ∷ x) (join_parts s cs))
    ]

-- one more node
pub texts_push : (n : ℕ) (es : List Entry) (e : Entry) → node_texts n (es ++ e ∷ []) ≡ node_texts n es ++ join_with_byte 32 (entry_words (n + length es) e) ∷ []
texts_push n [] e = ap (λ m. join_with_byte 32 (entry_words m e) ∷ []) (let z : n ≡ n + 0 = omega arith in z)
texts_push n (f ∷ es) e =
    let m : n + 1 + length es ≡ n + length (f ∷ es) = omega arith in
    ap (λ (ts : List (List ℕ)). join_with_byte 32 (entry_words n f) ∷ ts) (texts_push (n + 1) es e ∙ ap (λ k. node_texts (n + 1) es ++ join_with_byte 32 (entry_words k e) ∷ []) m)

-- the line of a node, where another line follows
node_line : (n : ℕ) (l : List ℕ) (rest : List (List ℕ)) → 0 < length rest → is_trailer l ≡ false → lines_fault n (l ∷ rest) ≡ on_line (n + 1) (node_fault n (words l)) (lines_fault (n + 1) rest)
node_line n l [] h t = absurd (omega arith)
node_line n l (m ∷ ls) h t = rw t

pub node_goes_on : (n : ℕ) (l : List ℕ) (rest : List (List ℕ)) → 0 < length rest → is_trailer l ≡ false → node_fault n (words l) ≡ None → lines_fault n (l ∷ rest) ≡ lines_fault (n + 1) rest
node_goes_on n l rest h t e = node_line n l rest h t ∙ ap (λ o. on_line (n + 1) o (lines_fault (n + 1) rest)) e

-- the table after one more node
module _ (es : List Entry) (n : ℕ) (e : Entry) (room : n < length es) where
  pub spelled_more : (all rest : List (List ℕ)) (l : List ℕ) → all ≡ node_texts 0 (take n es) ++ l ∷ rest → words l ≡ entry_words n e → all ≡ node_texts 0 (take (n + 1) (set es n e)) ++ rest
  spelled_more all rest l h w =
      let line : l ≡ join_with_byte 32 (entry_words n e) = sym (join_parts 32 l) ∙ ap (join_with_byte 32) w in
      let long : length (take n es) ≡ n = length-take-le n es (omega arith) in
      let z : 0 + length (take n es) ≡ n = omega arith in
      let more : node_texts 0 (take (n + 1) (set es n e)) ≡ node_texts 0 (take n es) ++ join_with_byte 32 (entry_words n e) ∷ [] =
      ap (node_texts 0) (take_more_set es n e room) ∙ texts_push 0 (take n es) e ∙ ap (λ k. node_texts 0 (take n es) ++ join_with_byte 32 (entry_words k e) ∷ []) z in
      h ∙ ap (λ (x : List ℕ). node_texts 0 (take n es) ++ x ∷ rest) line
      ∙ sym (ap (λ (x : List (List ℕ)). x ++ rest) more ∙ append_assoc (node_texts 0 (take n es)) (join_with_byte 32 (entry_words n e) ∷ []) rest)

  pub fit_more : Every EntryFits (take n es) → EntryFits e → Every EntryFits (take (n + 1) (set es n e))
  fit_more a f = rw (take_more_set es n e room) (every_push EntryFits (take n es) e a f)

-- what the loop over the lines keeps: from s to t, `count` nodes were read
pub record NodesSoFar (s : Parts) (entries : List Entry) (count : ℕ) (t : Parts) : Type 0 where
  pub spelled : left s ≡ node_texts 0 (take count entries) ++ left t
  pub goes_on : lines_fault 0 (left s) ≡ lines_fault count (left t)
  pub fit : Every EntryFits (take count entries)
  pub small : count ≤ 200
  pub number : t.number ≡ count
  pub room : length entries ≡ 200

-- one turn of the loop: t is where it began, and u is past the line l, of which r was read
module _ (s t u : Parts) (es : List Entry) (n : ℕ) (l : List ℕ) (r : Result Entry LineRefusal)
    (inv : NodesSoFar s es n t) (next : Gives t l u)
    (more : false ≡ eqb (length (left u)) 0) (node : false ≡ is_trailer l) (read : EntryRead n (words l) r) where
  ended : 0 < length (left u)
  ended = let h : length (left u) ≡ 0 → ⊥ = eqb-false (length (left u)) 0 (sym more) in omega arith

  pub loop_more : (e : Entry) → r ≡ Ok e → NodesSoFar s (set es n e) (n + 1) u
  loop_more e is =
      let p = rw is at read in
      let few = p.3 in
      let room : n < length es = omega (arith, inv.small, inv.room) in
      record {
        spelled = spelled_more es n e room (left s) (left u) l (inv.spelled ∙ ap (λ (x : List (List ℕ)). node_texts 0 (take n es) ++ x) next.taken) p.0;
        goes_on = inv.goes_on ∙ ap (lines_fault n) next.taken ∙ node_goes_on n l (left u) ended (sym node) p.1;
        fit = fit_more es n e room inv.fit p.2;
        small = omega (arith, inv.small, inv.room);
        number = omega (arith, inv.number, next.counted);
        room = length-set es n e ∙ inv.room;
      }
