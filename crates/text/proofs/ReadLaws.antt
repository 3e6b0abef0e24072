-- A text whose lines have no fault.
use Rattle.std.proofs.Common.{◌≡◌, ℕ, ◌+◌, ◌-◌, ◌<◌, ◌≤◌, cond, ltb, List, [], ◌∷◌, ◌++◌, length, get_or, take, Some, None, Option, sym, refl, ap, ◌∙◌, arith}
use Rattle.std.specs.List.{join_with_byte}
use Rattle.std.proofs.lemmas.List.{length-take-le, length-append}
use Rattle.std.proofs.lemmas.Bool.{lt-ltb, le-ltb}
use Rattle.machine.specs.Every.{Every, all_from_every}
use Rattle.machine.specs.declared.node.Entry.{Entry}
use Rattle.machine.specs.Limits.{node_limit}
use Rattle.machine.specs.Programs.{Prog, prog, IsProgram, checked}
use Rattle.machine.specs.WellFormed.{Sound}
use Rattle.machine.proofs.Tables.{every_from_all, checked_good}
use Rattle.text.specs.Cuts.{parts}
use Rattle.text.specs.Entries.{EntryFits}
use Rattle.text.specs.Limits.{text_limit}
use Rattle.text.specs.Numbers.{value_of}
use Rattle.text.specs.Print.{entry_words, trailer_words, printed}
use Rattle.text.specs.Reads.{SpellsJust}
use Rattle.text.specs.Targets.{bad_targets, TargetsBelow}
use Rattle.text.specs.LineReads.{node_texts, LinesOk}
use Rattle.text.specs.Texts.{Place, words, either, lines_fault, targets_fault, text_fault}
use Rattle.text.proofs.Fits.{fits_sound, program_fits, program_below}
use Rattle.text.proofs.TargetLaws.{refused7, lines_targets, all_below, below_all, length_texts}
use Rattle.text.proofs.Telling.{number_back, line_tells}
use Rattle.text.proofs.TextLaws.{join_parts}
use Rattle.text.proofs.Whole.{printed_parts, lines_pass, entry_cut, trailer_cut}

passed : (text : List ℕ) → length text ≤ text_limit → lines_fault 0 (parts 10 text) ≡ None → text_fault text ≡ targets_fault (length (parts 10 text) - 2) 0 (parts 10 text)
passed text short none =
    let ps = parts 10 text in
    ap (λ b. cond {A = Option Place} b (Some (1, 0, 0)) (either (lines_fault 0 ps) (targets_fault (length ps - 2) 0 ps))) (le-ltb text_limit (length text) short)
    ∙ ap (λ o. either o (targets_fault (length ps - 2) 0 ps)) none

fit_sound : (n : ℕ) (es : List Entry) → n ≤ node_limit → Every EntryFits es → Every (TargetsBelow n) es → Every (Sound n) es
fit_sound n [] few a b = tt
fit_sound n (e ∷ es) few a b = (fits_sound n few e a.0 b.0, fit_sound n es few a.1 b.1)

module _ (text : List ℕ) (es : List Entry) (n first : ℕ) (short : length text ≤ text_limit) (room : length es ≡ node_limit) (ok : LinesOk (parts 10 text) es n first) where
  few : n ≤ length es
  few = omega (arith, ok.small)

  long : length (take n es) ≡ n
  long = length-take-le n es few

  fault : text_fault text ≡ refused7 (bad_targets n 0 (take n es)) (cond (ltb first n) None (Some (7, n + 1, 4)))
  fault = passed text short ok.passes ∙ lines_targets (take n es) n first (parts 10 text) long ok.small ok.first_small ok.fit ok.spelled

  -- what the code found of the targets
  module _ (o : Option (ℕ × ℕ)) (found : o ≡ bad_targets n 0 (take (n - 0) es)) where
    all_found : bad_targets n 0 (take n es) ≡ o
    all_found = ap (λ k. bad_targets n 0 (take k es)) (let z : n ≡ n - 0 = omega arith in z) ∙ sym found

    pub target_fails : (l w : ℕ) → o ≡ Some (l, w) → text_fault text ≡ Some (7, l, w)
    target_fails l w is = fault ∙ ap (λ x. refused7 x (cond (ltb first n) None (Some (7, n + 1, 4)))) (all_found ∙ is)

    module _ (none : o ≡ None) where
      fault_first : text_fault text ≡ cond (ltb first n) None (Some (7, n + 1, 4))
      fault_first = fault ∙ ap (λ x. refused7 x (cond (ltb first n) None (Some (7, n + 1, 4)))) (all_found ∙ none)

      pub first_fails : n ≤ first → text_fault text ≡ Some (7, n + 1, 4)
      first_fails h = fault_first ∙ ap (λ b. cond {A = Option Place} b None (Some (7, n + 1, 4))) (le-ltb first n h)

      module _ (starts : first < n) where
        pub is_checked : checked es n first ≡ Some (prog (take n es) first)
        is_checked =
            checked_good es n first ok.small starts
            (every_from_all n (take n es) (all_from_every (Sound n) (take n es) (fit_sound n (take n es) ok.small ok.fit (below_all n 0 (take n es) (all_found ∙ none)))))

        pub prints : printed (prog (take n es) first) ≡ text
        prints =
            let p = prog (take n es) first in
            let few' : length (take n es) ≤ 200 = omega (arith, long, ok.small) in
            let cut = printed_parts p few' ok.first_small ok.fit in
            let same : parts 10 (printed p) ≡ parts 10 text =
            cut ∙ ap (λ k. node_texts 0 (take n es) ++ join_with_byte 32 (trailer_words k first) ∷ [] ∷ []) long ∙ sym ok.spelled in
            sym (join_parts 10 (printed p)) ∙ ap (join_with_byte 10) same ∙ join_parts 10 text

        pub passes : text_fault text ≡ None
        passes = fault_first ∙ ap (λ b. cond {A = Option Place} b None (Some (7, n + 1, 4))) (lt-ltb first n starts)

-- every program prints as a text that is read as that program

module _ (p : Prog) (ok : IsProgram p) where
  first_small : p.first ≤ 255
  first_small = omega (arith, ok.starts, ok.counted)

  pub program_parts : parts 10 (printed p) ≡ node_texts 0 p.entries ++ join_with_byte 32 (trailer_words (length p.entries) p.first) ∷ [] ∷ []
  program_parts = printed_parts p ok.counted first_small (program_fits p ok)

  pub printed_passes : length (printed p) ≤ text_limit → text_fault (printed p) ≡ None
  printed_passes short =
      let n = length p.entries in
      let ls = parts 10 (printed p) in
      passed (printed p) short
      (ap (lines_fault 0) program_parts ∙ lines_pass p.entries p.first (omega (arith, ok.starts)) ok.counted first_small (program_fits p ok))
      ∙ lines_targets p.entries n p.first ls refl ok.counted first_small (program_fits p ok) program_parts
      ∙ ap (λ x. refused7 x (cond (ltb p.first n) None (Some (7, n + 1, 4)))) (all_below n 0 p.entries (program_below p ok))
      ∙ ap (λ b. cond {A = Option Place} b None (Some (7, n + 1, 4))) (lt-ltb p.first n ok.starts)

-- the lines of nodes, and other lines behind them, tell the nodes
nodes_tell : (m : ℕ) (es fs : List Entry) (t u : List (List ℕ)) → length es ≡ length fs → m + length es ≤ 200 → Every EntryFits es → Every EntryFits fs
    → node_texts m es ++ t ≡ node_texts m fs ++ u → (es ≡ fs) × (t ≡ u)
nodes_tell m [] [] t u long few a b e = (refl, e)
nodes_tell m [] (f ∷ fs) t u long few a b e = absurd (omega arith)
nodes_tell m (x ∷ es) [] t u long few a b e = absurd (omega arith)
nodes_tell m (x ∷ es) (f ∷ fs) t u long few a b e =
    let line : join_with_byte 32 (entry_words m x) ≡ join_with_byte 32 (entry_words m f) = cc in
    let rest : node_texts (m + 1) es ++ t ≡ node_texts (m + 1) fs ++ u = cc in
    let l : m < 200 = omega arith in
    let same : x ≡ f = line_tells m x f a.0 b.0 (sym (entry_cut m x l a.0) ∙ ap words line ∙ entry_cut m f l b.0) in
    let more = nodes_tell (m + 1) es fs t u (omega arith) (omega arith) a.1 b.1 rest in
    (ap (λ (y : Entry). y ∷ es) same ∙ ap (λ (ys : List Entry). f ∷ ys) more.0, more.1)

first_tells : (n m f g : ℕ) → n ≤ 255 → m ≤ 255 → f ≤ 255 → g ≤ 255 → join_with_byte 32 (trailer_words n f) ≡ join_with_byte 32 (trailer_words m g) → f ≡ g
first_tells n m f g hn hm hf hg e =
    let ws : trailer_words n f ≡ trailer_words m g = sym (trailer_cut n f hn hf) ∙ ap words e ∙ trailer_cut m g hm hg in
    sym (number_back f (omega arith)) ∙ ap (λ (v : List (List ℕ)). value_of (get_or v 3 [])) ws ∙ number_back g (omega arith)

pub printed_alone : (p q : Prog) → IsProgram p → IsProgram q → printed q ≡ printed p → q ≡ p
printed_alone p q okp okq e =
    let tp = join_with_byte 32 (trailer_words (length p.entries) p.first) ∷ [] ∷ [] in
    let tq = join_with_byte 32 (trailer_words (length q.entries) q.first) ∷ [] ∷ [] in
    let lines : node_texts 0 q.entries ++ tq ≡ node_texts 0 p.entries ++ tp = sym (program_parts q okq) ∙ ap (parts 10) e ∙ program_parts p okp in
    let long : length q.entries ≡ length p.entries =
    omega (arith, ap length lines, length-append (node_texts 0 q.entries) tq, length-append (node_texts 0 p.entries) tp, length_texts 0 q.entries, length_texts 0 p.entries) in
    let h = nodes_tell 0 q.entries p.entries tq tp long (omega (arith, okq.counted)) (program_fits q okq) (program_fits p okp) lines in
    let last : join_with_byte 32 (trailer_words (length q.entries) q.first) ≡ join_with_byte 32 (trailer_words (length p.entries) p.first) = cc h.1 in
    let same = first_tells (length q.entries) (length p.entries) q.first p.first (omega (arith, okq.counted)) (omega (arith, okp.counted)) (first_small q okq) (first_small p okp) last in
    ap (λ es. prog es q.first) h.0 ∙ ap (prog p.entries) same

pub spells_just : (text : List ℕ) (p : Prog) → IsProgram p → text_fault text ≡ None → printed p ≡ text → SpellsJust text p
spells_just text p ok none is = record {
  spells = record { program = ok; passes = none; prints = is };
  alone = λ q s. printed_alone p q ok s.program (s.prints ∙ sym is);
}

pub reads_back : (p : Prog) → IsProgram p → length (printed p) ≤ text_limit → SpellsJust (printed p) p
reads_back p ok short = spells_just (printed p) p ok (printed_passes p ok short) refl
