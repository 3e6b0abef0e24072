-- The targets of a text's lines, told by the entries that the lines spell.
use Rattle.std.proofs.Common.{◌≡◌, ℕ, ◌+◌, ◌-◌, ◌<◌, ◌≤◌, Bool, true, false, cond, ltb, List, [], ◌∷◌, ◌++◌, length, get_or, Some, None, codes, decimal, Option, refl, ap, ◌∙◌, inl, inr, arith}
use Rattle.std.specs.List.{join_with_byte}
use Rattle.std.specs.Str.{bytes_eq}
use Rattle.std.proofs.lemmas.List.{length-append}
use Rattle.machine.specs.declared.node.Entry.{Entry}
use Rattle.machine.specs.declared.node.Exits.{Exits}
use Rattle.machine.specs.declared.node.Exits.TheVariants as exits
use Rattle.machine.specs.declared.node.Node.{Node}
use Rattle.machine.specs.declared.node.Node.TheVariants.{Mov, Binary, In, Out, Ld, St, Br, Skip, Halt, Fail}
use Rattle.machine.specs.WellFormed.{exits_of}
use Rattle.text.specs.Entries.{TargetsFit, EntryFits}
use Rattle.text.specs.Kinds.{kind_of}
use Rattle.text.specs.Print.{entry_words, operand_words, exit_words, trailer_words}
use Rattle.text.specs.Rows.{Due, row_fault, placed, operand_dues, exit_dues, node_dues, target}
use Rattle.text.specs.Targets.{used_targets, TargetsBelow, first_not_below, bad_target, on_entry, bad_targets}
use Rattle.text.specs.LineReads.{node_texts}
use Rattle.text.specs.Texts.{Place, words, is_trailer, on_line, line_dues, trailer_dues, target_fault, targets_fault}
use Rattle.text.proofs.KindLaws.{kind_exits_lem, kind_known}
use Rattle.text.proofs.Telling.{number_back}
use Rattle.text.proofs.Whole.{entry_cut, entry_no_trailer, trailer_cut}
use Rattle.std.proofs.lemmas.Bool.{cases_Bool, lt-ltb, ltb-true}
use Rattle.machine.specs.Every.{Every}

abbrev seventh : Option ℕ → Option (ℕ × ℕ)
seventh None = None
seventh (Some w) = Some (7, w)

-- the refusal of a target that names no node, or else what is wrong further on
abbrev pub refused7 : Option (ℕ × ℕ) → Option Place → Option Place
refused7 None more = more
refused7 (Some x) more = Some (7, x.0, x.1)

bytes : (x : Exits) (ts : List ℕ) → TargetsFit x ts → (get_or ts 0 0 ≤ 255) × (get_or ts 1 0 ≤ 255)
bytes exits.None ts h = rw h (omega arith, omega arith)
bytes exits.One ts h = rw h.2 (h.1, omega arith)
bytes exits.Two ts h = rw h.4 (h.2, h.3)

module _ (n : ℕ) where
  one_target : (t : ℕ) → t ≤ 255 → target_fault n target (decimal t) ≡ cond (ltb t n) None (Some 7)
  one_target t h = ap (λ v. cond {A = Option ℕ} (ltb v n) None (Some 7)) (number_back t (omega arith))

  one_row : (t k : ℕ) (b : Bool) → placed k (cond b None (Some 7)) None ≡ seventh (cond b None (Some k))
  one_row t k true = refl
  one_row t k false = refl

  two_row : (k : ℕ) (a b : Bool) → placed k (cond a None (Some 7)) (placed (k + 1) (cond b None (Some 7)) None) ≡ seventh (cond a (cond b None (Some (k + 1))) (Some k))
  two_row k true true = refl
  two_row k true false = refl
  two_row k false b = refl

  exits_row : (x : Exits) (ts : List ℕ) (k : ℕ) → TargetsFit x ts → row_fault (target_fault n) (exit_dues x) k (exit_words x ts) ≡ seventh (first_not_below n (k + 1) (used_targets x ts))
  exits_row exits.None ts k h = refl
  exits_row exits.One ts k h =
      let b = bytes exits.One ts h in
      ap (λ o. placed (k + 1) o None) (one_target (get_or ts 0 0) b.0) ∙ one_row (get_or ts 0 0) (k + 1) (ltb (get_or ts 0 0) n)
  exits_row exits.Two ts k h =
      let b = bytes exits.Two ts h in
      ap (λ o. placed (k + 1) o (placed (k + 1 + 1) (target_fault n target (decimal (get_or ts 1 0))) None)) (one_target (get_or ts 0 0) b.0)
      ∙ ap (λ o. placed (k + 1) (cond (ltb (get_or ts 0 0) n) None (Some 7)) (placed (k + 1 + 1) o None)) (one_target (get_or ts 1 0) b.1)
      ∙ two_row (k + 1) (ltb (get_or ts 0 0) n) (ltb (get_or ts 1 0) n)

  -- no operand is a target
  past_operands : (d : Node) (ds : List Due) (k : ℕ) (ws : List (List ℕ)) → row_fault (target_fault n) (operand_dues (kind_of d) ++ ds) k (operand_words d ++ ws) ≡ row_fault (target_fault n) ds (k + length (operand_words d)) ws
  past_operands (Mov to from) ds k ws = ap (λ j. row_fault (target_fault n) ds j ws) (let z : k + 1 + 1 ≡ k + 2 = omega arith in z)
  past_operands (Binary op to left right) ds k ws = ap (λ j. row_fault (target_fault n) ds j ws) (let z : k + 1 + 1 + 1 ≡ k + 3 = omega arith in z)
  past_operands (In to) ds k ws = refl
  past_operands (Out from) ds k ws = refl
  past_operands (Ld to cell) ds k ws = ap (λ j. row_fault (target_fault n) ds j ws) (let z : k + 1 + 1 ≡ k + 2 = omega arith in z)
  past_operands (St cell from) ds k ws = ap (λ j. row_fault (target_fault n) ds j ws) (let z : k + 1 + 1 ≡ k + 2 = omega arith in z)
  past_operands (Br on) ds k ws = refl
  past_operands Skip ds k ws = ap (λ j. row_fault (target_fault n) ds j ws) (let z : k ≡ k + 0 = omega arith in z)
  past_operands Halt ds k ws = ap (λ j. row_fault (target_fault n) ds j ws) (let z : k ≡ k + 0 = omega arith in z)
  past_operands (Fail fault) ds k ws = refl

  entry_row : (m : ℕ) (e : Entry) → EntryFits e → row_fault (target_fault n) (node_dues m (entry_words m e)) 1 (entry_words m e) ≡ seventh (bad_target n e)
  entry_row m e h =
      let k = kind_of e.node in
      let x = exits_of e.node in
      let ws = operand_words e.node ++ exit_words x e.targets in
      rw (kind_known k, kind_exits_lem e.node)
      (past_operands e.node (exit_dues x) 3 (exit_words x e.targets)
      ∙ exits_row x e.targets (3 + length (operand_words e.node)) h.1
      ∙ ap (λ j. seventh (first_not_below n j (used_targets x e.targets))) (let z : 3 + length (operand_words e.node) + 1 ≡ length (operand_words e.node) + 4 = omega arith in z))

  line_on : (m : ℕ) (l : List ℕ) (rest : List (List ℕ)) → 0 < length rest → targets_fault n m (l ∷ rest) ≡ on_line (m + 1) (row_fault (target_fault n) (line_dues m l) 1 (words l)) (targets_fault n (m + 1) rest)
  line_on m l [] h = absurd (omega arith)
  line_on m l (x ∷ ls) h = refl

  node_row : (m : ℕ) (l : List ℕ) (e : Entry) → is_trailer l ≡ false → words l ≡ entry_words m e → EntryFits e → row_fault (target_fault n) (line_dues m l) 1 (words l) ≡ seventh (bad_target n e)
  node_row m l e t c h =
      ap (λ b. row_fault (target_fault n) (cond b trailer_dues (node_dues m (words l))) 1 (words l)) t
      ∙ ap (λ (ws : List (List ℕ)). row_fault (target_fault n) (node_dues m ws) 1 ws) c ∙ entry_row m e h

  on_entry_lem : (m : ℕ) (o : Option ℕ) (b : Option (ℕ × ℕ)) (more : Option Place) → on_line (m + 1) (seventh o) (refused7 b more) ≡ refused7 (on_entry m o b) more
  on_entry_lem m None b more = refl
  on_entry_lem m (Some w) b more = refl

  nodes_targets : (m : ℕ) (es : List Entry) (rest : List (List ℕ)) → m + length es ≤ 200 → 0 < length rest → Every EntryFits es
      → targets_fault n m (node_texts m es ++ rest) ≡ refused7 (bad_targets n m es) (targets_fault n (m + length es) rest)
  nodes_targets m [] rest few some a = ap (λ k. targets_fault n k rest) (let z : m ≡ m + 0 = omega arith in z)
  nodes_targets m (x ∷ es) rest few some a =
      let l : m < 200 = omega arith in
      let text = join_with_byte 32 (entry_words m x) in
      let more : 0 < length (node_texts (m + 1) es ++ rest) = omega (arith, length-append (node_texts (m + 1) es) rest) in
      let e : m + 1 + length es ≡ m + length (x ∷ es) = omega arith in
      line_on m text (node_texts (m + 1) es ++ rest) more
      ∙ ap (λ o. on_line (m + 1) o (targets_fault n (m + 1) (node_texts (m + 1) es ++ rest))) (node_row m text x (entry_no_trailer m x l a.0) (entry_cut m x l a.0) a.0)
      ∙ ap (on_line (m + 1) (seventh (bad_target n x))) (nodes_targets (m + 1) es rest (omega arith) some a.1 ∙ ap (λ k. refused7 (bad_targets n (m + 1) es) (targets_fault n k rest)) e)
      ∙ on_entry_lem m (bad_target n x) (bad_targets n (m + 1) es) (targets_fault n (m + length (x ∷ es)) rest)

  last_row : (k : ℕ) (b : Bool) → on_line (k + 1) (placed 4 (cond b None (Some 7)) None) None ≡ cond b None (Some (7, k + 1, 4))
  last_row k true = refl
  last_row k false = refl

  trailer_targets : (k count first : ℕ) → count ≤ 255 → first ≤ 255 → targets_fault n k (join_with_byte 32 (trailer_words count first) ∷ [] ∷ []) ≡ cond (ltb first n) None (Some (7, k + 1, 4))
  trailer_targets k count first a b =
      let l = join_with_byte 32 (trailer_words count first) in
      let cut = trailer_cut count first a b in
      let t : is_trailer l ≡ true = ap (λ (ws : List (List ℕ)). bytes_eq (get_or ws 0 []) (codes "end")) cut in
      ap (λ c. on_line (k + 1) (row_fault (target_fault n) (cond c trailer_dues (node_dues k (words l))) 1 (words l)) None) t
      ∙ ap (λ (ws : List (List ℕ)). on_line (k + 1) (row_fault (target_fault n) trailer_dues 1 ws) None) cut
      ∙ ap (λ o. on_line (k + 1) (placed 4 o None) None) (one_target first b)
      ∙ last_row k (ltb first n)

pub length_texts : (m : ℕ) (es : List Entry) → length (node_texts m es) ≡ length es
length_texts m [] = refl
length_texts m (e ∷ es) = let h = length_texts (m + 1) es in omega arith

-- the targets of n nodes' lines and of the trailer that tells n
pub lines_targets : (es : List Entry) (n first : ℕ) (ls : List (List ℕ)) → length es ≡ n → n ≤ 200 → first ≤ 255 → Every EntryFits es
    → ls ≡ node_texts 0 es ++ join_with_byte 32 (trailer_words n first) ∷ [] ∷ []
    → targets_fault (length ls - 2) 0 ls ≡ refused7 (bad_targets n 0 es) (cond (ltb first n) None (Some (7, n + 1, 4)))
lines_targets es n first ls long few f a is =
    let rest = join_with_byte 32 (trailer_words n first) ∷ [] ∷ [] in
    let size : length ls - 2 ≡ n = omega (arith, ap length is, length-append (node_texts 0 es) rest, length_texts 0 es) in
    let z : 0 + length es ≡ n = omega arith in
    ap (λ k. targets_fault k 0 ls) size ∙ ap (targets_fault n 0) is
    ∙ nodes_targets n 0 es rest (omega arith) (omega arith) a
    ∙ ap (λ k. refused7 (bad_targets n 0 es) (targets_fault n k rest)) z
    ∙ ap (refused7 (bad_targets n 0 es)) (trailer_targets n n n first (omega arith) f)

-- no target is bad: each is below the number of nodes
below_none : (count at : ℕ) (ts : List ℕ) → Every (λ t. t < count) ts → first_not_below count at ts ≡ None
below_none count at [] a = refl
below_none count at (t ∷ ts) a = rw (lt-ltb t count a.0) (below_none count (at + 1) ts a.1)

none_below : (count at : ℕ) (ts : List ℕ) → first_not_below count at ts ≡ None → Every (λ t. t < count) ts
none_below count at [] = λ e. tt
none_below count at (t ∷ ts) = elim (cases_Bool (ltb t count)) [
  | inl b ↦ rw b (λ e. (ltb-true t count b, none_below count (at + 1) ts e))
  | inr b ↦ rw b (λ e. let z : ◌≡◌ {A = ℕ} 0 1 = cc in absurd (omega arith))
]

pub all_below : (count m : ℕ) (es : List Entry) → Every (TargetsBelow count) es → bad_targets count m es ≡ None
all_below count m [] a = refl
all_below count m (e ∷ es) a = rw (below_none count (length (operand_words e.node) + 4) (used_targets (exits_of e.node) e.targets) a.0) (all_below count (m + 1) es a.1)

on_none : (m : ℕ) (o : Option ℕ) (b : Option (ℕ × ℕ)) → on_entry m o b ≡ None → (o ≡ None) × (b ≡ None)
on_none m None b e = (refl, e)
on_none m (Some w) b e = let z : ◌≡◌ {A = ℕ} 0 1 = cc in absurd (omega arith)

pub below_all : (count m : ℕ) (es : List Entry) → bad_targets count m es ≡ None → Every (TargetsBelow count) es
below_all count m [] e = tt
below_all count m (x ∷ es) e =
    let p = on_none m (bad_target count x) (bad_targets count (m + 1) es) e in
    (none_below count (length (operand_words x.node) + 4) (used_targets (exits_of x.node) x.targets) p.0, below_all count (m + 1) es p.1)
