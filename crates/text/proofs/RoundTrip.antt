-- What is printed has no fault, and is cut into the words that it was made of.
use Rattle.std.proofs.Common.{◌≡◌, ℕ, ◌+◌, ◌-◌, ◌^◌, ◌<◌, ◌≤◌, true, false, eqb, List, [], ◌∷◌, ◌++◌, length, get_or, take, None, decimal, refl, ap, ◌∙◌, arith, rules}
use Rattle.std.specs.List.{join_with_byte}
use Rattle.std.specs.Char.{is_ascii_digit}
use Rattle.std.specs.Str.{all_ascii_digits}
use Rattle.std.proofs.lemmas.Fmt.{digits_decimal}
use Rattle.std.proofs.lemmas.List.{length_push, take_at, get_or_push}
use Rattle.std.proofs.lemmas.Bool.{and_parts, eq-eqb, ne_eqb}
use Rattle.machine.specs.Every.{Every, every_append, every_weaker}
use Rattle.machine.specs.declared.node.Entry.{Entry}
use Rattle.machine.specs.declared.node.BinaryOp.TheVariants.{Add, Sub, Mul, Div, Rem, And, Or, Xor, Shl, Shr, Eq, Lt}
use Rattle.text.specs.declared.kind.Kind.{Kind}
use Rattle.text.specs.declared.kind.Kind.TheVariants as kind
use Rattle.machine.specs.declared.node.Exits.{Exits}
use Rattle.machine.specs.declared.node.Exits.TheVariants as exits
use Rattle.machine.specs.declared.node.Node.{Node}
use Rattle.machine.specs.declared.node.Node.TheVariants.{Mov, Binary, In, Out, Ld, St, Br, Skip, Halt, Fail}
use Rattle.machine.specs.declared.node.Operand.{Operand}
use Rattle.machine.specs.declared.node.Operand.TheVariants.{Reg, Num}
use Rattle.text.specs.Cuts.{parts}
use Rattle.text.specs.Entries.{NodeFits, TargetsFit, EntryFits}
use Rattle.text.specs.Numbers.{number_fault, value_of}
use Rattle.text.specs.Print.{operand_word, operand_words, exit_words, entry_words, label_word}
use Rattle.text.specs.Rows.{Due, word_fault, row_fault, operand_dues, exit_dues, node_fault, label_fault, value}
use Rattle.text.specs.WordReads.{OperandFits}
use Rattle.machine.specs.WellFormed.{exits_of}
use Rattle.text.specs.Kinds.{kind_name, kind_of}
use Rattle.text.proofs.KindLaws.{kind_exits_lem, kind_known}
use Rattle.text.proofs.Decimal.{own, written_is_read}

-- cutting what was joined

abbrev pub Lacks : ℕ → List ℕ → Type 0
Lacks s w = Every (λ b. eqb b s ≡ false) w

pub parts_front : (s : ℕ) (w rest : List ℕ) → Lacks s w → parts s (w ++ s ∷ rest) ≡ w ∷ parts s rest
parts_front s [] rest h = rw (eq-eqb s s refl)
parts_front s (c ∷ cs) rest h = rw (h.0, parts_front s cs rest h.1)

parts_last : (s : ℕ) (w : List ℕ) → Lacks s w → parts s w ≡ w ∷ []
parts_last s [] h = refl
parts_last s (c ∷ cs) h = rw (h.0, parts_last s cs h.1)

pub parts_join : (s : ℕ) (ws : List (List ℕ)) → 0 < length ws → Every (Lacks s) ws → parts s (join_with_byte s ws) ≡ ws
parts_join s [] n h = absurd (omega arith)
parts_join s (x ∷ []) n h = parts_last s x h.0
parts_join s (x ∷ y ∷ ws) n h = parts_front s x (join_with_byte s (y ∷ ws)) h.0 ∙ ap (λ (vs : List (List ℕ)). x ∷ vs) (parts_join s (y ∷ ws) (omega arith) h.1)

-- no word has a space or a line feed

abbrev pub Solid : List ℕ → Type 0
Solid w = Every (λ b. 32 < b) w

pub solid_lacks : (s : ℕ) (w : List ℕ) → s ≤ 32 → Solid w → Lacks s w
solid_lacks s w le h = every_weaker (λ b. 32 < b) (λ b. eqb b s ≡ false) (λ b l. ne_eqb b s (λ e. omega arith)) w h

digits_solid : (ds : List ℕ) → all_ascii_digits ds ≡ true → Solid ds
digits_solid [] h = tt
digits_solid (c ∷ cs) h =
    let p = and_parts (is_ascii_digit c) (all_ascii_digits cs) h in
    let d : is_ascii_digit c ≡ true = p.0 in
    let l : 32 < c = search rules in
    (l, digits_solid cs p.1)

pub decimal_solid : (n : ℕ) → n < 2 ^ 64 → Solid (decimal n)
decimal_solid n h = digits_solid (decimal n) (digits_decimal own n h)

-- words that pass, one by one

abbrev pub Good : List Due → List (List ℕ) → Type 0
Good [] [] = Unit {0}
Good [] (w ∷ ws) = ⊥
Good (d ∷ ds) [] = ⊥
Good (d ∷ ds) (w ∷ ws) = (word_fault d w ≡ None) × Good ds ws

pub good_none : (ds : List Due) (n : ℕ) (ws : List (List ℕ)) → Good ds ws → row_fault word_fault ds n ws ≡ None
good_none [] n [] h = refl
good_none [] n (w ∷ ws) h = absurd h
good_none (d ∷ ds) n [] h = absurd h
good_none (d ∷ ds) n (w ∷ ws) h = rw h.0 (good_none ds (n + 1) ws h.1)

good_append : (ds : List Due) (ws : List (List ℕ)) (es : List Due) (vs : List (List ℕ)) → Good ds ws → Good es vs → Good (ds ++ es) (ws ++ vs)
good_append [] [] es vs g h = h
good_append [] (w ∷ ws) es vs g h = absurd g
good_append (d ∷ ds) [] es vs g h = absurd g
good_append (d ∷ ds) (w ∷ ws) es vs g h = (g.0, good_append ds ws es vs g.1 h)

pub number_good : (limit n : ℕ) → limit < 2 ^ 32 → n ≤ limit → number_fault limit (decimal n) ≡ None
number_good limit n l h = (written_is_read limit n l h).0

operand_good : (x : Operand) → OperandFits x → word_fault value (operand_word x) ≡ None
operand_good (Reg n) h = number_good 7 n (omega arith) h
operand_good (Num n) h = number_good 4294967295 n (omega arith) h

operands_good : (n : Node) → NodeFits n → Good (operand_dues (kind_of n)) (operand_words n)
operands_good (Mov to from) h = (number_good 7 to (omega arith) h.0, (operand_good from h.1, tt))
operands_good (Binary op to left right) h = (number_good 7 to (omega arith) h.0, (operand_good left h.1, (operand_good right h.2, tt)))
operands_good (In to) h = (number_good 7 to (omega arith) h, tt)
operands_good (Out from) h = (operand_good from h, tt)
operands_good (Ld to cell) h = (number_good 7 to (omega arith) h.0, (number_good 63 cell (omega arith) h.1, tt))
operands_good (St cell from) h = (number_good 63 cell (omega arith) h.0, (operand_good from h.1, tt))
operands_good (Br on) h = (operand_good on h, tt)
operands_good Skip h = tt
operands_good Halt h = tt
operands_good (Fail fault) h = (number_good 255 fault (omega arith) h, tt)

exits_good : (x : Exits) (ts : List ℕ) → TargetsFit x ts → Good (exit_dues x) (exit_words x ts)
exits_good exits.None ts h = tt
exits_good exits.One ts h = (refl, (rw h.2 (number_good 255 h.0 (omega arith) h.1), tt))
exits_good exits.Two ts h = (refl, (rw h.4 (number_good 255 h.0 (omega arith) h.2), (rw h.4 (number_good 255 h.1 (omega arith) h.3), tt)))

label_good : (n : ℕ) → n < 200 → label_fault n (label_word n) ≡ None
label_good n h =
    let w = written_is_read 255 n (omega arith) (omega arith) in
    let e : length (label_word n) - 1 ≡ length (decimal n) = omega (arith, length_push (decimal n) 58) in
    let c : get_or (label_word n) (length (decimal n)) 0 ≡ 58 = get_or_push (decimal n) 58 0 (length (decimal n)) refl in
    let d : take (length (decimal n)) (label_word n) ≡ decimal n = take_at (decimal n) (58 ∷ []) (length (decimal n)) refl in
    rw (e, c, d, w.0, eq-eqb (value_of (decimal n)) n w.1, ne_eqb n 200 (λ z. omega arith))

-- the line that is printed of a node has no fault
pub entry_no_fault : (n : ℕ) (e : Entry) → n < 200 → EntryFits e → node_fault n (entry_words n e) ≡ None
entry_no_fault n e l h =
    let k = kind_of e.node in
    let x = exits_of e.node in
    let ws = operand_words e.node ++ exit_words x e.targets in
    let g = good_append (operand_dues k) (operand_words e.node) (exit_dues x) (exit_words x e.targets) (operands_good e.node h.0) (exits_good x e.targets h.1) in
    rw (label_good n l, kind_known k, kind_exits_lem e.node) (good_none (operand_dues k ++ exit_dues x) 3 ws g)

-- no word of a printed line has a space or a line feed

operand_solid : (x : Operand) → OperandFits x → Solid (operand_word x)
operand_solid (Reg n) h = (omega arith, decimal_solid n (omega arith))
operand_solid (Num n) h = (omega arith, decimal_solid n (omega arith))

operands_solid : (n : Node) → NodeFits n → Every Solid (operand_words n)
operands_solid (Mov to from) h = ((omega arith, decimal_solid to (omega (arith, h.0))), (operand_solid from h.1, tt))
operands_solid (Binary op to left right) h = ((omega arith, decimal_solid to (omega (arith, h.0))), (operand_solid left h.1, (operand_solid right h.2, tt)))
operands_solid (In to) h = ((omega arith, decimal_solid to (omega arith)), tt)
operands_solid (Out from) h = (operand_solid from h, tt)
operands_solid (Ld to cell) h = ((omega arith, decimal_solid to (omega (arith, h.0))), ((omega arith, decimal_solid cell (omega (arith, h.1))), tt))
operands_solid (St cell from) h = ((omega arith, decimal_solid cell (omega (arith, h.0))), (operand_solid from h.1, tt))
operands_solid (Br on) h = (operand_solid on h, tt)
operands_solid Skip h = tt
operands_solid Halt h = tt
operands_solid (Fail fault) h = ((omega arith, decimal_solid fault (omega arith)), tt)

exits_solid : (x : Exits) (ts : List ℕ) → TargetsFit x ts → Every Solid (exit_words x ts)
exits_solid exits.None ts h = tt
exits_solid exits.One ts h = ((omega arith, (omega arith, tt)), (rw h.2 (decimal_solid h.0 (omega (arith, h.1))), tt))
exits_solid exits.Two ts h = ((omega arith, (omega arith, tt)), (rw h.4 (decimal_solid h.0 (omega (arith, h.2))), (rw h.4 (decimal_solid h.1 (omega (arith, h.3))), tt)))

name_solid : (k : Kind) → Solid (kind_name k)
name_solid kind.Mov = search rules
name_solid (kind.Binary Add) = search rules
name_solid (kind.Binary Sub) = search rules
name_solid (kind.Binary Mul) = search rules
name_solid (kind.Binary Div) = search rules
name_solid (kind.Binary Rem) = search rules
name_solid (kind.Binary And) = search rules
name_solid (kind.Binary Or) = search rules
name_solid (kind.Binary Xor) = search rules
name_solid (kind.Binary Shl) = search rules
name_solid (kind.Binary Shr) = search rules
name_solid (kind.Binary Eq) = search rules
name_solid (kind.Binary Lt) = search rules
name_solid kind.In = search rules
name_solid kind.Out = search rules
name_solid kind.Ld = search rules
name_solid kind.St = search rules
name_solid kind.Br = search rules
name_solid kind.Skip = search rules
name_solid kind.Halt = search rules
name_solid kind.Fail = search rules

pub entry_solid : (n : ℕ) (e : Entry) → n < 200 → EntryFits e → Every Solid (entry_words n e)
entry_solid n e l h = (
  every_append (λ b. 32 < b) (decimal n) (58 ∷ []) (decimal_solid n (omega arith)) (omega arith, tt),
  (
    name_solid (kind_of e.node),
    every_append Solid (operand_words e.node) (exit_words (exits_of e.node) e.targets) (operands_solid e.node h.0) (exits_solid (exits_of e.node) e.targets h.1),
  ),
)
