-- How long a printed text can be.
use Rattle.std.proofs.Common.{◌≡◌, ℕ, zero, suc, ◌+◌, ◌*◌, ◌<◌, ◌≤◌, true, ltb, List, [], ◌∷◌, ◌++◌, length, codes, decimal, ap, ◌∙◌, arith}
use Rattle.std.specs.List.{join_with_byte}
use Rattle.std.proofs.lemmas.Fmt.{length-decimal-le}
use Rattle.std.proofs.lemmas.List.{length-append, length_push}
use Rattle.std.proofs.lemmas.Bool.{ltb-true}
use Rattle.std.proofs.lemmas.Bool.Decides.{nat_tests}
use Rattle.machine.specs.declared.node.BinaryOp.{BinaryOp}
use Rattle.machine.specs.declared.node.Entry.{Entry}
use Rattle.machine.specs.declared.node.Node.{Node}
use Rattle.machine.specs.declared.node.Operand.{Operand}
use Rattle.machine.specs.declared.node.Operand.TheVariants.{Reg, Num}
use Rattle.machine.specs.Programs.{Prog, IsProgram}
use Rattle.text.specs.Limits.{text_limit}
use Rattle.machine.specs.WellFormed.{is_register, is_cell, is_operand, is_node, exits_of, leads, Sound, entry_at}
use Rattle.machine.proofs.Entries.{sound_parts}
use Rattle.text.specs.declared.kind.Kind.{Kind}
use Rattle.text.specs.Kinds.{binary_name, kind_name, kind_of}
use Rattle.text.specs.Print.{register_word, cell_word, operand_word, operand_words, exit_words, entry_words, label_word, line, node_lines, trailer_words, printed}

-- each word with the byte after it
abbrev size : List (List ℕ) → ℕ
size [] = 0
size (w ∷ ws) = length w + 1 + size ws

size_append : (ws vs : List (List ℕ)) → size (ws ++ vs) ≡ size ws + size vs
size_append [] vs = omega arith
size_append (w ∷ ws) vs = omega (arith, size_append ws vs)

joined_size : (w : List ℕ) (ws : List (List ℕ)) → length (join_with_byte 32 (w ∷ ws)) + 1 ≡ size (w ∷ ws)
joined_size w [] = omega arith
joined_size w (v ∷ ws) = omega (arith, length-append w (32 ∷ join_with_byte 32 (v ∷ ws)), joined_size v ws)

line_size : (w : List ℕ) (ws : List (List ℕ)) → length (line (w ∷ ws)) ≡ size (w ∷ ws)
line_size w ws = length_push (join_with_byte 32 (w ∷ ws)) 10 ∙ joined_size w ws

byte_size : (n : ℕ) → n < 256 → length (decimal n) ≤ 3
byte_size n h = length-decimal-le 3 n (omega arith) (omega arith) (omega arith)

register_size : (n : ℕ) → is_register n ≡ true → length (register_word n) ≤ 2
register_size n h =
    let below : n < 8 = ltb-true n 8 h in
    omega (arith, length-decimal-le 1 n (omega arith) (omega arith) (omega arith))

cell_size : (n : ℕ) → is_cell n ≡ true → length (cell_word n) ≤ 3
cell_size n h =
    let below : n < 64 = ltb-true n 64 h in
    omega (arith, length-decimal-le 2 n (omega arith) (omega arith) (omega arith))

operand_size : (x : Operand) → is_operand x ≡ true → length (operand_word x) ≤ 11
operand_size (Reg n) h = omega (arith, register_size n h)
operand_size (Num n) h =
    let below : n < 4294967296 = ltb-true n 4294967296 h in
    omega (arith, length-decimal-le 10 n (omega arith) (omega arith) (omega arith))

-- what a node's operands may take: two of them and a register, if it has one exit
operands_size : (n : Node) → is_node n ≡ true → size (operand_words n) ≤ 27
operands_size n h = grind (arith, nat_tests, register_size, cell_size, operand_size, byte_size)

target_size : (count t : ℕ) → count ≤ 200 → ltb t count ≡ true → length (decimal t) ≤ 3
target_size count t few h =
    let below : t < count = ltb-true t count h in
    byte_size t (omega arith)

-- the words behind the name
past_size : (count : ℕ) (n : Node) (ts : List ℕ) → count ≤ 200 → is_node n ≡ true → leads count (exits_of n) ts ≡ true → size (operand_words n) + size (exit_words (exits_of n) ts) ≤ 34
past_size count n ts few good way = grind (arith, nat_tests, operands_size, operand_size, target_size)

binary_size : (op : BinaryOp) → length (binary_name op) ≤ 4
binary_size op = grind arith

name_size : (k : Kind) → length (kind_name k) ≤ 4
name_size k = grind (arith, binary_size)

entry_size : (count n : ℕ) (e : Entry) → count ≤ 200 → n < 200 → Sound count e → length (line (entry_words n e)) ≤ 44
entry_size count n e few below good =
    let parts = sound_parts count e good in
    let operands = operand_words e.node in
    let ways = exit_words (exits_of e.node) e.targets in
    let label : length (label_word n) ≤ 4 = omega (arith, length_push (decimal n) 58, byte_size n (omega arith)) in
    let name = name_size (kind_of e.node) in
    let past = past_size count e.node e.targets few parts.node parts.leads in
    let whole : size (entry_words n e) ≡ length (label_word n) + 1 + (length (kind_name (kind_of e.node)) + 1 + (size operands + size ways)) =
    ap (λ k. length (label_word n) + 1 + (length (kind_name (kind_of e.node)) + 1 + k)) (size_append operands ways) in
    omega (arith, line_size (label_word n) (kind_name (kind_of e.node) ∷ (operands ++ ways)), whole)

nodes_size : (count n : ℕ) (es : List Entry) → count ≤ 200 → n + length es ≤ 200 → ((k : ℕ) → k < length es → Sound count (entry_at es k)) → length (node_lines n es) ≤ 44 * length es
nodes_size count n [] few long good = omega arith
nodes_size count n (e ∷ es) few long good =
    let own = entry_size count n e few (omega arith) (good zero (omega arith)) in
    let others = nodes_size count (n + 1) es few (omega arith) (λ k h. good (suc k) (omega arith)) in
    omega (arith, length-append (line (entry_words n e)) (node_lines (n + 1) es))

trailer_size : (count first : ℕ) → count ≤ 200 → first < count → length (line (trailer_words count first)) ≤ 17
trailer_size count first few starts =
    omega (arith, line_size (codes "end") (decimal count ∷ codes "from" ∷ decimal first ∷ []), byte_size count (omega arith), byte_size first (omega arith))

pub printed_fits : (p : Prog) → IsProgram p → length (printed p) ≤ text_limit
printed_fits p good =
    let lines = nodes_size (length p.entries) 0 p.entries good.counted (omega (arith, good.counted)) good.sound in
    let trailer = trailer_size (length p.entries) p.first good.counted good.starts in
    omega (arith, length-append (node_lines 0 p.entries) (line (trailer_words (length p.entries) p.first)), good.counted)
