use Rattle.std.proofs.Common.{◌≡◌, ℕ, ◌*◌, ◌/◌, ◌%◌, ◌^◌, true, get_or, set, ap, ◌∙◌, arith}
use lib.Bits.{bit_or}
use Rattle.std.proofs.lemmas.Nat.{one_shl}
use Rattle.settling.specs.NodeSets.{bits, bits_of}
use Rattle.settling.proofs.NodeSetLaws.{or_sets, set_word}
use Rattle.settling.proofs.node_set.NodeSet.insert.Goals as goal

pub returns : goal.returns
returns c =
    let words = c.args.self.now.words in
    let number = c.args.number in
    let word = get_or words (number / 64) 0 in
    let mask = 1 * 2 ^ (number % 64) % 2 ^ 64 in
    let is_set : bits 64 (bit_or word mask) ≡ set (bits 64 word) (number % 64) true =
    ap (λ (x : ℕ). bits 64 (bit_or word x)) (one_shl (number % 64) 64 (omega arith)) ∙ or_sets 64 (number % 64) word (omega arith) in
    set_word words (number / 64) (number % 64) (bit_or word mask) true (omega arith) (omega arith) is_set
    ∙ ap (λ (x : ℕ). set (bits_of words) x true) (omega arith)
