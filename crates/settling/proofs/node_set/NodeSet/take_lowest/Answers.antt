use Rattle.std.proofs.Common.{ℕ, ◌+◌, ◌-◌, ◌*◌, ◌^◌, ◌<◌, false, List, get_or, set, sym, ap, ◌∙◌, arith}
use lib.Bits.{bit_and}
use lib.Count.{count_trailing_zeros}
use Rattle.settling.specs.NodeSets.{bits_of}
use Rattle.settling.proofs.NodeSetLaws.{and_clears, found_at, set_word, trailing_below}
use Rattle.settling.proofs.node_set.NodeSet.take_lowest.Goals as goal

pub returns-then-word-ne0 : goal.returns-then-word-ne0
returns-then-word-ne0 c =
    let words = c.loop-i.word-items in
    let i = c.loop-i.i in
    let word = get_or words i 0 in
    let bit = count_trailing_zeros 64 word in
    let some : 0 < word = omega (arith, c.if-word-ne0.true) in
    let fits : word < 2 ^ 64 = omega arith in
    record {
      value = sym (found_at words i (omega arith) some fits) ∙ c.loop-i.invariant.1;
      after =
          set_word words i bit (bit_and word (word - 1)) false (omega arith) (trailing_below 64 word some fits) (and_clears 64 word)
          ∙ ap (λ (l : List ℕ). set (bits_of l) (64 * i + bit) false) c.loop-i.invariant.0;
    }
