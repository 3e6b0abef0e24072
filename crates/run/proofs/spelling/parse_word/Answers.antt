use Rattle.std.proofs.Common.{◌≡◌, get_or, sym, ◌∙◌, true≢false, lit<}
use Rattle.std.proofs.lemmas.Str.Pattern.{starts_char}
use Rattle.run.proofs.Written.{word_read}
use Rattle.run.proofs.spelling.parse_word.Goals as goal

pub returns : goal.returns
returns c =
    let plus = starts_char 43 c.args.text.now c.starts_with.result c.starts_with.ensures.cases (lit< tt) (lit< tt) in
    let unsigned : get_or c.args.text.now 0 0 ≡ 43 → ⊥ = λ e. true≢false (sym (plus.1 e) ∙ c.if-starts_with.false) in
    rw c.ok.ensures.value (word_read c.args.text.now c.parse.result c.parse.ensures.value.0 unsigned)
