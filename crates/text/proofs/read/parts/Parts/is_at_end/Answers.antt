use Rattle.std.proofs.Common.{◌≡◌, MatchOption, false, eqb, length, rules}
use Rattle.text.proofs.LineEnds.{at_end}
use Rattle.text.proofs.read.parts.Parts.is_at_end.Goals as goal

pub returns : goal.returns
returns c =
    let h : MatchOption c.args.self.now.rest (c.is_some_and.result ≡ false) (λ t. c.is_some_and.result ≡ eqb (length t.now) 0) = search rules in
    at_end c.args.self.now.sep c.args.self.now.rest c.is_some_and.result h
