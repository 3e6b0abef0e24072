use Rattle.std.proofs.Common.{◌≡◌, ℕ, ◌+◌, ◌/◌, ◌%◌, ◌^◌, ◌<◌, ◌≤◌, List, [], ◌∷◌, ◌++◌, decimal, length, ap, append_assoc, length-append, arith, ◌∙◌}
use Rattle.std.proofs.lemmas.Fmt.{decimal_digit, decimal_step}
use Rattle.printer.proofs.page.Page.+push_number.Goals as goal

abbrev last : ℕ → List ℕ
last n = (48 + n % 10) ∷ []

split : (n : ℕ) → 10 ≤ n → n < 2 ^ 32 → decimal n ≡ decimal (n / 10) ++ last n
split n ten small = decimal_step n ten (omega arith)

split_length : (n : ℕ) → 10 ≤ n → n < 2 ^ 32 → length (decimal n) ≡ length (decimal (n / 10)) + 1
split_length n ten small = ap length (split n ten small) ∙ length-append (decimal (n / 10)) (last n)

pub push-requires : goal.push-requires
push-requires t c = rw (decimal_digit c.args.n c.if-n-lt10.true) at c.requires

pub returns-then-n-lt10 : goal.returns-then-n-lt10
returns-then-n-lt10 t c = rw (decimal_digit c.args.n c.if-n-lt10.true) c.push.ensures

pub push_number-requires : goal.push_number-requires
push_number-requires t c = (omega arith, omega (arith, split_length c.args.n c.if-n-lt10.false (omega arith)))

pub push-requires-2 : goal.push-requires-2
push-requires-2 t c =
    omega (arith, split_length c.args.n c.if-n-lt10.false (omega arith), ap length c.push_number.ensures, length-append c.args.self.now (decimal (c.args.n / 10)))

pub returns : goal.returns
returns t c =
    rw (split c.args.n c.if-n-lt10.false (omega arith), c.push-2.ensures, c.push_number.ensures) (append_assoc c.args.self.now (decimal (c.args.n / 10)) (last c.args.n))
