-- What print answers.
use Rattle.std.specs.Prelude.{◌≡◌, ℕ, cond, List, ◌++◌, length, drop, Ok, Err, Result, nat_le}
use Rattle.printer.specs.declared.short_buffer.ShortBuffer.{ShortBuffer}

-- the text begins a buffer that is long enough, and the rest of it is as before; a shorter one is left as it was, and r tells the length due
pub record Printed (text before : List ℕ) (r : Result ℕ ShortBuffer) (after : List ℕ) : Type 0 where
  pub told : r ≡ cond (nat_le (length text) (length before)) (Ok (length text)) (Err (record { due = length text }))
  pub put : after ≡ cond (nat_le (length text) (length before)) (text ++ drop (length text) before) before
