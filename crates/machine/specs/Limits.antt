-- The machine's sizes. Each stands here once, and once in the code.
use Rattle.std.specs.Prelude.{ℕ}

-- the most nodes that a program can have
abbrev pub node_limit : ℕ
node_limit = 200

abbrev pub register_count : ℕ
register_count = 8

abbrev pub cell_count : ℕ
cell_count = 64

-- words are below this
abbrev pub word_limit : ℕ
word_limit = 4294967296

-- the largest budget of a run
abbrev pub budget_limit : ℕ
budget_limit = 1000000
