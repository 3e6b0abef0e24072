-- The limits of the text. Each stands here once, and once in the code.
use Rattle.std.specs.Prelude.{ℕ}

-- the most bytes of a text
abbrev pub text_limit : ℕ
text_limit = 9216

-- the largest number of a label, a target, a count of nodes or a first node
abbrev pub node_number_limit : ℕ
node_number_limit = 255

abbrev pub fault_limit : ℕ
fault_limit = 255
