-- The first fault of a whole text: its number, its line and its word.
use Rattle.std.specs.Prelude.{ℕ, ◌+◌, ◌-◌, Bool, cond, ◌&&◌, List, [], ◌∷◌, ◌++◌, length, Some, None, codes, decimal, Option, ◌==◌, nat_lt, slice_index_or}
use Rattle.std.specs.Str.{bytes_eq}
use Rattle.text.specs.declared.refusal.TextRefusal.{TextRefusal}
use Rattle.text.specs.Causes.{cause_number}
use Rattle.text.specs.Cuts.{parts}
use Rattle.text.specs.Numbers.{value_of}
use Rattle.text.specs.Limits.{text_limit}
use Rattle.text.specs.Rows.{Due, exactly, label, name, register, cell, value, fault, count, target, word_fault, row_fault, node_dues}

-- a refusal's number, line and word
abbrev pub Place : Type 0
Place = ℕ × ℕ × ℕ

abbrev pub refusal_told : TextRefusal → Place
refusal_told f = (cause_number f.cause, f.line, f.word)

-- what is printed of a refusal
abbrev pub refusal_text : TextRefusal → List ℕ
refusal_text f = codes "refused " ++ decimal (cause_number f.cause) ++ codes " line " ++ decimal f.line ++ codes " word " ++ decimal f.word

abbrev pub words : List ℕ → List (List ℕ)
words l = parts 32 l

abbrev pub is_trailer : List ℕ → Bool
is_trailer l = bytes_eq (slice_index_or (words l) 0 []) (codes "end")

abbrev pub trailer_dues : List Due
trailer_dues = exactly (codes "end") ∷ count ∷ exactly (codes "from") ∷ target ∷ []

-- what is due in a line that stands below `next` nodes
abbrev pub line_dues : ℕ → List ℕ → List Due
line_dues next l = cond (is_trailer l) trailer_dues (node_dues next (words l))

-- a fault of the line n, or else what is wrong further on
abbrev pub on_line : ℕ → Option (ℕ × ℕ) → Option Place → Option Place
on_line n None more = more
on_line n (Some f) more = Some (f.0, n, f.1)

-- of the lines that are left, none but what stands after the last line feed, and that is empty
abbrev pub nothing_left : List (List ℕ) → Bool
nothing_left ls = length ls == 1 && length (slice_index_or ls 0 []) == 0

-- nothing stands below the trailer, and it tells the number of nodes above it, which is not 0
abbrev pub trailer_fault : ℕ → List ℕ → List (List ℕ) → Option Place
trailer_fault next l rest =
    cond (nothing_left rest)
    (cond (nat_lt 0 next && value_of (slice_index_or (words l) 1 []) == next) None (Some (6, next + 1, 2)))
    (Some (6, next + 2, 0))

-- the lines below `next` nodes, through the trailer; the last part is what stands after the last line feed
abbrev pub lines_fault : ℕ → List (List ℕ) → Option Place
lines_fault next [] = Some (6, next + 1, 0)
lines_fault next (l ∷ []) = Some (cond (length l == 0) 6 2, next + 1, 0)
lines_fault next (l ∷ m ∷ ls) =
    on_line (next + 1) (row_fault word_fault (line_dues next l) 1 (words l)) (cond (is_trailer l) (trailer_fault next l (m ∷ ls)) (lines_fault (next + 1) (m ∷ ls)))

-- a target or first node that is not below n
abbrev pub target_fault : ℕ → Due → List ℕ → Option ℕ
target_fault n (exactly v) w = None
target_fault n (label next) w = None
target_fault n name w = None
target_fault n register w = None
target_fault n cell w = None
target_fault n value w = None
target_fault n fault w = None
target_fault n count w = None
target_fault n target w = cond (nat_lt (value_of w) n) None (Some 7)

-- the first such of the lines below `next` nodes: each target in its line, and last the first node in the trailer
abbrev pub targets_fault : ℕ → ℕ → List (List ℕ) → Option Place
targets_fault n next [] = None
targets_fault n next (l ∷ []) = None
targets_fault n next (l ∷ m ∷ ls) = on_line (next + 1) (row_fault (target_fault n) (line_dues next l) 1 (words l)) (targets_fault n (next + 1) (m ∷ ls))

-- the first of two faults
abbrev pub either : Option Place → Option Place → Option Place
either None g = g
either (Some f) g = Some f

-- a text that is too long, or else the first fault of its lines, or else a target that names none of its nodes;
-- the parts of a text are its lines and what stands after the last line feed, so a text without fault has two more than nodes
abbrev pub text_fault : List ℕ → Option Place
text_fault text =
    cond (nat_lt text_limit (length text)) (Some (1, 0, 0))
    (either (lines_fault 0 (parts 10 text)) (targets_fault (length (parts 10 text) - 2) 0 (parts 10 text)))
