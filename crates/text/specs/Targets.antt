-- The targets of nodes, and the first that names no node.
use Rattle.std.specs.Prelude.{ℕ, ◌+◌, ◌<◌, cond, List, [], ◌∷◌, length, Some, None, Option, nat_lt, slice_index}
use Rattle.machine.specs.Every.{Every}
use Rattle.machine.specs.declared.node.Entry.{Entry}
use Rattle.machine.specs.declared.node.Exits.{Exits}
use Rattle.machine.specs.declared.node.Exits.TheVariants as exits
use Rattle.machine.specs.WellFormed.{exits_of}
use Rattle.text.specs.Print.{operand_words}

-- the targets of the exits that there are
abbrev pub used_targets : Exits → List ℕ → List ℕ
used_targets exits.None ts = []
used_targets exits.One ts = slice_index ts 0 ∷ []
used_targets exits.Two ts = slice_index ts 0 ∷ slice_index ts 1 ∷ []

abbrev pub TargetsBelow : ℕ → Entry → Type 0
TargetsBelow count e = Every (λ t. t < count) (used_targets (exits_of e.node) e.targets)

-- the place in a list, counted from `at`, of the first number that is not below `count`
abbrev pub first_not_below : ℕ → ℕ → List ℕ → Option ℕ
first_not_below count at [] = None
first_not_below count at (t ∷ ts) = cond (nat_lt t count) (first_not_below count (at + 1) ts) (Some at)

-- the word of an entry's line that names no node: the targets follow label, kind, operands and arrow
abbrev pub bad_target : ℕ → Entry → Option ℕ
bad_target count e = first_not_below count (length (operand_words e.node) + 4) (used_targets (exits_of e.node) e.targets)

abbrev pub on_entry : ℕ → Option ℕ → Option (ℕ × ℕ) → Option (ℕ × ℕ)
on_entry n None more = more
on_entry n (Some w) more = Some (n + 1, w)

-- the line and the word of the first target that names no node, for the entries from number n on
abbrev pub bad_targets : ℕ → ℕ → List Entry → Option (ℕ × ℕ)
bad_targets count n [] = None
bad_targets count n (e ∷ es) = on_entry n (bad_target count e) (bad_targets count (n + 1) es)
