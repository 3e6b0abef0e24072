-- Sending targets past skips.
use Rattle.std.specs.Prelude.{◌≡◌, ℕ, zero, suc, ◌<◌, Bool, true, false, cond, List, [], ◌∷◌, map, length, Some, None, Option, slice_index}
use Rattle.std.specs.Option.{unwrap_or}
use Rattle.machine.specs.declared.node.Entry.{Entry}
use Rattle.machine.specs.declared.node.Exits.{Exits}
use Rattle.machine.specs.declared.node.Exits.TheVariants as exits
use Rattle.machine.specs.declared.node.Node.{Node}
use Rattle.machine.specs.declared.node.Node.TheVariants.{Mov, Binary, In, Out, Ld, St, Br, Skip, Halt, Fail}
use Rattle.machine.specs.Programs.{Prog, prog}
use Rattle.machine.specs.Runs.{entry_of}
use Rattle.machine.specs.WellFormed.{exits_of}

abbrev pub is_skip : Node → Bool
is_skip (Mov to from) = false
is_skip (Binary op to left right) = false
is_skip (In to) = false
is_skip (Out from) = false
is_skip (Ld to cell) = false
is_skip (St cell from) = false
is_skip (Br on) = false
is_skip Skip = true
is_skip Halt = false
is_skip (Fail fault) = false

-- where exit 0 of a node leads
abbrev pub following : Prog → ℕ → ℕ
following p n = slice_index (entry_of p n).targets 0

-- k skips lead from n to j, which is no skip
abbrev pub SkipsTo : Prog → ℕ → ℕ → ℕ → Type 0
SkipsTo p zero n j = (is_skip (entry_of p n).node ≡ false) × (n ≡ j)
SkipsTo p (suc k) n j = (is_skip (entry_of p n).node ≡ true) × SkipsTo p k (following p n) j

-- the first node from n on that is no skip, if fewer than `fuel` skips lead to it
unfoldable pub solid : Prog → ℕ → ℕ → Option ℕ
solid p zero n = None
solid p (suc fuel) n = cond (is_skip (entry_of p n).node) (solid p fuel (following p n)) (Some n)

-- the first node from n on that is no skip; none where skips only lead round in a ring
abbrev pub landing : Prog → ℕ → Option ℕ
landing p n = solid p (length p.entries) n

-- one or more skips lead from n to j
pub data Leads (p : Prog) : ℕ → ℕ → Type 0 where
  one : {n j : ℕ} → is_skip (entry_of p n).node ≡ true → following p n ≡ j → Leads p n j
  more : {n j : ℕ} → is_skip (entry_of p n).node ≡ true → Leads p (following p n) j → Leads p n j

-- where a target is sent: to the first node that is no skip, or, where skips only lead round in a ring, it stays
abbrev pub past : Prog → ℕ → ℕ
past p n = unwrap_or (landing p n) n

-- each target that there is goes where f sends it, and 0 stands in the place of the others
abbrev pub sent : (ℕ → ℕ) → Exits → List ℕ → List ℕ
sent f exits.None targets = 0 ∷ 0 ∷ []
sent f exits.One targets = f (slice_index targets 0) ∷ 0 ∷ []
sent f exits.Two targets = f (slice_index targets 0) ∷ f (slice_index targets 1) ∷ []

abbrev pub retargeted : (ℕ → ℕ) → Entry → Entry
retargeted f entry = record { node = entry.node; targets = sent f (exits_of entry.node) entry.targets }

abbrev pub with_targets : (ℕ → ℕ) → Prog → Prog
with_targets f p = prog (map (retargeted f) p.entries) (f p.first)

-- all targets and the first node are sent past skips
abbrev pub skipless : Prog → Prog
skipless p = with_targets (past p) p

-- a target is sent to the first node that is no skip, if there is one, however far; else it stays
pub record SendsPast (p : Prog) : Type 0 where
  pub first : (n k j : ℕ) → n < length p.entries → SkipsTo p k n j → past p n ≡ j
  pub ring : (n : ℕ) → n < length p.entries → ((k j : ℕ) → SkipsTo p k n j → ⊥) → past p n ≡ n
