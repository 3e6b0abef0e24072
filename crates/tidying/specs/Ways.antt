-- What is known so far of where skips lead.
use Rattle.std.specs.Prelude.{◌≡◌, ℕ, List, length, Some, None, Option, slice_index_or}
use Rattle.machine.specs.Programs.{Prog}
use Rattle.tidying.specs.declared.ways.Way.{Way}
use Rattle.tidying.specs.declared.ways.Way.TheVariants.{Unknown, Walking, To, Ring}
use Rattle.tidying.specs.Skips.{Leads, landing}

abbrev pub way_of : List Way → ℕ → Way
way_of ways n = slice_index_or ways n Unknown

-- what is put down once it is found where the skips lead
abbrev pub way_found : Option ℕ → Way
way_found (Some j) = To j
way_found None = Ring

-- what a way says of node k, where the walk stands at node n
abbrev pub Says : Prog → ℕ → ℕ → Way → Type 0
Says p n k Unknown = Unit {0}
Says p n k Walking = Leads p k n
Says p n k (To j) = landing p k ≡ Some j
Says p n k Ring = landing p k ≡ None

-- every node's way is right, and skips lead from the nodes of the walk to n
pub record Right (p : Prog) (n : ℕ) (ways : List Way) : Type 0 where
  pub each : length ways ≡ length p.entries
  pub says : (k : ℕ) → Says p n k (way_of ways k)

-- a walk leaves no node behind that it was on
abbrev pub Left : List Way → List Way → Type 0
Left before after = (k : ℕ) → way_of after k ≡ Walking → way_of before k ≡ Walking
