-- The exits that a node leaves by, and that those of a sound entry lead into the program.
use Rattle.std.proofs.Common.{◌≡◌, ℕ, ◌<◌, Bool, true, false, cond, eqb, ◌⊎◌, List, [], ◌∷◌, get_or, Some, None, Option, inl, inr}
use Rattle.std.proofs.lemmas.Bool.{and_parts, ltb-true}
use Rattle.machine.specs.declared.node.Node.{Node}
use Rattle.machine.specs.declared.node.Node.TheVariants.{Mov, Binary, In, Out, Ld, St, Br, Skip, Halt, Fail}
use Rattle.machine.specs.declared.node.Exits.{Exits}
use Rattle.machine.specs.declared.node.Exits.TheVariants as exits
use Rattle.machine.specs.declared.node.Entry.{Entry}
use Rattle.machine.specs.Arithmetic.{computed}
use Rattle.machine.specs.Exits.{Has}
use Rattle.machine.specs.State.{State, value}
use Rattle.machine.specs.Step.{act, leaves, keep, read_into}
use Rattle.machine.specs.WellFormed.{Sound, leads, exits_of}
use Rattle.machine.proofs.Entries.{sound_parts}

module _ (s t : State) (e : ℕ) where
  by_keep : (to : ℕ) (o : Option ℕ) → keep s to o ≡ leaves e t → e ≡ 0
  by_keep to (Some v) acts = cc
  by_keep to None acts = cc

  by_input : (to : ℕ) (l : List ℕ) → read_into s to l ≡ leaves e t → e ≡ 0
  by_input to [] acts = cc
  by_input to (x ∷ xs) acts = cc

  by_branch : (b : Bool) → leaves (cond b 1 0) s ≡ leaves e t → (e ≡ 0) ⊎ (e ≡ 1)
  by_branch true acts = inr (cc)
  by_branch false acts = inl (cc)

pub leaves_has : (node : Node) (s t : State) (e : ℕ) → act node s ≡ leaves e t → Has (exits_of node) e
leaves_has (Mov to from) s t e acts = cc
leaves_has (Binary op to left right) s t e acts = by_keep s t e to (computed op (value s.regs left) (value s.regs right)) acts
leaves_has (In to) s t e acts = by_input s t e to s.inputs acts
leaves_has (Out from) s t e acts = cc
leaves_has (Ld to cell) s t e acts = cc
leaves_has (St cell from) s t e acts = cc
leaves_has (Br on) s t e acts = by_branch s t e (eqb (value s.regs on) 0) acts
leaves_has Skip s t e acts = cc
leaves_has Halt s t e acts = cc
leaves_has (Fail fault) s t e acts = cc

-- the exits that there are lead into the program
pub leads_has : (count : ℕ) (x : Exits) (targets : List ℕ) (e : ℕ) → leads count x targets ≡ true → Has x e → get_or targets e 0 < count
leads_has count exits.None targets e good has = absurd has
leads_has count exits.One targets e good has = rw has (ltb-true _ _ (and_parts _ _ good).0)
leads_has count exits.Two targets e good (inl has) = rw has (ltb-true _ _ (and_parts _ _ good).0)
leads_has count exits.Two targets e good (inr has) = rw has (ltb-true _ _ (and_parts _ _ good).1)

pub exit_leads : (count : ℕ) (entry : Entry) (s t : State) (e : ℕ) → Sound count entry → act entry.node s ≡ leaves e t → get_or entry.targets e 0 < count
exit_leads count entry s t e good acts =
    leads_has count (exits_of entry.node) entry.targets e (sound_parts count entry good).leads (leaves_has entry.node s t e acts)
