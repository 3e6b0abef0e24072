-- Effects told by whether a row goes on behind a node: a straight node goes on, a branch turns by an exit, and a run may stop.
use Rattle.std.specs.Prelude.{◌≡◌, ℕ, List, [], ◌∷◌, refl}
use Rattle.std.proofs.Common.{sym, ap, subst, ◌∙◌, arith}
use Rattle.machine.specs.declared.node.Exits.{Exits}
use Rattle.machine.specs.declared.node.Exits.TheVariants as exits
use Rattle.machine.specs.declared.node.Node.{Node}
use Rattle.machine.specs.declared.node.Node.TheVariants.{Mov, Binary, In, Out, Ld, St, Br, Skip, Halt, Fail}
use Rattle.machine.specs.declared.outcome.Ending.{Ending}
use Rattle.machine.specs.State.{State}
use Rattle.machine.specs.Step.{Effect, leaves, ends, act}
use Rattle.machine.specs.WellFormed.{exits_of}
use Rattle.machine.specs.Exits.{Has}
use Rattle.machine.proofs.Exits.{leaves_has}

pub data Outcome : Type 0 where
  goes : State → Outcome
  turns : ℕ → State → Outcome
  stops : Ending → State → Outcome

abbrev pub as_outcome : Exits → Effect → Outcome
as_outcome exits.None (leaves e t) = turns e t
as_outcome exits.None (ends k t) = stops k t
as_outcome exits.One (leaves e t) = goes t
as_outcome exits.One (ends k t) = stops k t
as_outcome exits.Two (leaves e t) = turns e t
as_outcome exits.Two (ends k t) = stops k t

unfoldable pub does : Node → State → Outcome
does n s = as_outcome (exits_of n) (act n s)

abbrev pub onward : Outcome → (State → Outcome) → Outcome
onward (goes t) k = k t
onward (turns e t) k = turns e t
onward (stops x t) k = stops x t

abbrev pub through : List Node → State → Outcome
through [] s = goes s
through (n ∷ rest) s = onward (does n s) (through rest)

-- what goes on leaves by the given way
abbrev pub leaving : ℕ → Outcome → Outcome
leaving way (goes t) = turns way t
leaving way (turns e t) = turns e t
leaving way (stops x t) = stops x t

abbrev pub effect : Outcome → Effect
effect (goes t) = leaves 0 t
effect (turns e t) = leaves e t
effect (stops x t) = ends x t

abbrev pub NotGoes : Outcome → Type 0
NotGoes (goes t) = ⊥
NotGoes (turns e t) = Unit {0}
NotGoes (stops x t) = Unit {0}

pub leaving_not_goes : (way : ℕ) (o : Outcome) → NotGoes (leaving way o)
leaving_not_goes way (goes t) = tt
leaving_not_goes way (turns e t) = tt
leaving_not_goes way (stops x t) = tt

pub same_effect : (o p : Outcome) → NotGoes o → NotGoes p → effect o ≡ effect p → o ≡ p
same_effect (goes t) p a b q = absurd a
same_effect (turns e t) (goes u) a b q = absurd b
same_effect (turns e t) (turns f u) a b q = cc
same_effect (turns e t) (stops x u) a b q = absurd (let z : ◌≡◌ {A = ℕ} 0 1 = cc in omega arith)
same_effect (stops x t) (goes u) a b q = absurd b
same_effect (stops x t) (turns f u) a b q = absurd (let z : ◌≡◌ {A = ℕ} 0 1 = cc in omega arith)
same_effect (stops x t) (stops y u) a b q = cc

pub straight_exit : (n : Node) (s t : State) (e : ℕ) → exits_of n ≡ exits.One → act n s ≡ leaves e t → e ≡ 0
straight_exit n s t e k q = subst (λ (x : Exits). Has x e) k (leaves_has n s t e q)

pub ending_ends : (n : Node) (s : State) → exits_of n ≡ exits.None → (x : Ending) × (act n s ≡ ends x s)
ending_ends (Mov to from) s k = absurd (let z : ◌≡◌ {A = ℕ} 0 1 = cc in omega arith)
ending_ends (Binary op to left right) s k = absurd (let z : ◌≡◌ {A = ℕ} 0 1 = cc in omega arith)
ending_ends (In to) s k = absurd (let z : ◌≡◌ {A = ℕ} 0 1 = cc in omega arith)
ending_ends (Out from) s k = absurd (let z : ◌≡◌ {A = ℕ} 0 1 = cc in omega arith)
ending_ends (Ld to cell) s k = absurd (let z : ◌≡◌ {A = ℕ} 0 1 = cc in omega arith)
ending_ends (St cell from) s k = absurd (let z : ◌≡◌ {A = ℕ} 0 1 = cc in omega arith)
ending_ends (Br on) s k = absurd (let z : ◌≡◌ {A = ℕ} 0 1 = cc in omega arith)
ending_ends Skip s k = absurd (let z : ◌≡◌ {A = ℕ} 0 1 = cc in omega arith)
ending_ends Halt s k = (_, refl)
ending_ends (Fail fault) s k = (_, refl)

-- what a node does, by its exits
pub does_by : (n : Node) (s : State) (x : Exits) (f : Effect) → exits_of n ≡ x → act n s ≡ f → does n s ≡ as_outcome x f
unfolding does
does_by n s x f k q = ap (λ y. as_outcome y (act n s)) k ∙ ap (as_outcome x) q

pub node_effect : (n : Node) (s : State) → act n s ≡ effect (leaving 0 (does n s))
node_effect n s = go (exits_of n) (act n s) refl refl
  where
    go : (x : Exits) (f : Effect) → exits_of n ≡ x → act n s ≡ f → act n s ≡ effect (leaving 0 (does n s))
    go exits.None (leaves e t) k q = q ∙ sym (ap (λ o. effect (leaving 0 o)) (does_by n s exits.None (leaves e t) k q))
    go exits.None (ends x t) k q = q ∙ sym (ap (λ o. effect (leaving 0 o)) (does_by n s exits.None (ends x t) k q))
    go exits.One (leaves e t) k q =
        q ∙ ap (λ j. leaves j t) (straight_exit n s t e k q) ∙ sym (ap (λ o. effect (leaving 0 o)) (does_by n s exits.One (leaves e t) k q))
    go exits.One (ends x t) k q = q ∙ sym (ap (λ o. effect (leaving 0 o)) (does_by n s exits.One (ends x t) k q))
    go exits.Two (leaves e t) k q = q ∙ sym (ap (λ o. effect (leaving 0 o)) (does_by n s exits.Two (leaves e t) k q))
    go exits.Two (ends x t) k q = q ∙ sym (ap (λ o. effect (leaving 0 o)) (does_by n s exits.Two (ends x t) k q))

-- leaving by an exit, told either way
pub leaves_turns : (n : Node) (s t : State) (e : ℕ) → act n s ≡ leaves e t → leaving 0 (does n s) ≡ turns e t
leaves_turns n s t e q = same_effect (leaving 0 (does n s)) (turns e t) (leaving_not_goes 0 (does n s)) tt (sym (node_effect n s) ∙ q)

pub turns_leaves : (n : Node) (s t : State) (e : ℕ) → leaving 0 (does n s) ≡ turns e t → act n s ≡ leaves e t
turns_leaves n s t e q = node_effect n s ∙ ap effect q
