-- A row of one node.
use Rattle.std.specs.Prelude.{◌≡◌, ℕ, zero, suc, true, ◌&&◌, [], ◌∷◌, refl}
use Rattle.std.proofs.Common.{ap, ◌∙◌}
use Rattle.machine.specs.declared.node.Exits.{Exits}
use Rattle.machine.specs.declared.node.Exits.TheVariants as exits
use Rattle.machine.specs.declared.node.Node.{Node}
use Rattle.machine.specs.State.{State}
use Rattle.machine.specs.Step.{Effect, leaves, ends, act}
use Rattle.machine.specs.WellFormed.{is_node, exits_of}
use Rattle.analysis.specs.Rows.{onwards, run_row, last_fits, set_fits, is_proposal}

last_same : (x : Exits) → last_fits x x 0 ≡ true
last_same exits.None = refl
last_same exits.One = refl
last_same exits.Two = refl

-- a node with the same exits may be proposed
pub one_fits : (n m : Node) (numbers : ℕ) → is_node m ≡ true → exits_of m ≡ exits_of n → set_fits numbers ≡ true → is_proposal n (m ∷ []) 0 numbers ≡ true
one_fits n m numbers h e k =
    ap (λ b. (b && last_fits (exits_of n) (exits_of m) 0) && set_fits numbers) h
    ∙ ap (λ x. last_fits (exits_of n) x 0 && set_fits numbers) e
    ∙ ap (λ b. b && set_fits numbers) (last_same (exits_of n))
    ∙ k

stays : (f : Effect) → onwards f (run_row [] 0) ≡ f
stays (leaves zero s) = refl
stays (leaves (suc e) s) = refl
stays (ends k s) = refl

-- and the row acts as the node in it
pub one_runs : (m : Node) (s : State) → run_row (m ∷ []) 0 s ≡ act m s
one_runs m s = stays (act m s)
