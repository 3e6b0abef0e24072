-- What a derived `==` tells, from the fields up: whether two values are equal; and so at nodes.
use Rattle.std.proofs.Common.{◌≡◌, Bool, true, false, ◌&&◌, ◌⊎◌, Decides, sym, subst, refl, ap, ◌∙◌, ap₂, inl, inr, ⊎_elim, rules}
use denote.Enum.Bare.{same_true, true_same}
use Rattle.std.proofs.lemmas.Bool.Decides.{Decides-like, Decides-and, Decides-eqb}
use Rattle.machine.specs.contracts.node.Node as node
use Rattle.machine.specs.contracts.node.NodePartialEq.TheImpl as node_eq
use Rattle.machine.specs.contracts.node.Operand as operand
use Rattle.machine.specs.contracts.node.OperandPartialEq.TheImpl as operand_eq
use Rattle.machine.specs.contracts.node.BinaryOp.{the_type}
use Rattle.machine.specs.contracts.node.BinaryOpPartialEq.TheImpl as op_eq
use Rattle.machine.specs.declared.node.Node.{Node}

abbrev Tells : {K : Type 0} → (K → K → Bool) → Type 0
Tells {K} E = (x y : K) → Decides (E x y) (x ≡ y)

-- a variant with no field, with one, and with several, the first one and the others
none : Tells (λ (x y : Unit {0}). true)
none x y = (λ _. refl, λ _. refl)

one : {A : Type 0} {P : A → A → Bool} → Tells P → Tells (λ (x y : A × Unit {0}). P x.0 y.0)
one {P = P} p x y = Decides-like (P x.0 y.0) (λ e. ap (λ z. (z, tt)) e) (λ e. ap (λ z. z.0) e) (p x.0 y.0)

also : {A B : Type 0} {P : A → A → Bool} {Q : B → B → Bool} → Tells P → Tells Q → Tells (λ (x y : A × B). P x.0 y.0 && Q x.1 y.1)
also {P = P} {Q = Q} p q x y =
    Decides-like (P x.0 y.0 && Q x.1 y.1) (λ e. ap₂ (λ a b. (a, b)) e.0 e.1) (λ e. (ap (λ z. z.0) e, ap (λ z. z.1) e))
    (Decides-and (P x.0 y.0) (Q x.1 y.1) (p x.0 y.0) (q x.1 y.1))

-- the first variant, and the others
variant : {A B : Type 0} {P : A → A → Bool} {Q : B → B → Bool} → Tells P → Tells Q →
    Tells (λ (c d : A ⊎ B). ⊎_elim (λ x. ⊎_elim (λ y. P x y) (λ _. false) d) (λ x. ⊎_elim (λ _. false) (λ y. Q x y) d) c)
variant {P = P} p q (inl x) (inl y) = Decides-like (P x y) (λ e. ap inl e) (λ e. cc) (p x y)
variant p q (inl x) (inr y) = (λ e. cc, λ e. cc)
variant p q (inr x) (inl y) = (λ e. cc, λ e. cc)
variant {Q = Q} p q (inr x) (inr y) = Decides-like (Q x y) (λ e. ap inr e) (λ e. cc) (q x y)

void : Tells (λ (x y : ⊥). absurd x)
void x y = absurd x

-- an enum, by its variants
enum : {K J : Type 0} {E : J → J → Bool} (values : K → J) (make : J → K) → ((x : K) → make (values x) ≡ x) → Tells E →
    Tells (λ (x y : K). E (values x) (values y))
enum {E = E} values make eta t x y = Decides-like (E (values x) (values y)) (λ e. sym (eta x) ∙ ap make e ∙ eta y) (λ e. ap values e) (t (values x) (values y))

-- an enum with no field
ops : Tells (op_eq.ghosts).eq
ops x y = (same_true the_type (search rules) x y, true_same the_type x y)

operands : Tells (operand_eq.ghosts).eq
operands = enum operand.as_values operand.the_make operand.the_eta (variant (one Decides-eqb) (variant (one Decides-eqb) void))

every : Tells (node_eq.ghosts).eq
every =
    enum node.as_values node.the_make node.the_eta
    (variant (also Decides-eqb (one operands))
    (variant (also ops (also Decides-eqb (also operands (one operands))))
    (variant (one Decides-eqb)
    (variant (one operands)
    (variant (also Decides-eqb (one Decides-eqb))
    (variant (also Decides-eqb (one operands))
    (variant (one operands)
    (variant none
    (variant none
    (variant (one Decides-eqb) void))))))))))

pub nodes : (n m : Node) (r : Bool) → r ≡ (node_eq.ghosts).eq n m → Decides r (n ≡ m)
nodes n m r e = subst (λ t. Decides t (n ≡ m)) (sym e) (every n m)
