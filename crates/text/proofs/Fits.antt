-- An entry that fits the text, and one that is sound in a program.
use Rattle.std.proofs.Common.{◌≡◌, ℕ, ◌<◌, ◌≤◌, true, ◌&&◌, eqb, ltb, List, length, get_or, refl, ap, arith}
use Rattle.std.proofs.lemmas.Bool.{and_parts, and_from, ltb-true, lt-ltb, eqb-true}
use Rattle.machine.specs.Every.{Every, every_from_each}
use Rattle.machine.specs.declared.node.Entry.{Entry}
use Rattle.machine.specs.declared.node.Exits.{Exits}
use Rattle.machine.specs.declared.node.Exits.TheVariants as exits
use Rattle.machine.specs.declared.node.Node.{Node}
use Rattle.machine.specs.declared.node.Node.TheVariants.{Mov, Binary, In, Out, Ld, St, Br, Skip, Halt, Fail}
use Rattle.machine.specs.declared.node.Operand.{Operand}
use Rattle.machine.specs.declared.node.Operand.TheVariants.{Reg, Num}
use Rattle.machine.specs.Limits.{node_limit}
use Rattle.machine.specs.Programs.{Prog, IsProgram}
use Rattle.machine.specs.WellFormed.{is_register, is_cell, is_operand, is_node, exits_of, leads, Sound, blank, entry_at}
use Rattle.machine.proofs.Entries.{sound_parts, sound_from}
use Rattle.text.specs.Entries.{NodeFits, TargetsFit, EntryFits}
use Rattle.text.specs.Targets.{used_targets, TargetsBelow}
use Rattle.text.specs.WordReads.{OperandFits}
use Rattle.text.proofs.Spelled.{two}

register_fits : (r : ℕ) → is_register r ≡ true → r ≤ 7
register_fits r t = omega (arith, ltb-true r 8 t)

cell_fits : (c : ℕ) → is_cell c ≡ true → c ≤ 63
cell_fits c t = omega (arith, ltb-true c 64 t)

operand_fits : (x : Operand) → is_operand x ≡ true → OperandFits x
operand_fits (Reg r) t = register_fits r t
operand_fits (Num n) t = omega (arith, ltb-true n 4294967296 t)

pub node_fits : (n : Node) → is_node n ≡ true → NodeFits n
node_fits (Mov to from) t = let p = and_parts (is_register to) (is_operand from) t in (register_fits to p.0, operand_fits from p.1)
node_fits (Binary op to left right) t =
    let p = and_parts (is_register to) (is_operand left && is_operand right) t in
    let q = and_parts (is_operand left) (is_operand right) p.1 in
    (register_fits to p.0, operand_fits left q.0, operand_fits right q.1)
node_fits (In to) t = register_fits to t
node_fits (Out from) t = operand_fits from t
node_fits (Ld to cell) t = let p = and_parts (is_register to) (is_cell cell) t in (register_fits to p.0, cell_fits cell p.1)
node_fits (St cell from) t = let p = and_parts (is_cell cell) (is_operand from) t in (cell_fits cell p.0, operand_fits from p.1)
node_fits (Br on) t = operand_fits on t
node_fits Skip t = tt
node_fits Halt t = tt
node_fits (Fail fault) t = omega (arith, ltb-true fault 256 t)

register_is : (r : ℕ) → r ≤ 7 → is_register r ≡ true
register_is r h = lt-ltb r 8 (omega arith)

cell_is : (c : ℕ) → c ≤ 63 → is_cell c ≡ true
cell_is c h = lt-ltb c 64 (omega arith)

operand_is : (x : Operand) → OperandFits x → is_operand x ≡ true
operand_is (Reg r) h = register_is r h
operand_is (Num n) h = lt-ltb n 4294967296 (omega arith)

node_is : (n : Node) → NodeFits n → is_node n ≡ true
node_is (Mov to from) h = and_from (is_register to) (is_operand from) (register_is to h.0) (operand_is from h.1)
node_is (Binary op to left right) h =
    and_from (is_register to) (is_operand left && is_operand right) (register_is to h.0)
    (and_from (is_operand left) (is_operand right) (operand_is left h.1) (operand_is right h.2))
node_is (In to) h = register_is to h
node_is (Out from) h = operand_is from h
node_is (Ld to cell) h = and_from (is_register to) (is_cell cell) (register_is to h.0) (cell_is cell h.1)
node_is (St cell from) h = and_from (is_cell cell) (is_operand from) (cell_is cell h.0) (operand_is from h.1)
node_is (Br on) h = operand_is on h
node_is Skip h = refl
node_is Halt h = refl
node_is (Fail fault) h = lt-ltb fault 256 (omega arith)

module _ (count : ℕ) (few : count ≤ node_limit) where
  targets_fit : (x : Exits) (ts : List ℕ) → length ts ≡ 2 → leads count x ts ≡ true → TargetsFit x ts × Every (λ t. t < count) (used_targets x ts)
  targets_fit exits.None ts long t =
      let p = and_parts (eqb (get_or ts 0 0) 0) (eqb (get_or ts 1 0) 0) t in
      (two ts 0 0 long (eqb-true (get_or ts 0 0) 0 p.0) (eqb-true (get_or ts 1 0) 0 p.1), tt)
  targets_fit exits.One ts long t =
      let p = and_parts (ltb (get_or ts 0 0) count) (eqb (get_or ts 1 0) 0) t in
      let l = ltb-true (get_or ts 0 0) count p.0 in
      ((get_or ts 0 0, omega arith, two ts (get_or ts 0 0) 0 long refl (eqb-true (get_or ts 1 0) 0 p.1)), (l, tt))
  targets_fit exits.Two ts long t =
      let p = and_parts (ltb (get_or ts 0 0) count) (ltb (get_or ts 1 0) count) t in
      let l = ltb-true (get_or ts 0 0) count p.0 in
      let m = ltb-true (get_or ts 1 0) count p.1 in
      ((get_or ts 0 0, get_or ts 1 0, omega arith, omega arith, two ts (get_or ts 0 0) (get_or ts 1 0) long refl refl), (l, (m, tt)))

  pub entry_fits : (e : Entry) → Sound count e → EntryFits e
  entry_fits e good =
      let p = sound_parts count e good in
      (node_fits e.node p.node, (targets_fit (exits_of e.node) e.targets p.two p.leads).0)

  pub entry_below : (e : Entry) → Sound count e → TargetsBelow count e
  entry_below e good = let p = sound_parts count e good in (targets_fit (exits_of e.node) e.targets p.two p.leads).1

  targets_lead : (x : Exits) (ts : List ℕ) → TargetsFit x ts → Every (λ t. t < count) (used_targets x ts) → (length ts ≡ 2) × (leads count x ts ≡ true)
  targets_lead exits.None ts h below = (ap length h, rw h)
  targets_lead exits.One ts h below = (
    ap length h.2,
    and_from (ltb (get_or ts 0 0) count) (eqb (get_or ts 1 0) 0) (lt-ltb (get_or ts 0 0) count below.0) (ap (λ l. eqb (get_or l 1 0) 0) h.2),
  )
  targets_lead exits.Two ts h below = (
    ap length h.4,
    and_from (ltb (get_or ts 0 0) count) (ltb (get_or ts 1 0) count) (lt-ltb (get_or ts 0 0) count below.0) (lt-ltb (get_or ts 1 0) count below.1.0),
  )

  pub fits_sound : (e : Entry) → EntryFits e → TargetsBelow count e → Sound count e
  fits_sound e h below =
      let t = targets_lead (exits_of e.node) e.targets h.1 below in
      sound_from count e (record { node = node_is e.node h.0; two = t.0; leads = t.1 })

module _ (p : Prog) (ok : IsProgram p) where
  all_of : (P : Entry → Type 0) → ((e : Entry) → Sound (length p.entries) e → P e) → Every P p.entries
  all_of P h = every_from_each P p.entries blank (λ k below. h (entry_at p.entries k) (ok.sound k below))

  pub program_fits : Every EntryFits p.entries
  program_fits = all_of EntryFits (entry_fits (length p.entries) ok.counted)

  pub program_below : Every (TargetsBelow (length p.entries)) p.entries
  program_below = all_of (TargetsBelow (length p.entries)) (entry_below (length p.entries) ok.counted)
