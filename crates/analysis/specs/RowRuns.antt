-- Rows of nodes: how they run, and the form that they have.
use Rattle.std.specs.Prelude.{◌≡◌, ℕ, zero, suc, List, [], ◌∷◌, ◌++◌, ◌≢◌, refl}
use Rattle.std.proofs.Common.{sym, ap, subst, ◌∙◌, arith}
use Rattle.std.proofs.lemmas.Bool.{eqb-true}
use Rattle.machine.specs.declared.node.Exits.{Exits}
use Rattle.machine.specs.declared.node.Exits.TheVariants as exits
use Rattle.machine.specs.declared.node.Node.{Node}
use Rattle.machine.specs.declared.outcome.Ending.{Ending}
use Rattle.machine.specs.State.{State}
use Rattle.machine.specs.Step.{Effect, leaves, ends, act}
use Rattle.machine.specs.WellFormed.{exits_of}
use Rattle.machine.specs.Every.{Every}
use Rattle.analysis.specs.Deeps.{last_of}
use Rattle.analysis.specs.Rows.{onwards, run_row}
use Rattle.analysis.specs.Forms.{Last, FormedFrom, Formed}
use Rattle.analysis.specs.Outcomes.{Outcome, goes, turns, stops, does, onward, through, leaving, effect, does_by, ending_ends, straight_exit, node_effect, leaving_not_goes, same_effect}

-- ---- outcomes

abbrev pub NoTurn : Outcome → Type 0
NoTurn (goes t) = Unit {0}
NoTurn (turns e t) = ⊥
NoTurn (stops z t) = Unit {0}

pub turns_not_goes : {X : Type 0} (e : ℕ) (t u : State) → turns e t ≡ goes u → X
turns_not_goes e t u q = absurd (let never : ◌≡◌ {A = ℕ} 0 1 = cc in omega arith)

pub stops_not_goes : {X : Type 0} (z : Ending) (t u : State) → stops z t ≡ goes u → X
stops_not_goes z t u q = absurd (let never : ◌≡◌ {A = ℕ} 0 1 = cc in omega arith)

pub stops_not_turns : {X : Type 0} (z : Ending) (e : ℕ) (t u : State) → stops z t ≡ turns e u → X
stops_not_turns z e t u q = absurd (let never : ◌≡◌ {A = ℕ} 0 1 = cc in omega arith)

pub onward_goes : (o : Outcome) (k : State → Outcome) (t : State) → onward o k ≡ goes t → (u : State) × (o ≡ goes u) × (k u ≡ goes t)
onward_goes (goes u) k t q = (u, refl, q)
onward_goes (turns e u) k t q = turns_not_goes e u t q
onward_goes (stops z u) k t q = stops_not_goes z u t q

onward_onward : (o : Outcome) (h k l : State → Outcome) → ((t : State) → h t ≡ onward (k t) l) → onward o h ≡ onward (onward o k) l
onward_onward (goes t) h k l q = q t
onward_onward (turns e t) h k l q = refl
onward_onward (stops z t) h k l q = refl

pub onward_stays : (o : Outcome) → onward o (through []) ≡ o
onward_stays (goes t) = refl
onward_stays (turns e t) = refl
onward_stays (stops z t) = refl

-- where nothing turns, what leaves alike is alike
pub leaving_alike : (o p : Outcome) (way : ℕ) → NoTurn o → NoTurn p → leaving way o ≡ leaving way p → o ≡ p
leaving_alike (goes t) (goes u) way a b q = cc
leaving_alike (goes t) (turns e u) way a b q = absurd b
leaving_alike (goes t) (stops z u) way a b q = stops_not_turns z way u t (sym q)
leaving_alike (turns e t) p way a b q = absurd a
leaving_alike (stops z t) (goes u) way a b q = stops_not_turns z way t u q
leaving_alike (stops z t) (turns e u) way a b q = absurd b
leaving_alike (stops z t) (stops y u) way a b q = q

-- ---- single nodes

branch_no_straight : {X : Type 0} → exits.Two ≡ exits.One → X
branch_no_straight q = absurd (let never : ◌≡◌ {A = ℕ} 0 1 = cc in omega arith)

straight_no_branch : {X : Type 0} → exits.One ≡ exits.Two → X
straight_no_branch q = absurd (let never : ◌≡◌ {A = ℕ} 0 1 = cc in omega arith)

straight_no_ending : {X : Type 0} → exits.One ≡ exits.None → X
straight_no_ending q = absurd (let never : ◌≡◌ {A = ℕ} 0 1 = cc in omega arith)

ending_no_branch : {X : Type 0} → exits.None ≡ exits.Two → X
ending_no_branch q = absurd (let never : ◌≡◌ {A = ℕ} 0 1 = cc in omega arith)

branch_no_ending : {X : Type 0} → exits.Two ≡ exits.None → X
branch_no_ending q = absurd (let never : ◌≡◌ {A = ℕ} 0 1 = cc in omega arith)

pub straight_no_turn : (n : Node) (s : State) → exits_of n ≡ exits.One → NoTurn (does n s)
straight_no_turn n s k = go (act n s) refl
  where
    go : (f : Effect) → act n s ≡ f → NoTurn (does n s)
    go (leaves e t) q = subst NoTurn (sym (does_by n s exits.One (leaves e t) k q)) tt
    go (ends x t) q = subst NoTurn (sym (does_by n s exits.One (ends x t) k q)) tt

-- a branch leaves by its own exit, whatever the way
pub branch_exits : (n : Node) (s : State) (way : ℕ) → exits_of n ≡ exits.Two → leaving way (does n s) ≡ does n s
branch_exits n s way k = go (act n s) refl
  where
    go : (f : Effect) → act n s ≡ f → leaving way (does n s) ≡ does n s
    go (leaves e t) q = let d = does_by n s exits.Two (leaves e t) k q in ap (leaving way) d ∙ sym d
    go (ends x t) q = let d = does_by n s exits.Two (ends x t) k q in ap (leaving way) d ∙ sym d

pub ending_stops : (n : Node) (s : State) → exits_of n ≡ exits.None → (x : Ending) × (does n s ≡ stops x s)
ending_stops n s k = let h = ending_ends n s k in (h.0, does_by n s exits.None (ends h.0 s) k h.1)

-- ---- rows

pub through_append : (r q : List Node) (s : State) → through (r ++ q) s ≡ onward (through r s) (through q)
through_append [] q s = refl
through_append (n ∷ r) q s = onward_onward (does n s) (through (r ++ q)) (through r) (through q) (through_append r q)

abbrev pub IsStraight : Node → Type 0
IsStraight n = exits_of n ≡ exits.One

pub row_no_turn : (r : List Node) (s : State) → Every IsStraight r → NoTurn (through r s)
row_no_turn [] s h = tt
row_no_turn (n ∷ r) s h = go (does n s) (straight_no_turn n s h.0) (λ t. row_no_turn r t h.1)
  where
    go : (o : Outcome) → NoTurn o → ((t : State) → NoTurn (through r t)) → NoTurn (onward o (through r))
    go (goes t) a k = k t
    go (turns e t) a k = absurd a
    go (stops z t) a k = tt

-- the straight nodes of a row
abbrev pub led_by : Exits → Node → List Node → List Node
led_by exits.One n r = n ∷ r
led_by exits.Two n r = r
led_by exits.None n r = r

abbrev pub straights : List Node → List Node
straights [] = []
straights (n ∷ r) = led_by (exits_of n) n (straights r)

pub straights_append : (r q : List Node) → straights (r ++ q) ≡ straights r ++ straights q
straights_append [] q = refl
straights_append (n ∷ r) q = go (exits_of n) (straights_append r q)
  where
    go : (k : Exits) → straights (r ++ q) ≡ straights r ++ straights q → led_by k n (straights (r ++ q)) ≡ led_by k n (straights r) ++ straights q
    go exits.One e = ap (λ x. n ∷ x) e
    go exits.Two e = e
    go exits.None e = e

pub straights_all : (r : List Node) → Every IsStraight r → straights r ≡ r
straights_all [] h = refl
straights_all (n ∷ r) h = ap (λ k. led_by k n (straights r)) h.0 ∙ ap (λ x. n ∷ x) (straights_all r h.1)

pub straights_straight : (r : List Node) → Every IsStraight (straights r)
straights_straight [] = tt
straights_straight (n ∷ r) = go (exits_of n) refl (straights_straight r)
  where
    go : (k : Exits) → exits_of n ≡ k → Every IsStraight (straights r) → Every IsStraight (led_by k n (straights r))
    go exits.One e h = (e, h)
    go exits.Two e h = h
    go exits.None e h = h

-- ---- the form of a row

-- what stands before an entry is straight
pub formed_front : (k : Exits) (way : ℕ) (done : List Node) (n : Node) (rest : List Node) → Formed k way (done ++ (n ∷ rest)) → Every IsStraight done × FormedFrom k way n rest
formed_front k way [] n rest h = (tt, h)
formed_front k way (d ∷ done) n rest h = go d done h
  where
    go : (d : Node) (ds : List Node) → FormedFrom k way d (ds ++ (n ∷ rest)) → (IsStraight d × Every IsStraight ds) × FormedFrom k way n rest
    go d [] h = ((h.0, tt), h.1)
    go d (x ∷ ds) h = let r = go x ds h.1 in ((h.0, r.0), r.1)

pub formed_behind : (k : Exits) (way : ℕ) (done : List Node) (n : Node) (rest : List Node) → Every IsStraight done → FormedFrom k way n rest → Formed k way (done ++ (n ∷ rest))
formed_behind k way [] n rest a h = h
formed_behind k way (d ∷ done) n rest a h = go d done a
  where
    go : (d : Node) (ds : List Node) → IsStraight d × Every IsStraight ds → FormedFrom k way d (ds ++ (n ∷ rest))
    go d [] a = (a.0, h)
    go d (x ∷ ds) a = (a.0, go x ds a.1)

-- a row for a straight node is straight, way 0
pub straight_row : (way : ℕ) (row : List Node) → Formed exits.One way row → Every IsStraight row × (way ≡ 0)
straight_row way [] h = absurd h
straight_row way (n ∷ row) h = go n row h
  where
    only : (m : Node) (k : Exits) → exits_of m ≡ k → Last exits.One k way → IsStraight m × (way ≡ 0)
    only m exits.One e h = (e, eqb-true way 0 h)
    only m exits.Two e h = absurd (let never : ◌≡◌ {A = ℕ} 0 1 = cc in omega arith)
    only m exits.None e h = absurd (let never : ◌≡◌ {A = ℕ} 0 1 = cc in omega arith)

    go : (m : Node) (ms : List Node) → FormedFrom exits.One way m ms → (IsStraight m × Every IsStraight ms) × (way ≡ 0)
    go m [] h = let o = only m (exits_of m) refl h in ((o.0, tt), o.1)
    go m (x ∷ ms) h = let r = go x ms h.1 in ((h.0, r.0), r.1)

pub ending_row : (way : ℕ) (row : List Node) → Formed exits.None way row → way ≡ 0
ending_row way [] h = absurd h
ending_row way (n ∷ row) h = go n row h
  where
    only : (k : Exits) → Last exits.None k way → way ≡ 0
    only exits.One h = absurd (let never : ◌≡◌ {A = ℕ} 0 1 = cc in omega arith)
    only exits.Two h = absurd (let never : ◌≡◌ {A = ℕ} 0 1 = cc in omega arith)
    only exits.None h = eqb-true way 0 h

    go : (m : Node) (ms : List Node) → FormedFrom exits.None way m ms → way ≡ 0
    go m [] h = only (exits_of m) h
    go m (x ∷ ms) h = go x ms h.1

-- straight nodes in the place of a straight one
pub formed_straight : (k : Exits) (way : ℕ) (row : List Node) (n : Node) (rest : List Node) → Formed exits.One 0 row → IsStraight n → FormedFrom k way n rest → Formed k way (row ++ rest)
formed_straight k way [] n rest f e h = absurd f
formed_straight k way (r ∷ row) n rest f e h = go r row f
  where
    at : (m : Node) (rest : List Node) → IsStraight m → FormedFrom k way n rest → FormedFrom k way m rest
    at m [] a h = subst (λ x. Last k x way) (e ∙ sym a) h
    at m (x ∷ rest) a h = (a, h.1)

    go : (m : Node) (ms : List Node) → FormedFrom exits.One 0 m ms → FormedFrom k way m (ms ++ rest)
    go m [] f = at m rest (straight_row 0 (m ∷ []) f).0.0 h
    go m (x ∷ ms) f = (f.0, go x ms f.1)

-- ---- the last node of a row

-- a row that ends straight is straight throughout
pub last_straight : (k : Exits) (way : ℕ) (n : Node) (rest : List Node) → FormedFrom k way n rest → IsStraight (last_of n rest) → Every IsStraight (n ∷ rest)
last_straight k way n [] h e = (e, tt)
last_straight k way n (x ∷ rest) h e = (h.0, last_straight k way x rest h.1 e)

-- another row runs through its straight nodes, and then its last
pub last_other : (k : Exits) (way : ℕ) (n : Node) (rest : List Node) (s : State) → FormedFrom k way n rest → (exits_of (last_of n rest) ≢ exits.One)
    → through (n ∷ rest) s ≡ onward (through (straights (n ∷ rest)) s) (does (last_of n rest))
last_other k way n [] s h no-straight = onward_stays (does n s) ∙ go (exits_of n) refl
  where
    go : (j : Exits) → exits_of n ≡ j → does n s ≡ onward (through (led_by j n []) s) (does n)
    go exits.One e = absurd (no-straight e)
    go exits.Two e = refl
    go exits.None e = refl
last_other k way n (x ∷ rest) s h no-straight =
    onward_onward (does n s) (through (x ∷ rest)) (through (straights (x ∷ rest))) (does (last_of x rest)) (λ t. last_other k way x rest t h.1 no-straight)
    ∙ sym (ap (λ j. onward (through (led_by j n (straights (x ∷ rest))) s) (does (last_of x rest))) h.0)

-- ---- what a row does, as an effect

last_effect : (x : Exits) (way : ℕ) (n : Node) (s : State) → Last x (exits_of n) way → (k : Exits) → exits_of n ≡ k → (f : Effect) → act n s ≡ f
    → onwards (act n s) (run_row [] way) ≡ effect (leaving way (does n s))
last_effect x way n s h exits.None k f q =
    let e = ending_ends n s k in
    ap (λ g. onwards g (run_row [] way)) e.1 ∙ sym (ap (λ o. effect (leaving way o)) (does_by n s exits.None (ends e.0 s) k e.1))
last_effect x way n s h exits.One k (leaves e t) q =
    let z : act n s ≡ leaves 0 t = q ∙ ap (λ j. leaves j t) (straight_exit n s t e k q) in
    ap (λ g. onwards g (run_row [] way)) z ∙ sym (ap (λ o. effect (leaving way o)) (does_by n s exits.One (leaves 0 t) k z))
last_effect x way n s h exits.One k (ends y t) q =
    ap (λ g. onwards g (run_row [] way)) q ∙ sym (ap (λ o. effect (leaving way o)) (does_by n s exits.One (ends y t) k q))
last_effect x way n s h exits.Two k (leaves zero t) q =
    ap (λ g. onwards g (run_row [] way)) q ∙ ap (λ w. leaves w t) (branch_way x way (subst (λ y. Last x y way) k h))
    ∙ sym (ap (λ o. effect (leaving way o)) (does_by n s exits.Two (leaves 0 t) k q))
  where
    branch_way : (x : Exits) (way : ℕ) → Last x exits.Two way → way ≡ 0
    branch_way exits.None way h = absurd (let never : ◌≡◌ {A = ℕ} 0 1 = cc in omega arith)
    branch_way exits.One way h = absurd (let never : ◌≡◌ {A = ℕ} 0 1 = cc in omega arith)
    branch_way exits.Two way h = eqb-true way 0 h
last_effect x way n s h exits.Two k (leaves (suc e) t) q =
    ap (λ g. onwards g (run_row [] way)) q ∙ sym (ap (λ o. effect (leaving way o)) (does_by n s exits.Two (leaves (suc e) t) k q))
last_effect x way n s h exits.Two k (ends y t) q =
    ap (λ g. onwards g (run_row [] way)) q ∙ sym (ap (λ o. effect (leaving way o)) (does_by n s exits.Two (ends y t) k q))

pub row_effect : (x : Exits) (way : ℕ) (row : List Node) (s : State) → Formed x way row → run_row row way s ≡ effect (leaving way (through row s))
row_effect x way [] s f = absurd f
row_effect x way (n ∷ []) s f =
    last_effect x way n s f (exits_of n) refl (act n s) refl ∙ ap (λ o. effect (leaving way o)) (sym (onward_stays (does n s)))
row_effect x way (n ∷ m ∷ rest) s f = go (act n s) refl (λ t. row_effect x way (m ∷ rest) t f.1)
  where
    go : (g : Effect) → act n s ≡ g → ((t : State) → run_row (m ∷ rest) way t ≡ effect (leaving way (through (m ∷ rest) t)))
        → onwards (act n s) (run_row (m ∷ rest) way) ≡ effect (leaving way (onward (does n s) (through (m ∷ rest))))
    go (leaves e t) q ih =
        let z : act n s ≡ leaves 0 t = q ∙ ap (λ j. leaves j t) (straight_exit n s t e f.0 q) in
        ap (λ g. onwards g (run_row (m ∷ rest) way)) z ∙ ih t
        ∙ sym (ap (λ o. effect (leaving way (onward o (through (m ∷ rest))))) (does_by n s exits.One (leaves 0 t) f.0 z))
    go (ends y t) q ih =
        ap (λ g. onwards g (run_row (m ∷ rest) way)) q ∙ sym (ap (λ o. effect (leaving way (onward o (through (m ∷ rest))))) (does_by n s exits.One (ends y t) f.0 q))

-- a row acts as a node, told either way
pub acts_leaving : (x : Exits) (way : ℕ) (row : List Node) (n : Node) (s : State) → Formed x way row → act n s ≡ run_row row way s → leaving way (through row s) ≡ leaving 0 (does n s)
acts_leaving x way row n s f q =
    same_effect (leaving way (through row s)) (leaving 0 (does n s)) (leaving_not_goes way (through row s)) (leaving_not_goes 0 (does n s))
    (sym (row_effect x way row s f) ∙ sym q ∙ node_effect n s)

pub leaving_acts : (x : Exits) (way : ℕ) (row : List Node) (n : Node) (s : State) → Formed x way row → leaving way (through row s) ≡ leaving 0 (does n s) → act n s ≡ run_row row way s
leaving_acts x way row n s f q = node_effect n s ∙ ap effect (sym q) ∙ sym (row_effect x way row s f)
