-- Deep shows all that is asked if its part does.
use Rattle.std.specs.Prelude.{◌≡◌, ℕ, zero, suc, ◌+◌, ◌%◌, ◌^◌, ◌<◌, ◌≤◌, Bool, true, false, cond, List, [], ◌∷◌, ◌++◌, length, ◌==◌, ◌≢◌, bit_or, nat_eq, nat_le, refl}
use Rattle.std.proofs.Common.{sym, ap, subst, ◌∙◌, append-nil, append_assoc, arith, length-append}
use Rattle.std.proofs.lemmas.Nat.{or_lt, and_le_l}
use Rattle.std.specs.Int.Bits.{or_step, or_add_and}
use Rattle.std.proofs.lemmas.Bool.{eqb-true}
use Rattle.std.proofs.lemmas.Bool.Decides.{nat_tests}
use Rattle.machine.specs.declared.node.Exits.{Exits}
use Rattle.machine.specs.declared.node.Exits.TheVariants as exits
use Rattle.machine.specs.declared.node.Node.{Node}
use Rattle.machine.specs.declared.node.Node.TheVariants.{Skip}
use Rattle.machine.specs.State.{State, Valid}
use Rattle.machine.specs.Step.{Effect, leaves, act}
use Rattle.machine.specs.WellFormed.{exits_of}
use Rattle.machine.proofs.Validity.{state_after, stays_valid}
use Rattle.analysis.specs.Analyses.{MovesOf, MovesShow, Proposed, absent, instead, ProposalShows}
use Rattle.analysis.specs.Deeps.{Course, kept, fact_past, taken_up, way_after, each, tried, looked, begun, course, last_of, fact_by, deep_moves, depth_limit}
use Rattle.machine.specs.Every.{Every, every_append, every_split}
use Rattle.analysis.specs.Facts.{FactsOf, state}
use Rattle.analysis.specs.Rows.{row_limit}
use Rattle.analysis.specs.Forms.{Proper, Last, FormedFrom, Formed, RowFor, row_for, for_row}
use Rattle.analysis.specs.Outcomes.{Outcome, goes, turns, stops, does, onward, through, leaving, effect, node_effect, leaves_turns, turns_leaves}
use Rattle.analysis.specs.RowRuns.{NoTurn, IsStraight, stops_not_turns, onward_goes, onward_stays, leaving_alike, straight_no_turn, branch_exits, ending_stops, through_append, row_no_turn, straights, led_by, straights_append, straights_all, straights_straight, formed_front, formed_behind, straight_row, ending_row, formed_straight, last_straight, last_other, acts_leaving, leaving_acts}

-- what an analysis shows, told of outcomes
abbrev Shows : {F : Type 0} → FactsOf F → F → Node → Proposed → Type 0
Shows v f n absent = Unit {0}
Shows v f n (instead row way numbers) =
    RowFor n row way numbers × ((s : State) → Valid s → v.allows f (state s) → leaving way (through row s) ≡ leaving 0 (does n s))

shows_of : {F : Type 0} (v : FactsOf F) (f : F) (n : Node) (p : Proposed) → ProposalShows v f n p → Shows v f n p
shows_of v f n absent h = tt
shows_of v f n (instead row way numbers) h =
    let r = row_for n row way numbers h.0 in
    (r, λ s ok a. acts_leaving (exits_of n) way row n s r.formed (h.1 s ok a))

module _ {F : Type 0} {v : FactsOf F} {m : MovesOf F} (sound : MovesShow v m) where
  flowed : (f : F) (n : Node) (e : ℕ) → Proper n → (s t : State) → Valid s → v.allows f (state s) → leaving 0 (does n s) ≡ turns e t → v.allows (m.flow f n e) (state t)
  flowed f n e p s t ok a l = sound.flow f n e p s t ok a (turns_leaves n s t e l)

  offered : (f : F) (n : Node) → Proper n → Shows v f n (m.proposal f n)
  offered f n p = shows_of v f n (m.proposal f n) (sound.proposal f n p)

-- a node of the machine goes on from a valid state to a valid one
goes_valid : (n : Node) (s t : State) → Proper n → Valid s → does n s ≡ goes t → Valid t
goes_valid n s t p ok q =
    let left : act n s ≡ leaves 0 t = node_effect n s ∙ ap (λ o. effect (leaving 0 o)) q in
    subst (λ (f : Effect). Valid (state_after f)) left (stays_valid n s p ok)

-- the sets so far: nonempty once something was replaced
pub record Numbers (replaced : Bool) (numbers : ℕ) : Type 0 where
  pub some : replaced ≡ true → 0 < numbers
  pub known : numbers < 2 ^ 16
  pub even : numbers % 2 ≡ 0

union : (b : Bool) (x y : ℕ) → Numbers b x → 0 < y → y < 2 ^ 16 → y % 2 ≡ 0 → Numbers true (bit_or x y)
union b x y h some known even = record {
  some = λ _. omega (arith, or_add_and x y, and_le_l x y);
  known = or_lt 16 x y h.known known;
  even = omega (arith, or_step x y, h.even);
}

-- a branch or an ending is the last of its row
alone : (k : Exits) (way : ℕ) (n : Node) (rest : List Node) → FormedFrom k way n rest → (IsStraight n → ⊥) → rest ≡ []
alone k way n [] h no-straight = refl
alone k way n (x ∷ rest) h no-straight = absurd (no-straight h.0)

last_form : (k : Exits) (way : ℕ) (n : Node) (rest : List Node) → FormedFrom k way n rest → (j : Exits) → exits_of n ≡ j → (IsStraight n → ⊥) → Last k j way
last_form k way n [] h j e no-straight = subst (λ x. Last k x way) e h
last_form k way n (x ∷ rest) h j e no-straight = absurd (no-straight h.0)

branch_last : (k : Exits) (way : ℕ) → Last k exits.Two way → k ≡ exits.Two
branch_last exits.One way h = absurd (let never : ◌≡◌ {A = ℕ} 0 1 = cc in omega arith)
branch_last exits.Two way h = refl
branch_last exits.None way h = absurd (let never : ◌≡◌ {A = ℕ} 0 1 = cc in omega arith)

ending_last : (k : Exits) (way : ℕ) → Last k exits.None way → (k ≡ exits.None) × (way ≡ 0)
ending_last exits.One way h = absurd (let never : ◌≡◌ {A = ℕ} 0 1 = cc in omega arith)
ending_last exits.Two way h = absurd (let never : ◌≡◌ {A = ℕ} 0 1 = cc in omega arith)
ending_last exits.None way h = (refl, eqb-true way 0 h)

branch_not_straight : (k : Exits) → k ≡ exits.Two → k ≢ exits.One
branch_not_straight k e q = let never : ◌≡◌ {A = ℕ} 0 1 = cc in omega arith

ending_not_straight : (k : Exits) → k ≡ exits.None → k ≢ exits.One
ending_not_straight k e q = let never : ◌≡◌ {A = ℕ} 0 1 = cc in omega arith

formed_after : (k : Exits) (way : ℕ) (done q : List Node) → Every IsStraight done → Formed k way q → Formed k way (done ++ q)
formed_after k way done [] a h = absurd h
formed_after k way done (n ∷ rest) a h = formed_behind k way done n rest a h

-- a proposed row in the place of an entry, from a state in which it acts as that entry
module _ (k : Exits) (old : ℕ) (n : Node) (rest row : List Node) (new : ℕ) (form : FormedFrom k old n rest) where
  same_run : (j : Exits) → exits_of n ≡ j → Formed j new row → (u : State) → leaving new (through row u) ≡ leaving 0 (does n u)
      → leaving (way_after j old new) (through (row ++ rest) u) ≡ leaving old (through (n ∷ rest) u)
  same_run exits.One e f u acts =
      let r = straight_row new row f in
      let alike : leaving 0 (through row u) ≡ leaving 0 (does n u) = subst (λ w. leaving w (through row u) ≡ leaving 0 (does n u)) r.1 acts in
      let one = leaving_alike (through row u) (does n u) 0 (row_no_turn row u r.0) (straight_no_turn n u e) alike in
      ap (leaving old) (through_append row rest u ∙ ap (λ o. onward o (through rest)) one)
  same_run exits.Two e f u acts =
      let last = alone k old n rest form (branch_not_straight (exits_of n) e) in
      ap (λ q. leaving new (through (row ++ q) u)) last
      ∙ ap (λ q. leaving new (through q u)) (append-nil row)
      ∙ acts
      ∙ branch_exits n u 0 e
      ∙ sym (branch_exits n u old e)
      ∙ ap (leaving old) (sym (onward_stays (does n u)))
      ∙ sym (ap (λ q. leaving old (through (n ∷ q) u)) last)
  same_run exits.None e f u acts =
      let last = alone k old n rest form (ending_not_straight (exits_of n) e) in
      let ways = (ending_last k old (last_form k old n rest form exits.None e (ending_not_straight (exits_of n) e))).1 ∙ sym (ending_row new row f) in
      ap (λ q. leaving old (through (row ++ q) u)) last
      ∙ ap (λ q. leaving old (through q u)) (append-nil row)
      ∙ ap (λ w. leaving w (through row u)) ways
      ∙ acts
      ∙ ap (λ w. leaving w (does n u)) (sym (ending_row new row f) ∙ sym ways)
      ∙ ap (leaving old) (sym (onward_stays (does n u)))
      ∙ sym (ap (λ q. leaving old (through (n ∷ q) u)) last)

  at_end : (way : ℕ) → rest ≡ [] → Formed k way row → Formed k way (row ++ rest)
  at_end way last f = subst (Formed k way) (sym (append-nil row) ∙ ap (λ q. row ++ q) (sym last)) f

  same_form : (j : Exits) → exits_of n ≡ j → Formed j new row → Formed k (way_after j old new) (row ++ rest)
  same_form exits.One e f = formed_straight k old row n rest (subst (λ w. Formed exits.One w row) (straight_row new row f).1 f) e form
  same_form exits.Two e f =
      let kind = branch_last k old (last_form k old n rest form exits.Two e (branch_not_straight (exits_of n) e)) in
      at_end new (alone k old n rest form (branch_not_straight (exits_of n) e)) (subst (λ x. Formed x new row) (sym kind) f)
  same_form exits.None e f =
      let ends = ending_last k old (last_form k old n rest form exits.None e (ending_not_straight (exits_of n) e)) in
      let way = ending_row new row f ∙ sym ends.1 in
      at_end old (alone k old n rest form (ending_not_straight (exits_of n) e)) (subst (λ w. Formed k w row) way (subst (λ x. Formed x new row) (sym ends.0) f))

module _ {F : Type 0} {v : FactsOf F} {m : MovesOf F} (sound : MovesShow v m) (f₀ : F) (n₀ : Node) where
  -- the finished nodes and those that wait act as the node from each state of the fact, and have the form for it
  pub record Good (c : Course F) (rest : List Node) : Type 0 where
    pub acts : (s : State) → Valid s → v.allows f₀ (state s) → leaving c.way (through (c.done ++ rest) s) ≡ leaving 0 (does n₀ s)
    pub formed : Formed (exits_of n₀) c.way (c.done ++ rest)
    pub proper : Every Proper (c.done ++ rest)
    pub short : length (c.done ++ rest) ≤ 4
    pub reaches : (s t : State) → Valid s → v.allows f₀ (state s) → through (straights c.done) s ≡ goes t → Valid t × v.allows c.fact (state t)
    pub numbers : Numbers c.replaced c.numbers

  kept_good : (n : Node) (rest : List Node) (c : Course F) → Good c (n ∷ rest) → Good (kept m n c) rest
  kept_good n rest c h =
      let one : c.done ++ (n ∷ rest) ≡ (c.done ++ (n ∷ [])) ++ rest = sym (append_assoc c.done (n ∷ []) rest) in
      record {
        acts = λ s ok a. subst (λ q. leaving c.way (through q s) ≡ leaving 0 (does n₀ s)) one (h.acts s ok a);
        formed = subst (Formed (exits_of n₀) c.way) one h.formed;
        proper = subst (Every Proper) one h.proper;
        short = subst (λ q. length q ≤ 4) one h.short;
        reaches = λ s t ok a e. past (exits_of n) refl s t ok a (sym (ap (λ q. through q s) (straights_append c.done (n ∷ []))) ∙ e);
        numbers = h.numbers;
      }
    where
      past : (k : Exits) → exits_of n ≡ k → (s t : State) → Valid s → v.allows f₀ (state s) → through (straights c.done ++ led_by k n []) s ≡ goes t → Valid t × v.allows (fact_past m k c.fact n) (state t)
      past exits.One e s t ok a q =
          let r = onward_goes (through (straights c.done) s) (through (n ∷ [])) t (sym (through_append (straights c.done) (n ∷ []) s) ∙ q) in
          let proper = (every_split Proper c.done (n ∷ rest) h.proper).1.0 in
          let reached = h.reaches s r.0 ok a r.1 in
          let goes_on : does n r.0 ≡ goes t = sym (onward_stays (does n r.0)) ∙ r.2 in
          (goes_valid n r.0 t proper reached.0 goes_on, flowed sound c.fact n 0 proper r.0 t reached.0 reached.1 (ap (leaving 0) goes_on))
      past exits.Two e s t ok a q = h.reaches s t ok a (sym (ap (λ r. through r s) (append-nil (straights c.done))) ∙ q)
      past exits.None e s t ok a q = h.reaches s t ok a (sym (ap (λ r. through r s) (append-nil (straights c.done))) ∙ q)

  taken_good : (n : Node) (rest : List Node) (c : Course F) (row : List Node) (way numbers : ℕ) → Good c (n ∷ rest)
      → Shows v c.fact n (instead row way numbers) → length c.done + length row + length rest ≤ 4
      → Good (taken_up n way numbers c) (row ++ rest)
  taken_good n rest c row way numbers h p fits =
      let form = formed_front (exits_of n₀) c.way c.done n rest h.formed in
      let parts = every_split Proper c.done (n ∷ rest) h.proper in
      record {
        acts = λ s ok a.
            ap (leaving (way_after (exits_of n) c.way way)) (through_append c.done (row ++ rest) s)
            ∙ run form.0 form.1 s ok a (through c.done s) refl
            ∙ ap (leaving c.way) (sym (through_append c.done (n ∷ rest) s))
            ∙ h.acts s ok a;
        formed = formed_after (exits_of n₀) (way_after (exits_of n) c.way way) c.done (row ++ rest) form.0
            (same_form (exits_of n₀) c.way n rest row way form.1 (exits_of n) refl p.0.formed);
        proper = every_append Proper c.done (row ++ rest) parts.0 (every_append Proper row rest p.0.proper parts.1.1);
        short = simp length-append (omega arith);
        reaches = h.reaches;
        numbers = union c.replaced c.numbers numbers h.numbers p.0.some p.0.known p.0.even;
      }
    where
      run : Every IsStraight c.done → FormedFrom (exits_of n₀) c.way n rest → (s : State) → Valid s → v.allows f₀ (state s) → (o : Outcome) → through c.done s ≡ o
          → leaving (way_after (exits_of n) c.way way) (onward o (through (row ++ rest))) ≡ leaving c.way (onward o (through (n ∷ rest)))
      run straight form s ok a (goes u) e =
          let reached = h.reaches s u ok a (ap (λ q. through q s) (straights_all c.done straight) ∙ e) in
          same_run (exits_of n₀) c.way n rest row way form (exits_of n) refl p.0.formed u (p.1 u reached.0 reached.1)
      run straight form s ok a (turns x u) e = refl
      run straight form s ok a (stops z u) e = refl

  each_good : (look : Node → ℕ → Course F → Course F) → ((n : Node) (rest : List Node) (c : Course F) → Good c (n ∷ rest) → Good (look n (length rest) c) rest)
      → (row rest : List Node) (c : Course F) → Good c (row ++ rest) → Good (each m look row (length rest) c) rest
  each_good look ih [] rest c h = h
  each_good look ih (n ∷ row) rest c h =
      each_good look ih row rest (look n (length row + length rest) c)
      (subst (λ k. Good (look n k c) (row ++ rest)) (length-append row rest) (ih n (row ++ rest) c h))

  pub looked_good : (levels : ℕ) (n : Node) (rest : List Node) (c : Course F) → Good c (n ∷ rest) → Good (looked m levels n (length rest) c) rest
  unfolding looked
  looked_good zero n rest c h = kept_good n rest c h
  looked_good (suc levels) n rest c h =
      try (looked_good levels) (m.proposal c.fact n) (offered sound c.fact n (every_split Proper c.done (n ∷ rest) h.proper).1.0)
    where
      choose : (row : List Node) (way numbers : ℕ) → Shows v c.fact n (instead row way numbers)
          → ((n : Node) (rest : List Node) (c : Course F) → Good c (n ∷ rest) → Good (looked m levels n (length rest) c) rest)
          → (b : Bool) → nat_le (length c.done + length row + length rest) row_limit ≡ b
          → Good (cond b (each m (looked m levels) row (length rest) (taken_up n way numbers c)) (kept m n c)) rest
      choose row way numbers p ih true e = each_good (looked m levels) ih row rest (taken_up n way numbers c) (taken_good n rest c row way numbers h p (grind (arith, nat_tests)))
      choose row way numbers p ih false e = kept_good n rest c h

      try : ((n : Node) (rest : List Node) (c : Course F) → Good c (n ∷ rest) → Good (looked m levels n (length rest) c) rest)
          → (q : Proposed) → Shows v c.fact n q → Good (tried m (looked m levels) q n (length rest) c) rest
      try ih absent p = kept_good n rest c h
      try ih (instead row way numbers) p = choose row way numbers p ih (nat_le (length c.done + length row + length rest) row_limit) refl

  begun_good : Proper n₀ → Good (begun f₀) (n₀ ∷ [])
  begun_good proper = record {
    acts = λ s ok a. ap (leaving 0) (onward_stays (does n₀ s));
    formed = own (exits_of n₀);
    proper = (proper, tt);
    short = omega arith;
    reaches = λ s t ok a e. (subst Valid (inner s t e) ok, subst (λ u. v.allows f₀ (state u)) (inner s t e) a);
    numbers = record { some = λ e. absurd (let never : ◌≡◌ {A = ℕ} 0 1 = cc in omega arith); known = omega arith; even = refl };
  }
    where
      inner : (s t : State) → goes s ≡ goes t → s ≡ t
      inner s t e = cc

      own : (k : Exits) → Last k k 0
      own exits.One = refl
      own exits.Two = refl
      own exits.None = refl

  pub course_good : Proper n₀ → Good (course m f₀ n₀) []
  course_good proper = looked_good depth_limit n₀ [] (begun f₀) (begun_good proper)

last_proper : (n : Node) (rest : List Node) → Every Proper (n ∷ rest) → Proper (last_of n rest)
last_proper n [] h = h.0
last_proper n (x ∷ rest) h = last_proper x rest h.1

row_last_proper : (row : List Node) → Every Proper row → Proper (last_of Skip row)
row_last_proper [] h = refl
row_last_proper (n ∷ rest) h = last_proper n rest h

module _ {F : Type 0} {v : FactsOf F} {m : MovesOf F} (sound : MovesShow v m) where
  -- the fact for an exit, by the kind of the row's last node
  exit_good : (f₀ : F) (c : Course F) (K : Exits) (s t : State) (e : ℕ) → Valid s → v.allows f₀ (state s)
      → Formed K c.way c.done → Every Proper c.done
      → ((t : State) → through (straights c.done) s ≡ goes t → Valid t × v.allows c.fact (state t))
      → leaving c.way (through c.done s) ≡ turns e t
      → v.allows (fact_by m v (exits_of (last_of Skip c.done)) c e) (state t)
  exit_good f₀ c K s t e ok a = at_row c.done
    where
      with_done : List Node → Course F
      with_done d = record { fact = c.fact; done = d; way = c.way; numbers = c.numbers; replaced = c.replaced }

      straight_out : (o : Outcome) → NoTurn o → ((t : State) → o ≡ goes t → Valid t × v.allows c.fact (state t)) → leaving c.way o ≡ turns e t
          → v.allows (cond (e == c.way) c.fact v.nowhere) (state t)
      straight_out (goes u) q r l =
          let way : c.way ≡ e = cc in
          let there : u ≡ t = cc in
          let same : nat_eq e c.way ≡ true = grind (arith, nat_tests) in
          subst (λ b. v.allows (cond b c.fact v.nowhere) (state t)) (sym same) (r t (ap goes there)).1
      straight_out (turns x u) q r l = absurd q
      straight_out (stops z u) q r l = stops_not_turns z e u t l

      branch_exit : (n : Node) → exits_of n ≡ exits.Two → Proper n → (o : Outcome) → NoTurn o → ((t : State) → o ≡ goes t → Valid t × v.allows c.fact (state t))
          → leaving c.way (onward o (does n)) ≡ turns e t → v.allows (m.flow c.fact n e) (state t)
      branch_exit n k p (goes u) q r l = flowed sound c.fact n e p u t (r u refl).0 (r u refl).1 (branch_exits n u 0 k ∙ sym (branch_exits n u c.way k) ∙ l)
      branch_exit n k p (turns x u) q r l = absurd q
      branch_exit n k p (stops z u) q r l = stops_not_turns z e u t l

      no_exit : (n : Node) → exits_of n ≡ exits.None → (o : Outcome) → NoTurn o → leaving c.way (onward o (does n)) ≡ turns e t → v.allows v.nowhere (state t)
      no_exit n k (goes u) q l = let x = ending_stops n u k in stops_not_turns x.0 e u t (sym (ap (leaving c.way) x.1) ∙ l)
      no_exit n k (turns x u) q l = absurd q
      no_exit n k (stops z u) q l = stops_not_turns z e u t l

      by_kind : (n : Node) (rest : List Node) → FormedFrom K c.way n rest → Every Proper (n ∷ rest)
          → ((t : State) → through (straights (n ∷ rest)) s ≡ goes t → Valid t × v.allows c.fact (state t))
          → leaving c.way (through (n ∷ rest) s) ≡ turns e t
          → (k : Exits) → exits_of (last_of n rest) ≡ k → v.allows (fact_by m v k (with_done (n ∷ rest)) e) (state t)
      by_kind n rest f p r l exits.One k =
          let all = last_straight K c.way n rest f k in
          straight_out (through (n ∷ rest) s) (row_no_turn (n ∷ rest) s all) (λ t q. r t (ap (λ x. through x s) (straights_all (n ∷ rest) all) ∙ q)) l
      by_kind n rest f p r l exits.Two k =
          branch_exit (last_of n rest) k (last_proper n rest p) (through (straights (n ∷ rest)) s) (row_no_turn (straights (n ∷ rest)) s (straights_straight (n ∷ rest))) r
          (sym (ap (leaving c.way) (last_other K c.way n rest s f (branch_not_straight (exits_of (last_of n rest)) k))) ∙ l)
      by_kind n rest f p r l exits.None k =
          no_exit (last_of n rest) k (through (straights (n ∷ rest)) s) (row_no_turn (straights (n ∷ rest)) s (straights_straight (n ∷ rest)))
          (sym (ap (leaving c.way) (last_other K c.way n rest s f (ending_not_straight (exits_of (last_of n rest)) k))) ∙ l)

      at_row : (d : List Node) → Formed K c.way d → Every Proper d
          → ((t : State) → through (straights d) s ≡ goes t → Valid t × v.allows c.fact (state t))
          → leaving c.way (through d s) ≡ turns e t
          → v.allows (fact_by m v (exits_of (last_of Skip d)) (with_done d) e) (state t)
      at_row [] f p r l = absurd f
      at_row (n ∷ rest) f p r l = by_kind n rest f p r l (exits_of (last_of n rest)) refl

  -- the finished row has the form for the node, and acts as it
  pub done_proper : (f : F) (n : Node) → Proper n → Every Proper (course m f n).done
  done_proper f n h = subst (Every Proper) (append-nil (course m f n).done) (course_good sound f n h).proper

  pub done_last_proper : (f : F) (n : Node) → Proper n → Proper (last_of Skip (course m f n).done)
  done_last_proper f n h = row_last_proper (course m f n).done (done_proper f n h)

  pub deep_sound : MovesShow v (deep_moves m v)
  deep_sound = record {
    start = sound.start;
    flow = λ f n e h s t ok a l.
        let c = course m f n in
        let g = course_good sound f n h in
        let nil = append-nil c.done in
        exit_good f c (exits_of n) s t e ok a (subst (Formed (exits_of n) c.way) nil g.formed) (done_proper f n h) (λ u q. g.reaches s u ok a q)
        (sym (ap (λ q. leaving c.way (through q s)) nil) ∙ g.acts s ok a ∙ leaves_turns n s t e l);
    proposal = λ f n h. proposed f n (course m f n) (course_good sound f n h) (course m f n).replaced refl;
  }
    where
      proposed : (f : F) (n : Node) (c : Course F) → Good sound f n c [] → (b : Bool) → c.replaced ≡ b
          → ProposalShows v f n (cond b (instead c.done c.way c.numbers) absent)
      proposed f n c g true e =
          let nil = append-nil c.done in
          let form = subst (Formed (exits_of n) c.way) nil g.formed in (
            for_row n c.done c.way c.numbers (record {
              formed = form;
              proper = subst (Every Proper) nil g.proper;
              short = subst (λ q. length q ≤ 4) nil g.short;
              some = g.numbers.some e;
              known = g.numbers.known;
              even = g.numbers.even;
            }),
            λ s ok a. leaving_acts (exits_of n) c.way c.done n s form (sym (ap (λ q. leaving c.way (through q s)) nil) ∙ g.acts s ok a),
          )
      proposed f n c g false e = tt
