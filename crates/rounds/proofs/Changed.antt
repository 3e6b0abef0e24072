-- Changes that act as their nodes leave the program the same to every machine.
use Rattle.std.proofs.Common.{◌≡◌, ℕ, suc, ◌+◌, ◌-◌, ◌<◌, ◌≤◌, ◌≢◌, ◌⊎◌, List, [], ◌∷◌, ◌++◌, length, get_or, set, sym, refl, ap, ◌∙◌, subst, inl, inr, ⊎_elim, arith}
use Rattle.std.proofs.lemmas.List.{append_assoc, length-append, length-set, length_push, get_or_at, get_or_append_left, get_or-set_same, get_or-set_other}
use Rattle.std.proofs.lemmas.Bool.{cases_eq}
use Rattle.machine.specs.Every.{Every}
use Rattle.machine.specs.declared.node.Entry.{Entry}
use Rattle.machine.specs.declared.node.Node.{Node}
use Rattle.machine.specs.Equivalent.{Runnable, Equivalent}
use Rattle.machine.specs.Laws.{ValidAt}
use Rattle.machine.specs.Programs.{Prog, IsProgram}
use Rattle.machine.specs.Runs.{Config, running, ended, entry_of, follow, step, after, start, fresh, unlimited}
use Rattle.machine.specs.State.{State, Valid}
use Rattle.machine.specs.Step.{Effect, act}
use Rattle.machine.specs.WellFormed.{blank}
use Rattle.machine.proofs.Simulation.{Alike, Together, same_alike, after_step, together_equivalent}
use Rattle.machine.proofs.Validity.{valid_run}
use Rattle.analysis.specs.Rows.{run_row}
use Rattle.rounds.specs.Changes.{Replacement, leading, on_to, laid, row_put, changed_by, changed_by_all}
use Rattle.rounds.specs.Rounds.{Rising, size_after}
use Rattle.rounds.proofs.Laid.{Arrives, Laid, row_arrives}

-- ---- what one change does to the table

pub laid_length : (old : Entry) (way : ℕ) (ns : List Node) (next : ℕ) → length (laid old way ns next) ≡ length ns
laid_length old way [] next = refl
laid_length old way (n ∷ ns) next = ap suc (laid_length old way ns (suc next))

module _ (q : Prog) (old : Entry) (at way : ℕ) where
  pub put_length : (row : List Node) → length (row_put q old at way row).entries ≡ length q.entries + (length row - 1)
  put_length [] = omega arith
  put_length (n ∷ ns) = simp (length-append, length-set, laid_length) (omega arith)

  put_first : (row : List Node) → (row_put q old at way row).first ≡ q.first
  put_first [] = refl
  put_first (n ∷ ns) = refl

  put_elsewhere : (row : List Node) (i : ℕ) → i < length q.entries → i ≢ at → entry_of (row_put q old at way row) i ≡ entry_of q i
  put_elsewhere [] i below apart = refl
  put_elsewhere (n ∷ ns) i below apart =
      get_or_append_left (set q.entries at _) _ blank i (simp length-set below) ∙ get_or-set_other q.entries at i _ blank apart

module _ (q : Prog) (c : Replacement) where
  pub changed_length : length (changed_by q c).entries ≡ size_after c (length q.entries)
  unfolding changed_by
  changed_length = put_length q (entry_of q c.at) c.at c.way c.row

  pub changed_longer : length q.entries ≤ length (changed_by q c).entries
  changed_longer = omega (arith, changed_length)

  pub changed_first : (changed_by q c).first ≡ q.first
  unfolding changed_by
  changed_first = put_first q (entry_of q c.at) c.at c.way c.row

  pub changed_elsewhere : (i : ℕ) → i < length q.entries → i ≢ c.at → entry_of (changed_by q c) i ≡ entry_of q i
  unfolding changed_by
  changed_elsewhere = put_elsewhere q (entry_of q c.at) c.at c.way c.row

-- ---- where a row stands

-- the row stands in the place of `old` at i: an empty one leaves it there
abbrev Stands : ℕ → Prog → Entry → ℕ → List Node → ℕ → Type 0
Stands low q old way [] i = entry_of q i ≡ old
Stands low q old way (n ∷ ns) i = (j : ℕ) × (entry_of q i ≡ leading old n j) × Laid low q old way ns j

-- a row laid behind some entries
laid_behind : (low : ℕ) (q : Prog) (old : Entry) (way : ℕ) (ns : List Node) (xs : List Entry) (next : ℕ) →
    q.entries ≡ xs ++ laid old way ns next → length xs ≡ next → low ≤ next → Laid low q old way ns (on_to old way ns next)
laid_behind low q old way [] xs next e l h = refl
laid_behind low q old way (n ∷ ns) xs next e l h =
    let x = leading old n (on_to old way ns (suc next)) in (
      h,
      rw e (simp length-append (omega arith)),
      (
        on_to old way ns (suc next),
        ap (λ (es : List Entry). get_or es next blank) e ∙ get_or_at xs x (laid old way ns (suc next)) blank next l,
        laid_behind low q old way ns (xs ++ x ∷ []) (suc next) (e ∙ sym (append_assoc xs (x ∷ []) (laid old way ns (suc next))))
            (simp length_push (omega arith)) (omega arith),
      ),
    )

put_stands : (low : ℕ) (q : Prog) (old : Entry) (at way : ℕ) (row : List Node) → entry_of q at ≡ old → at < length q.entries → low ≤ length q.entries →
    Stands low (row_put q old at way row) old way row at
put_stands low q old at way [] is below big = is
put_stands low q old at way (n ∷ ns) is below big = (
  on_to old way ns (length q.entries),
  get_or_append_left (set q.entries at _) _ blank at (simp length-set below) ∙ get_or-set_same q.entries at _ blank below,
  laid_behind low (row_put q old at way (n ∷ ns)) old way ns (set q.entries at _) (length q.entries) refl (simp length-set refl) big,
)

-- ---- later changes leave it there

laid_kept : (low : ℕ) (q : Prog) (c : Replacement) → c.at < low → (old : Entry) (way : ℕ) (ns : List Node) (i : ℕ) →
    Laid low q old way ns i → Laid low (changed_by q c) old way ns i
laid_kept low q c h old way [] i l = l
laid_kept low q c h old way (n ∷ ns) i l = (
  l.0,
  (let k = changed_longer q c in let b = l.1 in omega arith),
  (
    l.2.0,
    changed_elsewhere q c i l.1 (λ e. let a = l.0 in omega arith) ∙ l.2.1,
    laid_kept low q c h old way ns l.2.0 l.2.2,
  ),
)

stands_kept : (low : ℕ) (q : Prog) (c : Replacement) → c.at < low → (old : Entry) (way : ℕ) (row : List Node) (i : ℕ) → i < length q.entries → i ≢ c.at →
    Stands low q old way row i → Stands low (changed_by q c) old way row i
stands_kept low q c h old way [] i below apart s = changed_elsewhere q c i below apart ∙ s
stands_kept low q c h old way (n ∷ ns) i below apart s =
    (s.0, changed_elsewhere q c i below apart ∙ s.1, laid_kept low q c h old way ns s.0 s.2)

-- ---- what all changes do: each old node stands as it was, or the row of a change stands in its place

pub all_first : (cs : List Replacement) (q : Prog) → (changed_by_all q cs).first ≡ q.first
all_first [] q = refl
all_first (c ∷ cs) q = all_first cs (changed_by q c) ∙ changed_first q c

module _ (low : ℕ) where
  still : (cs : List Replacement) (from : ℕ) → Rising from low cs → (q : Prog) → low ≤ length q.entries → (i : ℕ) → i < from → i < low →
      (old : Entry) (way : ℕ) (row : List Node) → Stands low q old way row i → Stands low (changed_by_all q cs) old way row i
  still [] from up q big i under below old way row s = s
  still (c ∷ cs) from up q big i under below old way row s =
      let longer = changed_longer q c in
      let place = up.0 in
      still cs (suc c.at) up.2 (changed_by q c) (omega arith) i (omega arith) below old way row
      (stands_kept low q c up.1 old way row i (omega arith) (λ e. omega arith) s)

  -- a change in whose place the row of it stands
  record Replaced (P : Replacement → Type 0) (q : Prog) (old : Entry) (i : ℕ) : Type 0 where
    pub change : Replacement
    pub holds : P change
    pub place : change.at ≡ i
    pub stands : Stands low q old change.way change.row i

  replaced_here : (P : Replacement → Type 0) (c : Replacement) → P c → (cs : List Replacement) → c.at < low → Rising (suc c.at) low cs →
      (q : Prog) → low ≤ length q.entries → Replaced P (changed_by_all (changed_by q c) cs) (entry_of q c.at) c.at
  unfolding changed_by
  replaced_here P c holds cs below up q big =
      let longer = changed_longer q c in
      record {
        change = c;
        holds = holds;
        place = refl;
        stands = still cs (suc c.at) up (changed_by q c) (omega arith) c.at (omega arith) below (entry_of q c.at) c.way c.row
            (put_stands low q (entry_of q c.at) c.at c.way c.row refl (omega arith) big);
      }

  each_place : (P : Replacement → Type 0) (cs : List Replacement) (from : ℕ) → Rising from low cs → Every P cs → (q : Prog) → low ≤ length q.entries →
      (i : ℕ) → i < low → (entry_of (changed_by_all q cs) i ≡ entry_of q i) ⊎ Replaced P (changed_by_all q cs) (entry_of q i) i
  each_place P [] from up all q big i below = inl refl
  each_place P (c ∷ cs) from up all q big i below =
      let longer = changed_longer q c in
      ⊎_elim
      (λ same. subst (λ (k : ℕ). Found k (entry_of q k)) (sym same) (inr (replaced_here P c all.0 cs up.1 up.2 q big)))
      (λ apart. subst (λ (e : Entry). Found i e) (changed_elsewhere q c i (omega arith) apart)
      (each_place P cs (suc c.at) up.2 all.1 (changed_by q c) (omega arith) i below))
      (cases_eq i c.at)
    where
      Found : ℕ → Entry → Type 0
      Found k e = (entry_of (changed_by_all (changed_by q c) cs) k ≡ e) ⊎ Replaced P (changed_by_all (changed_by q c) cs) e k

-- ---- the two programs run together

-- every state that a run of p brings to a node is allowed there
abbrev pub Reached : Prog → (ℕ → State → Type 0) → Type 0
Reached p Allowed =
    (cells inputs : List ℕ) → Runnable cells inputs → (steps n : ℕ) (s : State) → unlimited p cells inputs steps ≡ running n s → Allowed n s

-- from each valid allowed state the row acts as the node of p in its place
abbrev pub ActsAs : Prog → (ℕ → State → Type 0) → Replacement → Type 0
ActsAs p Allowed c = (s : State) → Valid s → Allowed c.at s → act (entry_of p c.at).node s ≡ run_row c.row c.way s

module _ (p : Prog) (ok : IsProgram p) (Allowed : ℕ → State → Type 0) (reached : Reached p Allowed)
    (cs : List Replacement) (rising : Rising 0 (length p.entries) cs) (acting : Every (ActsAs p Allowed) cs) where
  q : Prog
  q = changed_by_all p cs

  in_place : (i : ℕ) (s : State) (way : ℕ) (row : List Node) → Stands (length p.entries) q (entry_of p i) way row i →
      act (entry_of p i).node s ≡ run_row row way s → Arrives q (step q (running i s)) (step p (running i s))
  in_place i s way [] same acts = (0, ap (λ (e : Entry). follow e (act e.node s)) same)
  in_place i s way (n ∷ ns) stands acts =
      subst (λ (f : Effect). Arrives q (step q (running i s)) (follow (entry_of p i) f)) (sym acts)
      (row_arrives (length p.entries) q (entry_of p i) way n ns i stands.0 stands.1 stands.2 s)

  -- one step of the old program is one or more of the new
  matched : (i : ℕ) (s : State) → i < length p.entries → Valid s → Allowed i s → Arrives q (step q (running i s)) (step p (running i s))
  unfolding q
  matched i s below valid allowed =
      ⊎_elim
      (λ same. (0, ap (λ (e : Entry). follow e (act e.node s)) same))
      (λ r.
      let c = r.change in
      in_place i s c.way c.row r.stands
      (subst (λ (k : ℕ). Allowed k s → act (entry_of p k).node s ≡ run_row c.row c.way s) r.place (r.holds s valid) allowed))
      (each_place (length p.entries) (ActsAs p Allowed) cs 0 rising acting p (omega arith) i below)

  module _ (cells inputs : List ℕ) where
    -- the same configuration, reached by a run of p
    abbrev Meet : Config → Config → Type 0
    Meet c d = (c ≡ d) × ((k : ℕ) × (unlimited p cells inputs k ≡ c))

    meets_on : Runnable cells inputs → (c : Config) (k : ℕ) → unlimited p cells inputs k ≡ c → (a : ℕ) × (b : ℕ) × Meet (after p (suc a) c) (after q (suc b) c)
    meets_on given (running i s) k reach =
        let valid = subst (ValidAt p) reach (valid_run p ok cells inputs given.0 given.1 given.2 k) in
        let m = matched i s valid.0 valid.1 (reached cells inputs given k i s reach) in
        (0, m.0, (sym m.1, (suc k, after_step p k (start p cells inputs) ∙ ap (step p) reach)))
    meets_on given (ended e s) k reach = (0, 0, (refl, (k, reach)))

    together : Runnable cells inputs → Together p q cells inputs Meet
    unfolding q
    together given =
        record {
          begins = (ap (λ (i : ℕ). running i (fresh cells inputs)) (sym (all_first cs p)), (0, refl));
          alike = λ c d m. subst (λ (x : Config). Alike c x) m.0 (same_alike c);
          meets = λ c d m.
              subst (λ (x : Config). (a : ℕ) × (b : ℕ) × Meet (after p (suc a) c) (after q (suc b) x)) m.0 (meets_on given c m.1.0 m.1.1);
        }

  pub changed_equivalent : Equivalent p (changed_by_all p cs)
  unfolding q
  changed_equivalent = together_equivalent p (changed_by_all p cs) Meet together
